use native.Mathlib.Omega.{arith}
use mathlib.Core.List.{[]}
use Rattle.exports.proofs.Laws.{prints-none, prints-full, prints-all, prints-last, counted}
use Rattle.exports.proofs.Pool.print.Goals.{then-p-via-then-p, then-p-via-else-p+then-p-eq0}
use Rattle.exports.proofs.Pool.print.Goals as goal

pub returns-in_default : goal.returns-in_default
returns-in_default c = prints-none _ _ _ _ c.put_heading.ensures c.in_default.is

pub feed-requires : goal.feed-requires
feed-requires c = record { calls = []; grown = c.empty-tables.ensures }

pub overflow_add-result : goal.overflow_add-result
overflow_add-result c = elim c.then-p.branch [
  | then-p-via-then-p w ↦ record { fits = omega (arith, counted _ _ _ _ (prints-full _ _ _ _ c.put_heading.ensures _ c.in-Some.is _ c.new-left.ensures _ _ _ _ _ _ _ (c.feed.ensures [] c.empty-tables.ensures) w.if-p.true), c.well_formed.1.1.0) }
  | then-p-via-else-p+then-p-eq0 w ↦ record { fits = omega (arith, counted _ _ _ _ (prints-all _ _ _ _ c.put_heading.ensures _ c.in-Some.is _ c.new-left.ensures _ _ _ _ _ _ _ (c.feed.ensures [] c.empty-tables.ensures) w.if-p.false w.if-p-eq0.true), c.well_formed.1.1.0) }
]

pub returns-then-p : goal.returns-then-p
returns-then-p c = elim c.then-p.branch [
  | then-p-via-then-p w ↦ prints-full _ _ _ _ c.put_heading.ensures _ c.in-Some.is _ c.new-left.ensures _ _ _ _ _ _ _ (c.feed.ensures [] c.empty-tables.ensures) w.if-p.true
  | then-p-via-else-p+then-p-eq0 w ↦ prints-all _ _ _ _ c.put_heading.ensures _ c.in-Some.is _ c.new-left.ensures _ _ _ _ _ _ _ (c.feed.ensures [] c.empty-tables.ensures) w.if-p.false w.if-p-eq0.true
]

pub feed-requires-2 : goal.feed-requires-2
feed-requires-2 c = let q = (c.feed.ensures [] c.empty-tables.ensures) in record { calls = q.later; grown = q.grown }

pub overflow_add-result-2 : goal.overflow_add-result-2
overflow_add-result-2 c = record { fits = omega (arith, counted _ _ _ _ (let f = (c.feed.ensures [] c.empty-tables.ensures) in prints-last _ _ _ _ c.put_heading.ensures _ c.in-Some.is _ c.new-left.ensures _ _ _ _ _ _ _ f c.if-p.false c.if-p-eq0.false _ _ _ _ _ _ _ (c.feed-2.ensures f.later f.grown)), c.well_formed.1.1.0) }

pub overflow_add-result-3 : goal.overflow_add-result-3
overflow_add-result-3 c = record { fits = omega (arith, counted _ _ _ _ (let f = (c.feed.ensures [] c.empty-tables.ensures) in prints-last _ _ _ _ c.put_heading.ensures _ c.in-Some.is _ c.new-left.ensures _ _ _ _ _ _ _ f c.if-p.false c.if-p-eq0.false _ _ _ _ _ _ _ (c.feed-2.ensures f.later f.grown)), c.well_formed.1.1.0) }

pub returns : goal.returns
returns c = (let f = (c.feed.ensures [] c.empty-tables.ensures) in prints-last _ _ _ _ c.put_heading.ensures _ c.in-Some.is _ c.new-left.ensures _ _ _ _ _ _ _ f c.if-p.false c.if-p-eq0.false _ _ _ _ _ _ _ (c.feed-2.ensures f.later f.grown))
