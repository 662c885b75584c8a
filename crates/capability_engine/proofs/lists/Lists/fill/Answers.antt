use Rattle.capability_engine.proofs.StreamTurns.{told-done, told-found}
use Rattle.definitions.proofs.Fills.{five, walk_start, walk_kept, walk-fits, walk-short, walk_more}
use Rattle.definitions.specs.Pages.{mapping_group}
use mathlib.Core.Path.{sym, ◌∙◌}
use native.Mathlib.Omega.{arith}
use Rattle.capability_engine.proofs.StreamWalks.{walk-all}
use Rattle.capability_engine.proofs.lists.Lists.fill.Goals as goal
use Rattle.capability_engine.proofs.lists.Lists.fill.Goals.{then-goes_on, else-goes_on+in-Some}

pub loop-i-init : goal.loop-i-init
loop-i-init c = (c.requires, walk_start 5 mapping_group five)

pub go_on-requires : goal.go_on-requires
go_on-requires c = record { ready = c.loop-i.invariant.0; c_value = sym c.goes_on.ensures ∙ c.if-goes_on.true }

pub put_mapping-requires : goal.put_mapping-requires
put_mapping-requires c = walk-fits 5 mapping_group five c.loop-i.invariant.1 c.loop-i-test.true

pub shape_of-out-in_default : goal.shape_of-out-in_default
shape_of-out-in_default c = walk_kept 5 mapping_group five c.loop-i.invariant.1

pub returns-in_default : goal.returns-in_default
returns-in_default c = let a = c.args in
    walk-short 5 mapping_group five c.loop-i.invariant.1 (told-done a.self.next.now a.self.words.now a.self.segments.now a.self.n c.loop-i.c c.next_mapping.result c.next_mapping.ensures c.in_default.is)

pub put_mapping-requires-else-goes_on : goal.put_mapping-requires-else-goes_on
put_mapping-requires-else-goes_on c = walk-fits 5 mapping_group five c.loop-i.invariant.1 c.loop-i-test.true

pub loop-i-preserved : goal.loop-i-preserved
loop-i-preserved c = let a = c.args in elim c.if-goes_on.branch [
  | then-goes_on w ↦ let v = w.go_on.ensures in rw (w.c-is, w.out-is) (v.1, walk_more 5 mapping_group five c.loop-i.invariant.1 v.0 c.loop-i-test.true w.put_mapping.ensures)
  | else-goes_on+in-Some w ↦ let v = told-found a.self.next.now a.self.words.now a.self.segments.now a.self.n c.loop-i.c w.next_mapping.result w.next_mapping.ensures _ _ w.in-Some.is in
      rw (w.c-is, w.out-is) (v.1, walk_more 5 mapping_group five c.loop-i.invariant.1 v.0 c.loop-i-test.true w.put_mapping-else-goes_on.ensures)
]

pub shape_of-out : goal.shape_of-out
shape_of-out c = walk_kept 5 mapping_group five c.loop-i.invariant.1

pub returns : goal.returns
returns c = walk-all 5 mapping_group five c.loop-i.invariant.1 (omega arith)
