use native.Mathlib.Omega.{arith}
use mathlib.Core.Path.{refl}
use Rattle.definitions.proofs.Lists.{fill}
use Rattle.capability_engine.proofs.PoolZips.{zip_start, zip-lt}
use Rattle.capability_engine.proofs.RegionTurns.{last-asks, last-put, fill-skip, over-asks, over-put, in-asks, in-put}
use Rattle.capability_engine.proofs.region.fill_gaps.Goals as goal

pub loop-next-init : goal.loop-next-init
loop-next-init c = zip_start _ _ _ (fill c.args.start c.args.end) c.requires.ready

pub offset_bounds-next-q : goal.offset_bounds-next-q
offset_bounds-next-q c = omega (arith, zip-lt c.loop-next.invariant)

pub bounds-next-q : goal.bounds-next-q
bounds-next-q c = omega (arith, zip-lt c.loop-next.invariant)

pub put_gap-requires : goal.put_gap-requires
put_gap-requires c = record { can_insert = λ l. last-asks _ _ c.loop-next.invariant c.if-x-ge1024.true c.requires.room l; words_len = c.loop-next.invariant.pass.ready.words }

pub returns-then-x-ge1024 : goal.returns-then-x-ge1024
returns-then-x-ge1024 c = last-put _ _ c.loop-next.invariant c.if-x-ge1024.true _ _ _ c.put_gap.ensures

pub load-r-requires : goal.load-r-requires
load-r-requires c = (c.if-x-ge1024.false, c.loop-next.invariant.pass.ready.words)

pub loop-next-smaller-then-to-s : goal.loop-next-smaller-then-to-s
loop-next-smaller-then-to-s c = (fill-skip _ _ c.loop-next.invariant _ _ refl c.if-x-ge1024.false c.load-r.ensures c.if-to-s.true).1

pub loop-next-preserved-then-to-s : goal.loop-next-preserved-then-to-s
loop-next-preserved-then-to-s c = (fill-skip _ _ c.loop-next.invariant _ _ refl c.if-x-ge1024.false c.load-r.ensures c.if-to-s.true).0

pub put_gap-requires-then-end-from : goal.put_gap-requires-then-end-from
put_gap-requires-then-end-from c = record { can_insert = λ l. over-asks _ _ c.loop-next.invariant _ _ refl c.if-x-ge1024.false c.load-r.ensures c.if-to-s.false c.if-end-from.true c.requires.room l; words_len = c.loop-next.invariant.pass.ready.words }

pub shape_of-next-then-end-from : goal.shape_of-next-then-end-from
shape_of-next-then-end-from c = omega (arith, (over-put _ _ c.loop-next.invariant _ _ refl c.if-x-ge1024.false c.load-r.ensures c.if-to-s.false c.if-end-from.true _ _ _ c.put_gap-then-end-from.ensures).ready.own.size, c.requires.ready.own.size)

pub shape_of-words-then-end-from : goal.shape_of-words-then-end-from
shape_of-words-then-end-from c = omega (arith, (over-put _ _ c.loop-next.invariant _ _ refl c.if-x-ge1024.false c.load-r.ensures c.if-to-s.false c.if-end-from.true _ _ _ c.put_gap-then-end-from.ensures).ready.words, c.requires.ready.words)

pub shape_of-links-then-end-from : goal.shape_of-links-then-end-from
shape_of-links-then-end-from c = omega (arith, (over-put _ _ c.loop-next.invariant _ _ refl c.if-x-ge1024.false c.load-r.ensures c.if-to-s.false c.if-end-from.true _ _ _ c.put_gap-then-end-from.ensures).ready.heap.grown.list.size, c.requires.ready.heap.grown.list.size)

pub returns-then-end-from : goal.returns-then-end-from
returns-then-end-from c = over-put _ _ c.loop-next.invariant _ _ refl c.if-x-ge1024.false c.load-r.ensures c.if-to-s.false c.if-end-from.true _ _ _ c.put_gap-then-end-from.ensures

pub put_gap-requires-else-end-from : goal.put_gap-requires-else-end-from
put_gap-requires-else-end-from c = record { can_insert = λ l. in-asks _ _ c.loop-next.invariant _ _ refl c.if-x-ge1024.false c.load-r.ensures c.if-to-s.false c.if-end-from.false c.requires.room l; words_len = c.loop-next.invariant.pass.ready.words }

pub loop-next-smaller : goal.loop-next-smaller
loop-next-smaller c = (in-put _ _ c.loop-next.invariant _ _ refl c.if-x-ge1024.false c.load-r.ensures c.if-to-s.false c.if-end-from.false _ _ _ c.put_gap-else-end-from.ensures).1

pub loop-next-preserved : goal.loop-next-preserved
loop-next-preserved c = (in-put _ _ c.loop-next.invariant _ _ refl c.if-x-ge1024.false c.load-r.ensures c.if-to-s.false c.if-end-from.false _ _ _ c.put_gap-else-end-from.ensures).0
