use Rattle.definitions.specs.Regions.{region}
use native.Mathlib.Omega.{arith}
use mathlib.Core.Path.{refl}
use Rattle.definitions.specs.Regions.{joined}
use Rattle.capability_engine.proofs.PoolZips.{zip_start, zip-lt}
use Rattle.capability_engine.proofs.RegionTurns.{join-end, join_last, join-asks, join-two, join-on}
use Rattle.capability_engine.proofs.region.coalesce.Goals as goal

pub loop-q-init : goal.loop-q-init
loop-q-init c = zip_start _ _ _ joined c.requires

pub offset_bounds-next-q : goal.offset_bounds-next-q
offset_bounds-next-q c = omega (arith, zip-lt c.loop-q.invariant)

pub bounds-next-q : goal.bounds-next-q
bounds-next-q c = omega (arith, zip-lt c.loop-q.invariant)

pub returns-then-x-ge1024 : goal.returns-then-x-ge1024
returns-then-x-ge1024 c = join-end c.loop-q.invariant c.if-x-ge1024.true

pub bounds-next-x : goal.bounds-next-x
bounds-next-x c = omega (arith, c.if-x-ge1024.false, c.loop-q.invariant.own.size)

pub returns-then-y-ge1024 : goal.returns-then-y-ge1024
returns-then-y-ge1024 c = join_last c.loop-q.invariant _ refl c.if-x-ge1024.false c.if-y-ge1024.true

pub load-a-requires : goal.load-a-requires
load-a-requires c = (c.if-x-ge1024.false, c.loop-q.invariant.pass.ready.words)

pub load-b-requires : goal.load-b-requires
load-b-requires c = (c.if-y-ge1024.false, c.loop-q.invariant.pass.ready.words)

pub save-requires : goal.save-requires
save-requires c = omega (arith, c.if-x-ge1024.false, c.loop-q.invariant.pass.ready.words)

pub remove_after-requires : goal.remove_after-requires
remove_after-requires c = join-asks c.loop-q.invariant _ _ _ _ _ refl c.if-x-ge1024.false refl c.if-y-ge1024.false c.load-a.ensures c.load-b.ensures c.goes_on.ensures

pub loop-q-smaller-then-goes_on : goal.loop-q-smaller-then-goes_on
unfolding region
loop-q-smaller-then-goes_on c = (join-two c.loop-q.invariant _ _ _ _ _ refl c.if-x-ge1024.false refl c.if-y-ge1024.false c.load-a.ensures c.load-b.ensures c.goes_on.ensures _ _ _ _ c.if-goes_on.true refl c.save.ensures c.remove_after.ensures).1

pub loop-q-preserved-then-goes_on : goal.loop-q-preserved-then-goes_on
unfolding region
loop-q-preserved-then-goes_on c = (join-two c.loop-q.invariant _ _ _ _ _ refl c.if-x-ge1024.false refl c.if-y-ge1024.false c.load-a.ensures c.load-b.ensures c.goes_on.ensures _ _ _ _ c.if-goes_on.true refl c.save.ensures c.remove_after.ensures).0

pub loop-q-smaller : goal.loop-q-smaller
loop-q-smaller c = (join-on c.loop-q.invariant _ _ _ _ _ refl c.if-x-ge1024.false refl c.if-y-ge1024.false c.load-a.ensures c.load-b.ensures c.goes_on.ensures c.if-goes_on.false).1

pub loop-q-preserved : goal.loop-q-preserved
loop-q-preserved c = (join-on c.loop-q.invariant _ _ _ _ _ refl c.if-x-ge1024.false refl c.if-y-ge1024.false c.load-a.ensures c.load-b.ensures c.goes_on.ensures c.if-goes_on.false).0
