use native.Mathlib.Omega.{arith}
use mathlib.Core.Path.{refl}
use Rattle.capability_engine.specs.RegionPasses.{lowered}
use Rattle.capability_engine.proofs.PoolZips.{zip_start, zip-lt}
use Rattle.capability_engine.proofs.RegionTurns.{lower-end, lower-asks, lower-drop, lower-put, one-stays}
use Rattle.capability_engine.proofs.region.lower_all.Goals as goal

pub loop-start-init : goal.loop-start-init
loop-start-init c = zip_start _ _ _ (lowered c.args.rights c.args.start c.args.end) c.requires

pub offset_bounds-next-q : goal.offset_bounds-next-q
offset_bounds-next-q c = omega (arith, zip-lt c.loop-start.invariant)

pub bounds-next-q : goal.bounds-next-q
bounds-next-q c = omega (arith, zip-lt c.loop-start.invariant)

pub returns-then-x-ge1024 : goal.returns-then-x-ge1024
returns-then-x-ge1024 c = lower-end _ _ _ c.loop-start.invariant c.if-x-ge1024.true

pub load-r-requires : goal.load-r-requires
load-r-requires c = (c.if-x-ge1024.false, c.loop-start.invariant.pass.ready.words)

pub remove_after-requires : goal.remove_after-requires
remove_after-requires c = lower-asks _ _ _ c.loop-start.invariant _ _ _ refl c.if-x-ge1024.false c.load-r.ensures c.decrease_in-l.ensures

pub loop-start-smaller-then-l-eq0 : goal.loop-start-smaller-then-l-eq0
loop-start-smaller-then-l-eq0 c = (lower-drop _ _ _ c.loop-start.invariant _ _ _ refl c.if-x-ge1024.false c.load-r.ensures c.decrease_in-l.ensures _ _ c.if-l-eq0.true c.remove_after.ensures).1

pub loop-start-preserved-then-l-eq0 : goal.loop-start-preserved-then-l-eq0
loop-start-preserved-then-l-eq0 c = (lower-drop _ _ _ c.loop-start.invariant _ _ _ refl c.if-x-ge1024.false c.load-r.ensures c.decrease_in-l.ensures _ _ c.if-l-eq0.true c.remove_after.ensures).0

pub save_in-requires : goal.save_in-requires
save_in-requires c = record { record_len_in_bounds = omega (arith, c.if-x-ge1024.false, c.loop-start.invariant.pass.ready.words); s_value = one-stays _ _ _ _ _ _ c.load-r.ensures c.decrease_in-l.ensures }

pub loop-start-smaller : goal.loop-start-smaller
loop-start-smaller c = (lower-put _ _ _ c.loop-start.invariant _ _ _ refl c.if-x-ge1024.false c.load-r.ensures c.decrease_in-l.ensures _ c.if-l-eq0.false c.save_in.ensures).1

pub loop-start-preserved : goal.loop-start-preserved
loop-start-preserved c = (lower-put _ _ _ c.loop-start.invariant _ _ _ refl c.if-x-ge1024.false c.load-r.ensures c.decrease_in-l.ensures _ c.if-l-eq0.false c.save_in.ensures).0
