use native.Mathlib.Omega.{arith}
use Rattle.capability_engine.specs.RegionAsks.{remove_step}
use Rattle.capability_engine.proofs.PoolLinks.{slots-less}
use Rattle.capability_engine.proofs.RegionFinds.{fold_end}
use Rattle.capability_engine.proofs.RegionSkips.{remove-walk, remove-on, remove-stop}
use Rattle.capability_engine.proofs.region.walk_remove.Goals as goal

pub loop-cur-init : goal.loop-cur-init
loop-cur-init c = remove-walk c.args.start c.args.end c.args.rights _ _ _ _ c.args.skipped c.requires _ c.last_or-cur.ensures

pub load-r-requires : goal.load-r-requires
load-r-requires c = (c.loop-cur-test.true, c.requires.askable.list.listed.words)

pub returns-then-lies_above : goal.returns-then-lies_above
returns-then-lies_above c = remove-stop c.args.start c.args.end c.args.rights _ _ _ _ _ _ _ c.loop-cur.invariant.0 c.loop-cur.invariant.1 c.loop-cur-test.true c.load-r.ensures c.remove_step-ask.ensures _ c.lies_above.ensures c.if-lies_above.true

pub offset_bounds-next-cur : goal.offset_bounds-next-cur
offset_bounds-next-cur c = omega (arith, c.loop-cur-test.true)

pub bounds-next-cur : goal.bounds-next-cur
bounds-next-cur c = omega (arith, c.loop-cur-test.true, c.loop-cur.invariant.0.listed.size)

pub loop-cur-smaller : goal.loop-cur-smaller
loop-cur-smaller c = slots-less _ _ c.loop-cur.invariant.0.listed c.loop-cur-test.true

pub loop-cur-preserved : goal.loop-cur-preserved
loop-cur-preserved c = remove-on c.args.start c.args.end c.args.rights _ _ _ _ _ _ _ c.loop-cur.invariant.0 c.loop-cur.invariant.1 c.loop-cur-test.true c.load-r.ensures c.remove_step-ask.ensures

pub returns : goal.returns
returns c = fold_end (remove_step c.args.start c.args.end c.args.rights) _ _ _ _ _ c.loop-cur.invariant.0 c.loop-cur-test.false
