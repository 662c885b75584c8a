use native.Mathlib.Omega.{arith}
use Rattle.capability_engine.specs.RegionAsks.{add_step}
use Rattle.capability_engine.proofs.PoolLinks.{slots-less}
use Rattle.capability_engine.proofs.RegionFinds.{fold_end}
use Rattle.capability_engine.proofs.RegionSkips.{add-walk, add-on, add-stop}
use Rattle.capability_engine.proofs.region.walk_add.Goals as goal

pub overflow_add-ask : goal.overflow_add-ask
overflow_add-ask c = record { fits = omega (arith, c.requires.askable.few) }

pub loop-cur-init : goal.loop-cur-init
loop-cur-init c = add-walk c.args.start c.args.end c.args.rights _ _ _ _ c.args.skipped c.requires

pub load-r-requires : goal.load-r-requires
load-r-requires c = (c.loop-cur-test.true, c.requires.askable.list.listed.words)

pub returns-then-lies_above : goal.returns-then-lies_above
returns-then-lies_above c = add-stop c.args.start c.args.end c.args.rights _ _ _ _ c.add_step-ask.result _ _ c.loop-cur.invariant.0 c.loop-cur.invariant.1 c.loop-cur-test.true c.load-r.ensures c.add_step-ask.ensures c.if-ask-end.true (c.lies_above.ensures c.if-lies_above.true)

pub offset_bounds-next-cur : goal.offset_bounds-next-cur
offset_bounds-next-cur c = omega (arith, c.loop-cur-test.true)

pub bounds-next-cur : goal.bounds-next-cur
bounds-next-cur c = omega (arith, c.loop-cur-test.true, c.loop-cur.invariant.0.listed.size)

pub loop-cur-smaller : goal.loop-cur-smaller
loop-cur-smaller c = slots-less _ _ c.loop-cur.invariant.0.listed c.loop-cur-test.true

pub loop-cur-preserved : goal.loop-cur-preserved
loop-cur-preserved c = add-on c.args.start c.args.end c.args.rights _ _ _ _ _ _ _ c.loop-cur.invariant.0 c.loop-cur.invariant.1 c.loop-cur-test.true c.load-r.ensures c.add_step-ask.ensures

pub returns : goal.returns
returns c = fold_end (add_step c.args.start c.args.end c.args.rights) _ _ _ _ _ c.loop-cur.invariant.0 c.loop-cur-test.false
