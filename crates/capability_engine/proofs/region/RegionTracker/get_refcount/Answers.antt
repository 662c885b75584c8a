use native.Mathlib.Omega.{arith}
use mathlib.Core.Path.{refl, ◌∙◌}
use Rattle.capability_engine.specs.RegionAsks.{most_of}
use Rattle.capability_engine.proofs.PoolLinks.{slots-less}
use Rattle.capability_engine.proofs.RegionFinds.{fold_end}
use Rattle.capability_engine.proofs.RegionAnswers.{most-all}
use Rattle.capability_engine.proofs.RegionSkips.{most-walk, most-on, most-stop}
use Rattle.capability_engine.proofs.region.RegionTracker.get_refcount.Goals as goal

pub skip_below-skipped-requires : goal.skip_below-skipped-requires
skip_below-skipped-requires c = c.requires.listed

pub loop-cur-init : goal.loop-cur-init
loop-cur-init c = let w = most-walk c.args.start c.args.end _ _ _ c.skip_below-skipped.result c.requires c.skip_below-skipped.ensures in (record { listed = w.0.listed; all = refl }, w.1)

pub load-r-requires : goal.load-r-requires
load-r-requires c = (c.loop-cur-test.true, c.requires.listed.words)

pub returns-then-end-r : goal.returns-then-end-r
returns-then-end-r c = most-all c.args.start c.args.end _ _ (most-stop c.args.start c.args.end _ _ _ _ _ c.load-r.result c.loop-cur.invariant.0 c.loop-cur.invariant.1 c.loop-cur-test.true c.load-r.ensures c.if-end-r.true ∙ (most-walk c.args.start c.args.end _ _ _ c.skip_below-skipped.result c.requires c.skip_below-skipped.ensures).0.all)

pub bounds-next-cur : goal.bounds-next-cur
bounds-next-cur c = omega (arith, c.loop-cur-test.true, c.loop-cur.invariant.0.listed.size)

pub loop-cur-smaller : goal.loop-cur-smaller
loop-cur-smaller c = slots-less _ _ c.loop-cur.invariant.0.listed c.loop-cur-test.true

pub loop-cur-preserved : goal.loop-cur-preserved
loop-cur-preserved c = most-on c.args.start c.args.end _ _ _ _ _ c.load-r.result c.loop-cur.invariant.0 c.loop-cur.invariant.1 c.loop-cur-test.true c.load-r.ensures _ c.most-n.ensures

pub returns : goal.returns
returns c = most-all c.args.start c.args.end _ _ (fold_end (most_of c.args.start c.args.end) _ _ _ _ _ c.loop-cur.invariant.0 c.loop-cur-test.false ∙ (most-walk c.args.start c.args.end _ _ _ c.skip_below-skipped.result c.requires c.skip_below-skipped.ensures).0.all)
