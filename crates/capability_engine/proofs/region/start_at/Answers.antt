use native.Mathlib.Omega.{arith}
use mathlib.Core.Path.{refl}
use Rattle.capability_engine.proofs.PoolLinks.{slots-less, listed-step}
use Rattle.capability_engine.proofs.RegionFinds.{start-found, start-on, start-end}
use Rattle.capability_engine.proofs.region.start_at.Goals as goal

pub loop-cur-init : goal.loop-cur-init
loop-cur-init c = (c.requires.listed, refl)

pub load-r-requires : goal.load-r-requires
load-r-requires c = (c.loop-cur-test.true, c.requires.words)

pub returns-then-has_inside : goal.returns-then-has_inside
returns-then-has_inside c = start-found _ _ _ _ _ c.loop-cur.invariant.0 c.loop-cur.invariant.1 _ _ c.loop-cur-test.true c.load-r.ensures c.has_inside.ensures c.if-has_inside.true

pub bounds-next-cur : goal.bounds-next-cur
bounds-next-cur c = omega (arith, c.loop-cur-test.true, c.requires.listed.size)

pub loop-cur-smaller : goal.loop-cur-smaller
loop-cur-smaller c = slots-less _ _ c.loop-cur.invariant.0 c.loop-cur-test.true

pub loop-cur-preserved : goal.loop-cur-preserved
loop-cur-preserved c = (listed-step _ _ c.loop-cur.invariant.0 c.loop-cur-test.true, start-on _ _ _ _ _ c.loop-cur.invariant.0 c.loop-cur.invariant.1 _ _ c.loop-cur-test.true c.load-r.ensures c.has_inside.ensures c.if-has_inside.false)

pub returns : goal.returns
returns c = start-end _ _ _ _ _ c.loop-cur.invariant.0 c.loop-cur.invariant.1 c.loop-cur-test.false
