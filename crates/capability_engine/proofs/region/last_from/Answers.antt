use mathlib.Core.Path.{refl}
use native.Mathlib.Omega.{arith}
use Rattle.capability_engine.proofs.PoolLinks.{listed-step, slots-less}
use Rattle.capability_engine.proofs.RegionFinds.{last_on, last_end}
use Rattle.capability_engine.proofs.region.last_from.Goals as goal

pub offset_bounds-next-p : goal.offset_bounds-next-p
offset_bounds-next-p c = omega (arith, c.requires.0)

pub bounds-next-p : goal.bounds-next-p
bounds-next-p c = omega (arith, c.requires.0, c.requires.1.size)

pub loop-cur-init : goal.loop-cur-init
loop-cur-init c = (c.requires.1, refl)

pub offset_bounds-next-cur : goal.offset_bounds-next-cur
offset_bounds-next-cur c = omega (arith, c.loop-cur-test.true)

pub bounds-next-cur : goal.bounds-next-cur
bounds-next-cur c = omega (arith, c.loop-cur-test.true, c.loop-cur.invariant.0.size)

pub loop-cur-smaller : goal.loop-cur-smaller
loop-cur-smaller c = slots-less _ _ c.loop-cur.invariant.0 c.loop-cur-test.true

pub loop-cur-preserved : goal.loop-cur-preserved
loop-cur-preserved c = (listed-step _ _ c.loop-cur.invariant.0 c.loop-cur-test.true, last_on _ _ _ _ c.loop-cur.invariant.0 c.loop-cur.invariant.1 c.loop-cur-test.true)

pub returns : goal.returns
returns c = last_end _ _ _ _ c.loop-cur.invariant.0 c.loop-cur.invariant.1 c.loop-cur-test.false
