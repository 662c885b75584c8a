use native.Mathlib.Omega.{arith}
use Rattle.capability_engine.specs.PoolWords.{region_at}
use Rattle.capability_engine.proofs.PoolLinks.{slots-less}
use Rattle.capability_engine.proofs.RegionFinds.{passing-start, passing-turn}
use Rattle.capability_engine.proofs.region.skip_below.Goals as goal

pub loop-cur-init : goal.loop-cur-init
loop-cur-init c = passing-start c.requires

pub overflow_mul-to : goal.overflow_mul-to
overflow_mul-to c = omega (arith, c.loop-cur-test.true)

pub overflow_add-to : goal.overflow_add-to
overflow_add-to c = omega (arith, c.loop-cur-test.true)

pub offset_bounds-words-cur : goal.offset_bounds-words-cur
offset_bounds-words-cur c = omega (arith, c.loop-cur-test.true)

pub bounds-words-cur : goal.bounds-words-cur
bounds-words-cur c = omega (arith, c.loop-cur-test.true, c.requires.words)

pub returns-then-start-to : goal.returns-then-start-to
returns-then-start-to c = c.loop-cur.invariant

pub offset_bounds-next-cur : goal.offset_bounds-next-cur
offset_bounds-next-cur c = omega (arith, c.loop-cur-test.true)

pub bounds-next-cur : goal.bounds-next-cur
bounds-next-cur c = omega (arith, c.loop-cur-test.true, c.loop-cur.invariant.listed.size)

pub loop-cur-smaller : goal.loop-cur-smaller
loop-cur-smaller c = slots-less _ _ c.loop-cur.invariant.listed c.loop-cur-test.true

pub loop-cur-preserved : goal.loop-cur-preserved
unfolding region_at
loop-cur-preserved c = passing-turn c.loop-cur.invariant c.loop-cur-test.true c.if-start-to.false

pub returns : goal.returns
returns c = c.loop-cur.invariant
