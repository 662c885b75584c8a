use native.Mathlib.Omega.{arith}
use Rattle.capability_engine.specs.PoolWords.{region_at}
use Rattle.capability_engine.proofs.PoolLinks.{slots-less}
use Rattle.capability_engine.proofs.RegionFinds.{passing-start, passing-turn, passing-stop, passing-end}
use Rattle.capability_engine.proofs.region.skip_through.Goals as goal

pub loop-cur-init : goal.loop-cur-init
loop-cur-init c = passing-start c.requires

pub overflow_mul-from : goal.overflow_mul-from
overflow_mul-from c = omega (arith, c.loop-cur-test.true)

pub offset_bounds-words-cur : goal.offset_bounds-words-cur
offset_bounds-words-cur c = omega (arith, c.loop-cur-test.true)

pub bounds-words-cur : goal.bounds-words-cur
bounds-words-cur c = omega (arith, c.loop-cur-test.true, c.requires.words)

pub returns-then-end-from : goal.returns-then-end-from
unfolding region_at
returns-then-end-from c = passing-stop c.loop-cur.invariant c.loop-cur-test.true c.if-end-from.true

pub offset_bounds-next-cur : goal.offset_bounds-next-cur
offset_bounds-next-cur c = omega (arith, c.loop-cur-test.true)

pub bounds-next-cur : goal.bounds-next-cur
bounds-next-cur c = omega (arith, c.loop-cur-test.true, c.loop-cur.invariant.listed.size)

pub loop-cur-smaller : goal.loop-cur-smaller
loop-cur-smaller c = slots-less _ _ c.loop-cur.invariant.listed c.loop-cur-test.true

pub loop-cur-preserved : goal.loop-cur-preserved
unfolding region_at
loop-cur-preserved c = passing-turn c.loop-cur.invariant c.loop-cur-test.true c.if-end-from.false

pub returns : goal.returns
returns c = passing-end c.loop-cur.invariant c.loop-cur-test.false
