use lib.ListN.{length-set}
use native.Mathlib.Omega.{arith}
use Rattle.capability_engine.specs.PoolOwn.{lengthened, widened}
use Rattle.capability_engine.proofs.PoolWindows.{last_fits}
use Rattle.capability_engine.proofs.region.widen.Goals as goal

pub bounds-next-p : goal.bounds-next-p
bounds-next-p c = simp length-set (omega (arith, c.requires.at, c.requires.size))

pub last_from-y-requires : goal.last_from-y-requires
unfolding lengthened
last_from-y-requires c = (c.requires.at, c.requires.listed)

pub offset_bounds-next-y : goal.offset_bounds-next-y
unfolding lengthened
offset_bounds-next-y c = omega (arith, last_fits _ _ c.requires.listed c.requires.at c.last_from-y.ensures)

pub bounds-next-y : goal.bounds-next-y
unfolding lengthened
bounds-next-y c = simp length-set (omega (arith, c.requires.size, last_fits _ _ c.requires.listed c.requires.at c.last_from-y.ensures))

pub returns : goal.returns
unfolding lengthened widened
returns c = rw c.last_from-y.ensures
