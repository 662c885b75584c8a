use mathlib.Core.Path.{refl}
use lib.ListN.{length-set}
use native.Mathlib.Omega.{arith}
use Rattle.capability_engine.specs.PoolOwn.{shortened, narrowed}
use Rattle.capability_engine.proofs.region.narrow.Goals as goal

pub bounds-next-p : goal.bounds-next-p
bounds-next-p c = simp length-set (omega (arith, c.requires.0, c.requires.2))

pub returns : goal.returns
unfolding shortened narrowed
returns c = record { link = refl; head = refl; rest = refl }
