use mathlib.Core.Path.{refl}
use Rattle.capability_engine.specs.PoolWords.{region_at}
use Rattle.capability_engine.proofs.region.load.Goals as goal

pub returns : goal.returns
unfolding region_at
returns c = refl
