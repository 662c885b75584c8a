use Rattle.capability_engine.specs.PoolOwn.{unlinked}
use Rattle.capability_engine.proofs.PoolHeaps.{removes}
use Rattle.capability_engine.proofs.region.remove_after.Goals as goal

pub returns : goal.returns
unfolding unlinked
returns c = removes _ _ _ _ _ c.requires _ _ _ c.free.new.self c.free.result c.free.ensures
