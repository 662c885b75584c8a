use Rattle.definitions.specs.Regions.{permission_of}
use Rattle.capability_engine.proofs.region.permission.Goals as goal

pub returns : goal.returns
unfolding permission_of
returns c = rw c.get_ops-ops.ensures
