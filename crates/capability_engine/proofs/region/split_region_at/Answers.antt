use Rattle.capability_engine.proofs.RegionTurns.{split_done}
use Rattle.capability_engine.proofs.region.split_region_at.Goals as goal

pub returns : goal.returns
returns c = split_done _ _ _ _ _ _ _ _ _ _ _ c.load-r.ensures c.save.ensures c.insert_region.ensures
