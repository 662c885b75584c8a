use Rattle.capability_engine.proofs.StreamStarts.{starts, start-stream, start-few}
use Rattle.capability_engine.proofs.lists.Lists.start.Goals as goal

pub returns : goal.returns
returns c = record { ready = starts _ _ _ _ _ c.args.self.table c.requires; result_value = start-stream _ _ _ _ _ c.args.self.table c.requires; result_bound = start-few _ _ _ _ _ c.args.self.table c.requires }
