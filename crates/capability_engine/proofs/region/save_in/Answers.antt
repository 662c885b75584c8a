use mathlib.Core.Path.{sym, ◌∙◌}
use Rattle.capability_engine.proofs.PoolSlots.{put-there}
use Rattle.capability_engine.proofs.region.save_in.Goals as goal

pub returns-else-lies_in : goal.returns-else-lies_in
returns-else-lies_in c = put-there _ _ _ (c.requires.s_value (sym c.lies_in.ensures ∙ c.if-lies_in.false))
