use mathlib.Core.Path.{refl}
use Rattle.capability_engine.proofs.RemapLaws.{fresh}
use Rattle.capability_engine.proofs.remapper.Remapper.new.Goals as goal

pub returns : goal.returns
returns c = fresh _ _ _ _ refl refl c.new-list.ensures
