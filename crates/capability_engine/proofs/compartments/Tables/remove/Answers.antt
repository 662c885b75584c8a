use mathlib.Core.Path.{refl}
use Rattle.capability_engine.specs.CompartmentSteps.{on_regions}
use Rattle.capability_engine.proofs.compartments.Tables.remove.Goals as goal

pub change_regions-requires : goal.change_regions-requires
unfolding on_regions
change_regions-requires c = record { grown = c.requires; call_value = refl }
