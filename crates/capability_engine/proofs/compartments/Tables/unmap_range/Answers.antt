use mathlib.Core.Path.{refl}
use Rattle.capability_engine.specs.CompartmentSteps.{on_segments}
use Rattle.capability_engine.proofs.compartments.Tables.unmap_range.Goals as goal

pub change_segments-requires : goal.change_segments-requires
unfolding on_segments
change_segments-requires c = record { grown = c.requires; call_value = refl }
