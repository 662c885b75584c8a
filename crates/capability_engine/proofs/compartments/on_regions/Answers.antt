use Rattle.capability_engine.proofs.CompartmentArms.{on-add, on-remove, on-refcount, not-regions}
use Rattle.capability_engine.proofs.RegionTracks.{tracked-count}
use Rattle.capability_engine.proofs.compartments.on_regions.Goals as goal

pub get_refcount-many-requires : goal.get_refcount-many-requires
get_refcount-many-requires c = tracked-count _ _ _ _ c.requires.tracked

pub returns-in-Add : goal.returns-in-Add
returns-in-Add c = on-add _ _ _ _ _ _ _ _ _ _ _ _ c.add_region.result _ _ _ _ _ c.in-Add.is c.add_region.ensures

pub returns-in-Remove : goal.returns-in-Remove
returns-in-Remove c = on-remove _ _ _ _ _ _ _ _ _ _ _ _ c.remove_region.result _ _ _ _ _ c.in-Remove.is c.remove_region.ensures

pub returns-in-Refcount : goal.returns-in-Refcount
returns-in-Refcount c = on-refcount _ _ _ _ _ _ _ _ _ _ _ c.in-Refcount.is c.get_refcount-many.ensures

pub returns-in_default : goal.returns-in_default
returns-in_default c = λ t calls g o l ea et. absurd (not-regions _ c.in_default.not-Add c.in_default.not-Remove c.in_default.not-Refcount o)
