use Rattle.capability_engine.proofs.CompartmentArms.{on-map, on-unmap, on-unmap-gpa, not-segments}
use Rattle.capability_engine.proofs.compartments.on_segments.Goals as goal

pub returns-in-Map : goal.returns-in-Map
returns-in-Map c = on-map _ c.map_range.result _ _ _ _ _ _ c.in-Map.is c.map_range.ensures

pub returns-in-Unmap : goal.returns-in-Unmap
returns-in-Unmap c = on-unmap _ c.unmap_range.result _ _ _ _ c.in-Unmap.is c.unmap_range.ensures

pub returns-in-UnmapGpa : goal.returns-in-UnmapGpa
returns-in-UnmapGpa c = on-unmap-gpa _ c.unmap_gpa_range.result _ _ _ _ c.in-UnmapGpa.is c.unmap_gpa_range.ensures

pub returns-in_default : goal.returns-in_default
returns-in_default c = λ n m d h o. absurd (not-segments _ c.in_default.not-Map c.in_default.not-Unmap c.in_default.not-UnmapGpa o)
