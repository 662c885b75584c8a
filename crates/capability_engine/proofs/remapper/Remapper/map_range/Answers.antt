use Rattle.capability_engine.proofs.RemapCalls.{map_first, map-puts}
use Rattle.capability_engine.proofs.remapper.Remapper.map_range.Goals as goal

pub returns-in-Ok : goal.returns-in-Ok
returns-in-Ok c = λ k h. map-puts _ k h.held _ _ _ _ _ c.can_map.ensures _ c.in-Ok.is _ c.new_segment.ensures

pub returns-in-Err : goal.returns-in-Err
returns-in-Err c = λ k h. rw (← c.in-Err.is) (map_first _ k h.held _ _ _ _ _ c.can_map.ensures _ c.in-Err.is)
