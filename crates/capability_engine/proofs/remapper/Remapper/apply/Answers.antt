use Rattle.capability_engine.proofs.RemapCalls.{as-put, as-cut, did-put, did-cut, did-keep}
use Rattle.capability_engine.proofs.remapper.Remapper.apply.Goals as goal

pub insert_segment-requires : goal.insert_segment-requires
insert_segment-requires c = let w = as-put _ _ _ _ c.requires.2 _ c.in-Put.is in (w.good, (w.before, w.held))

pub cut-requires : goal.cut-requires
cut-requires c = let w = as-cut _ _ _ _ c.requires.2 _ c.in-Cut.is in (w.range, (w.before, w.sound))

pub returns-in-Put : goal.returns-in-Put
returns-in-Put c = λ a ss d. did-put _ a ss _ d _ c.in-Put.is _ _ c.insert_segment.ensures

pub returns-in-Cut : goal.returns-in-Cut
returns-in-Cut c = λ a ss d. did-cut _ a ss _ d _ c.in-Cut.is _ _ c.cut.ensures

pub returns-in-Keep : goal.returns-in-Keep
returns-in-Keep c = λ a ss d. did-keep _ a ss _ d _ c.in-Keep.is
