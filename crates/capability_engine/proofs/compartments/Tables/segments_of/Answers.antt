use Rattle.capability_engine.proofs.CompartmentFacts.{held, sound}
use Rattle.capability_engine.proofs.CompartmentCalls.{keeps-answers, ready, settles, segments-answers}
use Rattle.capability_engine.proofs.compartments.Tables.segments_of.Goals as goal

pub on_segments-change-requires : goal.on_segments-change-requires
on_segments-change-requires c = (_, held _ _ _ _ _ _ c.requires.grown.grown _ c.requires.named.below _)

pub returns-in-Keep : goal.returns-in-Keep
returns-in-Keep c = λ calls g. keeps-answers _ _ _ _ _ calls g _ _ c.requires.named.one c.requires.named.below _ _ c.on_segments-change.result c.requires.named.is c.on_segments-change.ensures c.in-Keep.is

pub apply-answer-requires : goal.apply-answer-requires
apply-answer-requires c = ready _ _ c.on_segments-change.result c.on_segments-change.ensures c.requires.named.is (_, sound _ _ _ _ _ _ c.requires.grown.grown _ c.requires.named.below _)

pub returns : goal.returns
returns c = λ calls g. segments-answers _ _ _ _ _ calls g _ _ c.requires.named.one c.requires.named.below _ _ c.apply-answer.result c.requires.named.is (settles _ _ c.on_segments-change.result c.on_segments-change.ensures _ c.apply-answer.result c.apply-answer.ensures)
