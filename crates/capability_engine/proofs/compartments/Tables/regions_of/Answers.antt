use Rattle.capability_engine.proofs.CompartmentLaws.{grown-allotted}
use Rattle.capability_engine.proofs.CompartmentCalls.{regions-answers}
use Rattle.capability_engine.proofs.compartments.Tables.regions_of.Goals as goal

pub on_regions-answer-requires : goal.on_regions-answer-requires
on_regions-answer-requires c = grown-allotted _ _ _ _ _ _ c.requires.grown.grown.pooled _ c.requires.named.below _

pub returns : goal.returns
returns c = λ calls g. regions-answers _ _ _ _ _ calls g _ _ c.requires.named.one c.requires.named.below _ _ _ _ _ _ _ c.on_regions-answer.result c.requires.named.is c.on_regions-answer.ensures
