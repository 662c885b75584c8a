use Rattle.capability_engine.proofs.CompartmentLaws.{eight}
use Rattle.capability_engine.proofs.CompartmentFacts.{pool-allowed}
use Rattle.capability_engine.proofs.CompartmentCalls.{allows-answers}
use Rattle.capability_engine.proofs.compartments.Tables.allow_of.Goals as goal

pub on_allow-requires : goal.on_allow-requires
on_allow-requires c = (c.requires.k_lt, eight _ _ _ _ _ _ c.requires.grown.grown.pooled, pool-allowed _ _ _ _ _ _ c.requires.grown.grown)

pub returns : goal.returns
returns c = λ calls g. allows-answers _ _ _ _ _ calls g _ _ c.requires.k_lt _ c.on_allow.result c.on_allow.ensures
