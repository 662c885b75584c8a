use mathlib.Core.Path.{sym, ◌∙◌}
use Rattle.capability_engine.proofs.CompartmentReads.{handed, past-answers}
use Rattle.capability_engine.proofs.compartments.Tables.change_regions.Goals as goal

pub returns-in_err-k : goal.returns-in_err-k
returns-in_err-k c = λ calls g. rw (handed c.from_residual.result _ c.from_residual.ensures.1 c.in_err-k.ensures.none.0) (past-answers _ _ _ _ _ calls g _ (rw (sym c.compartment.ensures) c.in_err-k.ensures.none.1))

pub regions_of-requires : goal.regions_of-requires
regions_of-requires c = record { grown = c.requires.grown; named = record { one = sym c.in_ok-k.ensures.one.0 ∙ c.compartment.ensures; below = c.in_ok-k.ensures.one.1; is = c.requires.call_value } }
