use Rattle.definitions.specs.Reckoning.{compartment_of}
use Rattle.definitions.specs.declared.call.Call.TheVariants.{Allow}
use Rattle.capability_engine.proofs.CompartmentReads.{handed, past-answers}
use Rattle.capability_engine.proofs.compartments.Tables.allow.Goals as goal

pub returns-in_err-k : goal.returns-in_err-k
unfolding compartment_of
returns-in_err-k c = λ calls g. rw (handed c.from_residual.result _ c.from_residual.ensures.1 c.in_err-k.ensures.none.0) (past-answers _ _ _ _ _ calls g (Allow c.args.compartment c.args.allowance) c.in_err-k.ensures.none.1)

pub allow_of-requires : goal.allow_of-requires
allow_of-requires c = record { grown = c.requires; k_lt = c.in_ok-k.ensures.one.1 }

pub returns : goal.returns
returns c = rw c.in_ok-k.ensures.one.0 c.allow_of.ensures
