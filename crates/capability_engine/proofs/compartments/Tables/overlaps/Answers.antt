use Rattle.definitions.specs.Reckoning.{compartment_of}
use Rattle.capability_engine.proofs.CompartmentFacts.{held}
use Rattle.capability_engine.proofs.CompartmentReads.{handed, past, overlapped}
use Rattle.capability_engine.proofs.compartments.Tables.overlaps.Goals as goal

pub returns-in_err-k : goal.returns-in_err-k
unfolding compartment_of
returns-in_err-k c = λ calls g. rw (handed c.from_residual.result _ c.from_residual.ensures.1 c.in_err-k.ensures.none.0) (past _ _ _ _ _ calls g _ c.in_err-k.ensures.none.1)

pub overlaps-requires : goal.overlaps-requires
overlaps-requires c = (_, held _ _ _ _ _ _ c.requires.grown _ c.in_ok-k.ensures.one.1 _)

pub returns : goal.returns
returns c = rw c.in_ok-k.ensures.one.0 (λ calls g. overlapped _ _ _ _ _ calls g _ c.in_ok-k.ensures.one.1 c.args.start _ _ (c.overlaps.ensures _ (held _ _ _ _ _ calls g _ c.in_ok-k.ensures.one.1 _)))
