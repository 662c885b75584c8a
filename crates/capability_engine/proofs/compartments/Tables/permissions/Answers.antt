use Rattle.definitions.specs.Reckoning.{compartment_of}
use Rattle.definitions.specs.Calls.{permission_groups}
use Rattle.capability_engine.proofs.CompartmentLaws.{grown-walk}
use Rattle.capability_engine.proofs.CompartmentReads.{handed, past-page, permitted}
use Rattle.capability_engine.proofs.compartments.Tables.permissions.Goals as goal

pub returns-in_err-k : goal.returns-in_err-k
unfolding compartment_of
returns-in_err-k c = λ calls g. rw (handed c.from_residual.result _ c.from_residual.ensures.1 c.in_err-k.ensures.none.0) (past-page _ _ _ _ _ calls g _ 3 permission_groups c.args.from c.args.out.now c.in_err-k.ensures.none.1)

pub permissions-many-requires : goal.permissions-many-requires
permissions-many-requires c = let w = grown-walk _ _ _ _ _ _ c.requires.grown.pooled c.in_ok-k.k c.in_ok-k.ensures.one.1 _ in record { words_len = w.words; listed = w.listed }

pub returns : goal.returns
returns c = rw c.in_ok-k.ensures.one.0 (λ calls g. permitted _ _ _ _ _ calls g _ c.in_ok-k.ensures.one.1 _ c.args.from _ _ _ c.permissions-many.ensures)
