use Rattle.definitions.specs.Reckoning.{compartment_of}
use Rattle.capability_engine.proofs.CompartmentLaws.{grown-count}
use Rattle.capability_engine.proofs.CompartmentReads.{handed, past, counted}
use Rattle.capability_engine.proofs.compartments.Tables.get_refcount.Goals as goal

pub returns-in_err-k : goal.returns-in_err-k
unfolding compartment_of
returns-in_err-k c = λ calls g. rw (handed c.from_residual.result _ c.from_residual.ensures.1 c.in_err-k.ensures.none.0) (past _ _ _ _ _ calls g _ c.in_err-k.ensures.none.1)

pub get_refcount-requires : goal.get_refcount-requires
get_refcount-requires c = grown-count _ _ _ _ _ _ c.requires.grown.pooled _ c.in_ok-k.ensures.one.1 _

pub returns : goal.returns
returns c = rw c.in_ok-k.ensures.one.0 (λ calls g. counted _ _ _ _ _ calls g _ c.in_ok-k.ensures.one.1 _ c.args.start c.args.end _ c.get_refcount.ensures)
