use Rattle.definitions.specs.Calls.{region_groups}
use Rattle.definitions.specs.Pages.{record_len}
use Rattle.capability_engine.proofs.CompartmentLaws.{grown-walk}
use Rattle.capability_engine.proofs.CompartmentReads.{handed, past-list, regions-listed}
use Rattle.capability_engine.proofs.compartments.Tables.regions.Goals as goal

pub returns-in_err-k : goal.returns-in_err-k
returns-in_err-k c = λ calls g. rw (handed c.from_residual.result _ c.from_residual.ensures.1 c.in_err-k.ensures.none.0) (past-list record_len region_groups calls _ c.args.from c.args.out.now c.in_err-k.ensures.none.1)

pub regions-many-requires : goal.regions-many-requires
regions-many-requires c = let w = grown-walk _ _ _ _ _ _ c.requires.grown.pooled c.in_ok-k.k c.in_ok-k.ensures.one.1 _ in record { words_len = w.words; listed = w.listed }

pub returns : goal.returns
returns c = rw c.in_ok-k.ensures.one.0 (λ calls g. regions-listed _ _ _ _ _ calls g _ c.in_ok-k.ensures.one.1 _ c.args.from _ _ _ c.regions-many.ensures)
