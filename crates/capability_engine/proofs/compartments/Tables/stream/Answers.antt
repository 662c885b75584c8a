use Prim.Native.Nat.{◌<◌}
use native.Mathlib.Omega.{arith}
use Rattle.definitions.specs.Reckoning.{compartment_of}
use Rattle.definitions.specs.Calls.{stream_groups}
use Rattle.capability_engine.proofs.CompartmentLaws.{grown-whole}
use Rattle.capability_engine.proofs.CompartmentFacts.{held, table}
use Rattle.capability_engine.proofs.CompartmentReads.{handed, past-page, streamed}
use Rattle.capability_engine.proofs.compartments.Tables.stream.Goals as goal

pub returns-in_err-k : goal.returns-in_err-k
unfolding compartment_of
returns-in_err-k c = λ calls g. rw (handed c.from_residual.result _ c.from_residual.ensures.1 c.in_err-k.ensures.none.0) (past-page _ _ _ _ _ calls g _ 5 stream_groups c.args.from c.args.out.now c.in_err-k.ensures.none.1)

pub copy_segments-n-requires : goal.copy_segments-n-requires
copy_segments-n-requires c = record { held = (_, held _ _ _ _ _ _ c.requires.grown c.in_ok-k.k c.in_ok-k.ensures.one.1 _); in_bounds = omega arith }

pub page-many-requires : goal.page-many-requires
page-many-requires c = let l : c.in_ok-k.k < 8 = c.in_ok-k.ensures.one.1 in record { table = table _ _ _ _ _ _ c.requires.grown c.in_ok-k.k l _ _ _ (omega arith) (c.copy_segments-n.ensures _ (held _ _ _ _ _ _ c.requires.grown _ l _)); whole = grown-whole _ _ _ _ _ _ c.requires.grown.pooled c.in_ok-k.k l _ }

pub returns : goal.returns
returns c = rw c.in_ok-k.ensures.one.0 (λ calls g. streamed _ _ _ _ _ calls g _ c.in_ok-k.ensures.one.1 _ _ (c.copy_segments-n.ensures _ (held _ _ _ _ _ calls g _ c.in_ok-k.ensures.one.1 _)).same c.args.from _ _ _ c.page-many.ensures)
