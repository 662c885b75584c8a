use native.Mathlib.Omega.{arith}
use Prim.Native.Nat.{◌<◌}
use Rattle.definitions.specs.Calls.{segment_groups}
use Rattle.capability_engine.proofs.CompartmentFacts.{held, table}
use Rattle.capability_engine.proofs.CompartmentReads.{handed, past-list, segments-listed}
use Rattle.capability_engine.proofs.compartments.Tables.segments.Goals as goal

pub returns-in_err-k : goal.returns-in_err-k
returns-in_err-k c = λ calls g. rw (handed c.from_residual.result _ c.from_residual.ensures.1 c.in_err-k.ensures.none.0) (past-list 4 segment_groups calls _ c.args.from c.args.out.now c.in_err-k.ensures.none.1)

pub copy_segments-n-requires : goal.copy_segments-n-requires
copy_segments-n-requires c = record { held = (_, held _ _ _ _ _ _ c.requires.grown c.in_ok-k.k c.in_ok-k.ensures.one.1 _); in_bounds = omega arith }

pub segments-many-requires : goal.segments-many-requires
segments-many-requires c = let l : c.in_ok-k.k < 8 = c.in_ok-k.ensures.one.1 in let t = table _ _ _ _ _ _ c.requires.grown c.in_ok-k.k l _ _ _ (omega arith) (c.copy_segments-n.ensures _ (held _ _ _ _ _ _ c.requires.grown _ l _)) in (t.few, t.room)

pub returns : goal.returns
returns c = rw c.in_ok-k.ensures.one.0 (λ calls g. segments-listed _ _ _ _ _ calls g _ c.in_ok-k.ensures.one.1 _ (c.copy_segments-n.ensures _ (held _ _ _ _ _ calls g _ c.in_ok-k.ensures.one.1 _)).same c.args.from _ _ _ c.segments-many.ensures)
