use native.Mathlib.Numerals.{towards_suc}
use Rattle.definitions.specs.Pages.{mapping_group}
use lib.ListN.{length-set}
use native.Mathlib.Omega.{arith}
use Rattle.capability_engine.proofs.stream.put_mapping.Goals as goal

pub bounds-out-b-2 : goal.bounds-out-b-2
bounds-out-b-2 c = simp length-set (omega arith)

pub bounds-out-b-3 : goal.bounds-out-b-3
bounds-out-b-3 c = simp length-set (omega arith)

pub bounds-out-b-4 : goal.bounds-out-b-4
bounds-out-b-4 c = simp length-set (omega arith)

pub bounds-out-b-5 : goal.bounds-out-b-5
bounds-out-b-5 c = simp length-set (omega arith)

pub returns : goal.returns
unfolding mapping_group
returns c = simp towards_suc
