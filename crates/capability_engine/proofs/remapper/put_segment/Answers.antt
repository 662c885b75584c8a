use native.Mathlib.Numerals.{towards_suc}
use Rattle.definitions.specs.Pages.{segment_group}
use native.Mathlib.Omega.{arith}
use lib.ListN.{length-set}
use Rattle.capability_engine.proofs.remapper.put_segment.Goals as goal

pub bounds-out-b-2 : goal.bounds-out-b-2
bounds-out-b-2 c = simp length-set (omega arith)

pub bounds-out-b-3 : goal.bounds-out-b-3
bounds-out-b-3 c = simp length-set (omega arith)

pub bounds-out-b-4 : goal.bounds-out-b-4
bounds-out-b-4 c = simp length-set (omega arith)

pub returns : goal.returns
unfolding segment_group
returns c = simp towards_suc
