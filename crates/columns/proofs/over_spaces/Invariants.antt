use Prim.Native.Nat.{◌+◌, ◌≤◌}
use mathlib.Core.Path.{◌≡◌}
use lib.ListN.{length}
use lib.Seq.{sets}
use Rattle.definitions.specs.Script.{spaced}
use Rattle.columns.proofs.Over.{Over}
use Rattle.columns.proofs.over_spaces.Given as goal

abbrev pub invariant-loop-k : goal.invariant-loop-k
invariant-loop-k l =
    (l.at + l.k ≤ length l.out) × (length l.out ≡ length l.initial.out) × Over l.at (sets l.initial.out l.at (spaced l.columns l.n)) l.out l.k l.m

abbrev pub decreases-loop-k : goal.decreases-loop-k
decreases-loop-k l = l.k
