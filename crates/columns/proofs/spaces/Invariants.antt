use Prim.Native.Nat.{◌-◌, ◌≤◌}
use mathlib.Core.Path.{◌≡◌}
use lib.ListN.{length}
use lib.Seq.{sets}
use Rattle.definitions.specs.Script.{spaced}
use Rattle.columns.proofs.spaces.Given as goal

abbrev pub invariant-loop-i : goal.invariant-loop-i
invariant-loop-i l = (l.i ≤ l.columns) × (length l.out ≡ length l.initial.out) × (l.out ≡ sets l.initial.out l.at (spaced l.i 0))

abbrev pub decreases-loop-i : goal.decreases-loop-i
decreases-loop-i l = l.columns - l.i
