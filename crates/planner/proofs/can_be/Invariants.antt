use Rattle.definitions.specs.Planner.{wanted, apart}
use lib.ListN.{drop}
use mathlib.Core.Path.{◌≡◌}
use Prim.Native.Nat.{◌*◌}
use Rattle.planner.proofs.can_be.Given as goal

abbrev pub invariant-loop-i : goal.invariant-loop-i
invariant-loop-i l = apart 0 (wanted l.wanted) ≡ apart l.lo (wanted (drop (3 * l.i) l.wanted))
