use Prim.Native.Nat.{◌+◌}
use mathlib.Core.Path.{◌≡◌}
use lib.ListN.{drop}
use Rattle.definitions.specs.Calls.{together}
use Rattle.capability_engine.specs.CompartmentGrown.{allowances_of}
use Rattle.capability_engine.proofs.compartments.allowed.Given as goal

abbrev pub invariant-loop-tracker : goal.invariant-loop-tracker
invariant-loop-tracker l = l.n + together (drop l.tracker-index (allowances_of l.trackers)) ≡ together (allowances_of l.trackers)
