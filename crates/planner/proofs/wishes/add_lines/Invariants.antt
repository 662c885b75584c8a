use mathlib.Core.Path.{◌≡◌}
use lib.ListN.{length}
use Rattle.planner.specs.Cursor.{plan_from}
use Rattle.planner.proofs.WriteLaws.{Adding}
use Rattle.planner.proofs.wishes.add_lines.Given as goal

abbrev pub invariant-loop-p : goal.invariant-loop-p
invariant-loop-p l = record {
  size : length l.out ≡ length l.initial.out;
  adding : Adding l.compartment l.wanted l.c l.initial.out l.out l.initial.at l.at;
}

abbrev pub decreases-loop-p : goal.decreases-loop-p
decreases-loop-p l = length (plan_from l.wanted l.c)
