use mathlib.Core.Path.{◌≡◌}
use lib.ListN.{length}
use Rattle.std.specs.Prelude.{Ok}
use Rattle.planner.specs.Writing.{Adds, other_lines}
use Rattle.planner.proofs.wishes.other_lines.Given as goal

abbrev pub invariant-loop-j : goal.invariant-loop-j
invariant-loop-j l = record {
  size : length l.out ≡ length l.initial.out;
  adds : Adds (other_lines l.k 0 l.j l.allowance) l.initial.out l.out l.initial.at (Ok l.at);
}
