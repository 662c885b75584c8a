use mathlib.Core.Path.{◌≡◌}
use lib.ListN.{length, take}
use lib.Seq.{sets}
use Rattle.definitions.specs.Tests.{each}
use Rattle.definitions.specs.Script.{number_in}
use Rattle.lines.proofs.write_numbers.Given as goal

abbrev pub invariant-loop-i : goal.invariant-loop-i
invariant-loop-i l = (length l.out ≡ length l.initial.out) × (l.out ≡ sets l.initial.out l.at (each (number_in 21) (take l.i l.group)))
