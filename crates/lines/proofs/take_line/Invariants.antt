use Prim.Native.Nat.{◌≤◌, max}
use mathlib.Core.Path.{◌≡◌}
use lib.ListN.{length, drop}
use Rattle.lines.specs.Lines.{takes}
use Rattle.lines.proofs.take_line.Given as goal

abbrev pub invariant-loop-used : goal.invariant-loop-used
invariant-loop-used l =
    (takes l.initial.line l.len l.from (drop l.from l.input) ≡ takes l.line l.held l.used (drop l.used l.input))
    × (length l.line ≡ length l.initial.line)
    × (l.used ≤ max l.from (length l.input))
