use mathlib.Core.Path.{◌≡◌}
use lib.ListN.{drop}
use Rattle.definitions.specs.Script.{digits_of}
use Rattle.columns.proofs.digits.Given as goal

abbrev pub invariant-loop-b : goal.invariant-loop-b
invariant-loop-b l = digits_of l.n (drop l.b-index l.bytes) ≡ digits_of l.first l.bytes
