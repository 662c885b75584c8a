use mathlib.Core.Path.{◌≡◌}
use lib.ListN.{length}
use Rattle.definitions.specs.Script.{column_of}
use Rattle.columns.proofs.past_spaces.Given as goal

abbrev pub invariant-fours : goal.invariant-fours
invariant-fours l = column_of l.left ≡ column_of l.bytes

abbrev pub decreases-fours : goal.decreases-fours
decreases-fours l = length l.left

abbrev pub invariant-ones : goal.invariant-ones
invariant-ones l = column_of l.left ≡ column_of l.bytes

abbrev pub decreases-ones : goal.decreases-ones
decreases-ones l = length l.left
