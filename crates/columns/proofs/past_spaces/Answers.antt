use native.Mathlib.Omega.{arith}
use mathlib.Core.Path.{◌∙◌}
use lib.ListN.{length-drop}
use Rattle.columns.proofs.Steps.{rest-is, one_passed, fours-passed}
use Rattle.columns.proofs.past_spaces.Goals as goal

pub fours-smaller : goal.fours-smaller
fours-smaller c = simp (rest-is, length-drop) (omega arith)

pub fours-preserved : goal.fours-preserved
fours-preserved c =
    let all = c.are_spaces.ensures c.if-not-are_spaces.false in
    fours-passed c.fours.left.now (omega arith) all.0 all.1 all.2 all.3 ∙ c.fours.invariant

pub ones-smaller : goal.ones-smaller
ones-smaller c = simp (rest-is, length-drop) (omega arith)

pub ones-preserved : goal.ones-preserved
ones-preserved c = one_passed c.ones.left.now c.in-32.len_at_least (omega arith) ∙ c.ones.invariant
