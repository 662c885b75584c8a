-- What a page of a script promises (document 02, order 13), with no premise.
use Rattle.std.specs.Prelude.{ℕ, ◌≡◌, List, length}
use Rattle.definitions.specs.Planner.{on_plan, plan_filled}
use Rattle.definitions.specs.Answers.{Answer}

-- the adds from one of them on that give the list of these numbers, under so many records: how many, and the slice; refused, it is
-- as it was
pub record PlansPage (allowance : ℕ) (ns : List ℕ) (from : ℕ) (before after : List ℕ) (answer : Answer) : Type 0 where
  pub answered : answer ≡ on_plan allowance ns from (length before)
  pub left : after ≡ plan_filled allowance ns from before
