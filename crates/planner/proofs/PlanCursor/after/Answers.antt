use mathlib.Core.Path.{sym, ◌∙◌}
use Rattle.planner.specs.Cursor.{after_one}
use Rattle.planner.proofs.PlanCursor.after.Goals as goal
use Rattle.planner.proofs.PlanCursor.after.Goals.{in_default-via-in-Once+else-touches, in_default-via-in_default}

pub returns-in-Once : goal.returns-in-Once
unfolding after_one
returns-in-Once c = simp (c.in-Once.is, sym c.touches.ensures ∙ c.if-touches.true)

pub returns-in-Same : goal.returns-in-Same
unfolding after_one
returns-in-Same c = simp c.in-Same.is

pub returns-in_default : goal.returns-in_default
unfolding after_one
returns-in_default c = elim c.in_default.branch [
  | in_default-via-in-Once+else-touches w ↦ simp (w.in-Once.is, sym w.touches.ensures ∙ w.if-touches.false)
  | in_default-via-in_default w ↦ simp w.in_default.is
]
