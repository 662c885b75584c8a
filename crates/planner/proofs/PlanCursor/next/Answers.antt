use mathlib.Core.Path.{refl}
use native.Mathlib.Omega.{arith}
use Rattle.planner.proofs.Cursors.{plan-end, step_is}
use Rattle.planner.proofs.PlanCursor.next.Goals as goal

pub returns-then-self-wanted : goal.returns-then-self-wanted
returns-then-self-wanted c = (plan-end _ _ c.if-self-wanted.true, refl)

pub returns : goal.returns
returns c = step_is c.args.wanted.now c.args.self.now c.after.result c.load-w.result (omega (arith, c.if-self-wanted.false)) c.load-w.ensures c.after.ensures
