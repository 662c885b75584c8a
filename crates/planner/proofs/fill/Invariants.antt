use Rattle.definitions.specs.Pages.{permission_group}
use Rattle.planner.specs.Cursor.{plan_from}
use Rattle.definitions.proofs.Fills.{Walk}
use Rattle.planner.proofs.fill.Given as goal

abbrev pub invariant-loop-i : goal.invariant-loop-i
invariant-loop-i l = Walk 3 permission_group (plan_from l.wanted l.initial.c) (plan_from l.wanted l.c) l.initial.out l.out l.i
