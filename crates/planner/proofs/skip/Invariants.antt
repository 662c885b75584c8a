use Rattle.definitions.specs.Planner.{wanted, plan}
use Rattle.planner.specs.Cursor.{plan_from}
use lib.ListN.{drop}
use mathlib.Core.Path.{◌≡◌}
use Rattle.planner.proofs.skip.Given as goal

abbrev pub invariant-loop : goal.invariant-loop
invariant-loop l = plan_from l.wanted l.c ≡ drop l.counter (plan (wanted l.wanted))
