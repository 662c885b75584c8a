-- Where the reading of a script's adds stands, and which are still to come.
use Rattle.std.specs.Prelude.{ℕ, ◌≡◌, ◌+◌, ◌*◌, true, false, List, [], ◌∷◌, get_or, drop, if◌then◌else◌, Option, None, Some}
use Rattle.definitions.specs.Planner.{wanted, touches, plan_after}
use Rattle.definitions.specs.declared.region.MemoryPermission.{MemoryPermission}
use Rattle.planner.specs.declared.Before.{Before}
use Rattle.planner.specs.declared.Before.TheVariants.{Done, Once, Same}
use Rattle.planner.specs.declared.PlanCursor.{PlanCursor}

-- range i of the list
abbrev pub wanted_at : List ℕ → ℕ → MemoryPermission
wanted_at ns i = record {
  start = record { 0 = get_or ns (3 * i) 0 };
  end = record { 0 = get_or ns (3 * i + 1) 0 };
  ops = record { 0 = get_or ns (3 * i + 2) 0 };
}

-- behind the add at hand, of the range w
abbrev pub step_on : ℕ → Before → MemoryPermission → PlanCursor
step_on at Done w = record { at = at + 1; before = Once w }
step_on at (Once p) w = if touches p w then record { at = at; before = Same } else record { at = at + 1; before = Once w }
step_on at Same w = record { at = at + 1; before = Done }

unfoldable pub after_one : PlanCursor → MemoryPermission → PlanCursor
after_one c w = step_on c.at c.before w

-- the adds still to come
abbrev pub ahead : Before → List MemoryPermission → List MemoryPermission
ahead before [] = []
ahead Done (w ∷ ws) = w ∷ plan_after w true ws
ahead (Once p) (w ∷ ws) = plan_after p true (w ∷ ws)
ahead Same (w ∷ ws) = w ∷ plan_after w false ws

unfoldable pub plan_from : List ℕ → PlanCursor → List MemoryPermission
plan_from ns c = ahead c.before (wanted (drop (3 * c.at) ns))

-- the first of them is taken, if there is one
abbrev pub Next : List ℕ → PlanCursor → PlanCursor → Option MemoryPermission → Type 0
Next ns c d None = (plan_from ns c ≡ []) × (d ≡ c)
Next ns c d (Some w) = plan_from ns c ≡ w ∷ plan_from ns d
