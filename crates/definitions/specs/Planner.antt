-- Document 02, order 13: calls for a wanted layout.
use Rattle.std.specs.Prelude.{ℕ, ◌≡◌, Bool, true, false, ◌&&◌, List, [], ◌∷◌, map, length, if◌then◌else◌}
use Rattle.definitions.specs.Tests.{◌<?◌, ◌≤?◌, ◌=?◌, host, each}
use Rattle.definitions.specs.Regions.{regions, permission_of}
use Rattle.definitions.specs.Reckoning.{Compartment, empty, reckon}
use Rattle.definitions.specs.Pages.{permission_group, page, filled}
use Rattle.definitions.specs.Questions.{ask, accepted}
use Rattle.definitions.specs.Calls.{State, allowance, answer_in}
use Rattle.definitions.specs.declared.region.MemoryPermission.{MemoryPermission}
use Rattle.definitions.specs.declared.answer.Refusal.TheVariants.{NoCompartment, NoScript}
use Rattle.definitions.specs.Answers.{Answer}
use Rattle.std.specs.Prelude.{Ok}
use Rattle.definitions.specs.declared.call.Call.{Call}
use Rattle.definitions.specs.declared.call.Call.TheVariants.{Add, Remove, Refcount, Overlaps, Map, Unmap, UnmapGpa, Permissions, Remap, Mappings, Allow}

-- Question setters write down the permission ranges they wish to see, as start, end and rights in order.
unfoldable pub wanted : List ℕ → List MemoryPermission
wanted [] = []
wanted (a ∷ []) = []
wanted (a ∷ e ∷ []) = []
wanted (a ∷ e ∷ r ∷ ns) = record { start = host a; end = host e; ops = record { 0 = r } } ∷ wanted ns

-- does the last range lack no number?
unfoldable pub finished : List ℕ → Bool
finished [] = true
finished (a ∷ []) = false
finished (a ∷ e ∷ []) = false
finished (a ∷ e ∷ r ∷ ns) = finished ns

-- Each range, in order, is added once, but twice where it touches the one before with equal rights and that was added once.
unfoldable pub touches : MemoryPermission → MemoryPermission → Bool
touches p w = (p.end.0 =? w.start.0) && (p.ops.0 =? w.ops.0)

unfoldable pub plan_after : MemoryPermission → Bool → List MemoryPermission → List MemoryPermission
plan_after p once [] = []
plan_after p once (w ∷ ws) =
    if once && touches p w then w ∷ w ∷ plan_after w false ws else w ∷ plan_after w true ws

unfoldable pub plan : List MemoryPermission → List MemoryPermission
plan [] = []
plan (w ∷ ws) = w ∷ plan_after w true ws

-- the adds, for compartment k
unfoldable pub adds : ℕ → List MemoryPermission → List Call
adds k ws = map (λ w. Add k w.start w.end w.ops.0) ws

-- The script is read by pages as the stream is, start, end and rights for each add.
unfoldable pub plan_groups : List MemoryPermission → List (List ℕ)
plan_groups ws = map permission_group (plan ws)

-- 25: could a script give the list? Its ranges are not empty, in order and apart, their rights below 64, and no more of them
-- than the allowance.
unfoldable pub apart : ℕ → List MemoryPermission → Bool
apart lo [] = true
apart lo (w ∷ ws) = (lo ≤? w.start.0) && (w.start.0 <? w.end.0) && (w.ops.0 <? 64) && apart w.end.0 ws

unfoldable pub can_be : ℕ → List MemoryPermission → Bool
can_be m ws = apart 0 ws && (length ws ≤? m)

-- and the last one lacks no number
unfoldable pub can_wish : ℕ → List ℕ → Bool
can_wish m ns = finished ns && can_be m (wanted ns)

-- what a page of the script answers, from an add on, into so many numbers: how many groups; refused, it leaves the slice alone
unfoldable pub on_plan : ℕ → List ℕ → ℕ → ℕ → Answer
on_plan m ns i room =
    ask ((can_wish m ns, NoScript) ∷ []) (Ok (length (page 3 (plan_groups (wanted ns)) i room)))

unfoldable pub plan_filled : ℕ → List ℕ → ℕ → List ℕ → List ℕ
plan_filled m ns i out = if can_wish m ns then filled 3 (plan_groups (wanted ns)) i out else out

-- the same of compartment k, under the allowance that it has, after question 1: what the compartment holds is not asked, since the
-- script is one for it when it is empty
unfoldable pub plan_answer : State → ℕ → List ℕ → ℕ → ℕ → Answer
plan_answer s k ns i room = ask ((k <? 8, NoCompartment) ∷ []) (on_plan (allowance s k) ns i room)

unfoldable pub plan_left : State → ℕ → List ℕ → ℕ → List ℕ → List ℕ
plan_left s k ns i out = if k <? 8 then plan_filled (allowance s k) ns i out else out

-- is it an add or a remove?
unfoldable pub changes : Call → Bool
changes (Add k a e r) = true
changes (Remove k a e r) = true
changes (Map k h g n t) = false
changes (Unmap k h n) = false
changes (UnmapGpa k g n) = false
changes (Refcount k a e) = false
changes (Overlaps k g n) = false
changes (Permissions k i n) = false
changes (Remap k i n) = false
changes (Mappings k) = false
changes (Allow k n) = false

-- are all of these adds and removes, each accepted under the allowance on what the last one left? (They ask nothing of the other
-- compartments' allowances.)
unfoldable pub all_taken : ℕ → Compartment → List Call → Bool
all_taken m c [] = true
all_taken m c (call ∷ calls) =
    changes call && accepted (answer_in 0 m c call) && all_taken m (reckon call c) calls

-- what they leave of the compartment
unfoldable pub reckon_all : Compartment → List Call → Compartment
reckon_all c [] = c
reckon_all c (call ∷ calls) = reckon_all (reckon call c) calls

-- the script gives the list: run on an empty compartment, it yields exactly that permission list
pub record Gives (m : ℕ) (calls : List Call) (ws : List MemoryPermission) : Type 0 where
  pub taken : all_taken m empty calls ≡ true
  pub yields : map permission_of (regions (reckon_all empty calls).values) ≡ ws

-- and the wish, which is that list as numbers
pub record Grants (m : ℕ) (calls : List Call) (ns : List ℕ) : Type 0 where
  pub taken : all_taken m empty calls ≡ true
  pub yields : each (λ r. permission_group (permission_of r)) (regions (reckon_all empty calls).values) ≡ ns
