-- What a cursor has still to come, and what the tests of a list say.
use Rattle.std.specs.Prelude.{Option, None, Some}
use Rattle.std.specs.Option.{is_some}
use Prim.Native.Nat.{ℕ, ◌+◌, ◌*◌, ◌/◌, ◌%◌, ◌<◌, ◌≤◌}
use mathlib.Core.Path.{◌≡◌, refl, sym, ap, ◌∙◌}
use mathlib.Core.Bool.{Bool, true, false, true≢false, not}
use mathlib.Core.List.{List, [], ◌∷◌, map}
use lib.ListN.{length, get_or, drop, length-drop}
use lib.Seq.{get_or-drop, drop-drop}
use native.Mathlib.Omega.{arith}
use borrow.Author.Tests.{lt-leb, le-leb, le-ltb, lt-ltb, not-true, not-false}
use Rattle.definitions.specs.Tests.{◌≤?◌, host}
use Rattle.definitions.specs.Planner.{wanted, finished, touches, plan_after, plan, plan_groups, apart, can_be, can_wish, on_plan, plan_filled}
use Rattle.definitions.specs.Pages.{permission_group, Filled}
use Rattle.definitions.specs.Questions.{ask}
use Rattle.std.specs.Prelude.{Ok, Err}
use Rattle.definitions.specs.declared.answer.Refusal.TheVariants.{NoScript}
use Rattle.definitions.specs.declared.region.MemoryPermission.{MemoryPermission}
use Rattle.definitions.proofs.Bools.{and-false}
use Rattle.planner.specs.declared.Before.{Before}
use Rattle.planner.specs.declared.Before.TheVariants.{Done, Once, Same}
use Rattle.planner.specs.declared.PlanCursor.{PlanCursor}
use Rattle.planner.specs.Cursor.{wanted_at, step_on, after_one, ahead, plan_from, Next}
use Rattle.planner.specs.Page.{PlansPage}
use Rattle.definitions.proofs.Fills.{opens, drop_past, from_at}

-- a whole group at hand
three-off : (ns : List ℕ) → 3 ≤ length ns → wanted ns ≡ wanted_at ns 0 ∷ wanted (drop 3 ns)
unfolding wanted host
three-off [] l = absurd (omega arith)
three-off (a ∷ []) l = absurd (omega arith)
three-off (a ∷ e ∷ []) l = absurd (omega arith)
three-off (a ∷ e ∷ r ∷ ns) l = refl

-- none
none-off : (ns : List ℕ) → length ns < 3 → wanted ns ≡ []
unfolding wanted
none-off [] l = refl
none-off (a ∷ []) l = refl
none-off (a ∷ e ∷ []) l = refl
none-off (a ∷ e ∷ r ∷ ns) l = absurd (omega arith)

pub group_at : (ns : List ℕ) (i : ℕ) → 3 * i + 3 ≤ length ns → wanted (drop (3 * i) ns) ≡ wanted_at ns i ∷ wanted (drop (3 * (i + 1)) ns)
group_at ns i l =
    three-off (drop (3 * i) ns) (omega (arith, length-drop (3 * i) ns))
    ∙ (λ k. record { start = record { 0 = first k }; end = record { 0 = word 1 k }; ops = record { 0 = word 2 k } } ∷ wanted (rest k))
  where
    word : (d : ℕ) → get_or (drop (3 * i) ns) d 0 ≡ get_or ns (3 * i + d) 0
    word d = get_or-drop (3 * i) ns d 0

    first : get_or (drop (3 * i) ns) 0 0 ≡ get_or ns (3 * i) 0
    first = let z : 3 * i + 0 ≡ 3 * i = omega arith in rw z at (word 0)

    rest : drop 3 (drop (3 * i) ns) ≡ drop (3 * (i + 1)) ns
    rest = let z : 3 * i + 3 ≡ 3 * (i + 1) = omega arith in rw z at (drop-drop 3 (3 * i) ns)

pub none-at : (ns : List ℕ) (i : ℕ) → length ns / 3 ≤ i → wanted (drop (3 * i) ns) ≡ []
none-at ns i l = none-off (drop (3 * i) ns) (omega (arith, length-drop (3 * i) ns))

pub length-wanted : (ns : List ℕ) → length (wanted ns) ≡ length ns / 3
unfolding wanted
length-wanted [] = refl
length-wanted (a ∷ []) = refl
length-wanted (a ∷ e ∷ []) = refl
length-wanted (a ∷ e ∷ r ∷ ns) = omega (arith, length-wanted ns)

-- ---- the cursor

once-ahead : (w : MemoryPermission) (vs : List MemoryPermission) → ahead (Once w) vs ≡ plan_after w true vs
unfolding plan_after
once-ahead w [] = refl
once-ahead w (v ∷ vs) = refl

done-ahead : (w : MemoryPermission) (vs : List MemoryPermission) → ahead Done vs ≡ plan_after w false vs
unfolding plan_after
done-ahead w [] = refl
done-ahead w (v ∷ vs) = refl

start-ahead : (vs : List MemoryPermission) → ahead Done vs ≡ plan vs
unfolding plan
start-ahead [] = refl
start-ahead (v ∷ vs) = refl

pub plan-start : (ns : List ℕ) → plan_from ns (record { at = 0; before = Done }) ≡ plan (wanted ns)
unfolding plan_from
plan-start ns = start-ahead (wanted ns)

pub plan-end : (ns : List ℕ) (c : PlanCursor) → length ns / 3 ≤ c.at → plan_from ns c ≡ []
unfolding plan_from
plan-end ns c l = ap (ahead c.before) (none-at ns c.at l)

pub plan-step : (ns : List ℕ) (c : PlanCursor) → 3 * c.at + 3 ≤ length ns
    → plan_from ns c ≡ wanted_at ns c.at ∷ plan_from ns (after_one c (wanted_at ns c.at))
unfolding plan_from after_one plan_after
plan-step ns c l = ap (ahead c.before) (group_at ns c.at l) ∙ go c.before
  where
    w : MemoryPermission
    w = wanted_at ns c.at

    rest : List MemoryPermission
    rest = wanted (drop (3 * (c.at + 1)) ns)

    go : (b : Before) → ahead b (w ∷ rest) ≡ w ∷ plan_from ns (step_on c.at b w)
    go Done = ap (λ vs. w ∷ vs) (sym (once-ahead w rest))
    go Same = ap (λ vs. w ∷ vs) (sym (done-ahead w rest))
    go (Once p) = joins (touches p w) refl
      where
        joins : (t : Bool) → touches p w ≡ t → ahead (Once p) (w ∷ rest) ≡ w ∷ plan_from ns (step_on c.at (Once p) w)
        joins true d = simp d (ap (λ vs. w ∷ vs) (sym (ap (ahead Same) (group_at ns c.at l))))
        joins false d = simp d (ap (λ vs. w ∷ vs) (sym (once-ahead w rest)))

pub step_is : (ns : List ℕ) (c d : PlanCursor) (w : MemoryPermission) → 3 * c.at + 3 ≤ length ns → w ≡ wanted_at ns c.at → d ≡ after_one c w
    → plan_from ns c ≡ w ∷ plan_from ns d
step_is ns c d w l e f = rw (f, e) (plan-step ns c l)

-- past one add more
pub skip_step : (ns : List ℕ) (c d : PlanCursor) (w : MemoryPermission) (i : ℕ) (xs : List MemoryPermission) → plan_from ns c ≡ w ∷ plan_from ns d
    → plan_from ns c ≡ drop i xs → plan_from ns d ≡ drop (i + 1) xs
skip_step ns c d w i xs e g = sym (opens xs i w (plan_from ns d) (sym g ∙ e)).back

pub skip-end : (ns : List ℕ) (c d : PlanCursor) (i k : ℕ) (xs : List MemoryPermission) → (plan_from ns c ≡ []) × (d ≡ c) → i ≤ k → plan_from ns c ≡ drop i xs → plan_from ns d ≡ drop k xs
skip-end ns c d i k xs z m g = ap (plan_from ns) z.1 ∙ z.0 ∙ sym (drop_past xs i k (sym g ∙ z.0) m)

-- what a test of the add taken says
module _ (ns : List ℕ) (c d : PlanCursor) where
  pub stopped : (r : Option MemoryPermission) → Next ns c d r → is_some r ≡ false → (plan_from ns c ≡ []) × (d ≡ c)
  stopped None n e = n
  stopped (Some w) n e = absurd (true≢false e)

  pub went : (r : Option MemoryPermission) → Next ns c d r → is_some r ≡ true → (w : MemoryPermission) × (plan_from ns c ≡ w ∷ plan_from ns d)
  went None n e = absurd (true≢false (sym e))
  went (Some w) n e = (w, n)

-- ---- the tests of a list

module _ (allowance : ℕ) (ns : List ℕ) (lo i : ℕ) (p : MemoryPermission) (e : p ≡ wanted_at ns i) (l : 3 * i + 3 ≤ length ns)
    (g : apart 0 (wanted ns) ≡ apart lo (wanted (drop (3 * i) ns))) where
  here : apart 0 (wanted ns) ≡ apart lo (p ∷ wanted (drop (3 * (i + 1)) ns))
  here = g ∙ ap (apart lo) (group_at ns i l ∙ ap (λ v. v ∷ wanted (drop (3 * (i + 1)) ns)) (sym e))

  pub too-low : p.start.0 < lo → false ≡ can_be allowance (wanted ns)
  unfolding can_be apart
  too-low m = rw here (simp (lt-leb lo p.start.0 m))

  pub no_address : p.end.0 ≤ p.start.0 → false ≡ can_be allowance (wanted ns)
  unfolding can_be apart
  no_address m = rw here (simp (le-ltb p.start.0 p.end.0 m, and-false))

  pub no-rights : 64 ≤ p.ops.0 → false ≡ can_be allowance (wanted ns)
  unfolding can_be apart
  no-rights m = rw here (simp (le-ltb p.ops.0 64 m, and-false))

  pub is-apart : lo ≤ p.start.0 → p.start.0 < p.end.0 → p.ops.0 < 64 → apart 0 (wanted ns) ≡ apart p.end.0 (wanted (drop (3 * (i + 1)) ns))
  unfolding apart
  is-apart a b d = here ∙ simp (le-leb lo p.start.0 a, lt-ltb p.start.0 p.end.0 b, lt-ltb p.ops.0 64 d)

pub all-is-apart : (allowance : ℕ) (ns : List ℕ) (lo i : ℕ) → length ns / 3 ≤ i → apart 0 (wanted ns) ≡ apart lo (wanted (drop (3 * i) ns))
    → (length ns / 3 ≤? allowance) ≡ can_be allowance (wanted ns)
unfolding can_be apart
all-is-apart allowance ns lo i l g = rw (g ∙ ap (apart lo) (none-at ns i l), length-wanted ns)

-- does the last range lack a number?
unfinished : (ns : List ℕ) → (length ns % 3 ≡ 0 → ⊥) → finished ns ≡ false
unfolding finished
unfinished [] h = absurd (h refl)
unfinished (a ∷ []) h = refl
unfinished (a ∷ e ∷ []) h = refl
unfinished (a ∷ e ∷ r ∷ ns) h = unfinished ns (λ z. h (omega arith))

is-finished : (ns : List ℕ) → length ns % 3 ≡ 0 → finished ns ≡ true
unfolding finished
is-finished [] h = refl
is-finished (a ∷ []) h = absurd (omega arith)
is-finished (a ∷ e ∷ []) h = absurd (omega arith)
is-finished (a ∷ e ∷ r ∷ ns) h = is-finished ns (omega arith)

module _ (allowance : ℕ) (ns : List ℕ) where
  pub lacks-number : (length ns % 3 ≡ 0 → ⊥) → false ≡ can_wish allowance ns
  unfolding can_wish
  lacks-number h = rw (unfinished ns h)

  pub lacks-none : (b : Bool) → length ns % 3 ≡ 0 → b ≡ can_be allowance (wanted ns) → b ≡ can_wish allowance ns
  unfolding can_wish
  lacks-none b h e = rw (is-finished ns h) e

pub ruleset lacks = (lacks-number, lacks-none)

-- ---- what the functions return

module _ (allowance : ℕ) (ns : List ℕ) (from : ℕ) (before : List ℕ) (b : Bool) (e : b ≡ can_wish allowance ns) where
  pub page-none : not b ≡ true → PlansPage allowance ns from before before (Err NoScript)
  unfolding on_plan plan_filled ask
  page-none d = record { answered = rw (sym e ∙ not-true b d); left = rw (sym e ∙ not-true b d) }

  pub page-some : not b ≡ false → (c : PlanCursor) → plan_from ns c ≡ drop from (plan (wanted ns)) → (after : List ℕ) (n : ℕ)
      → Filled 3 (map permission_group (plan_from ns c)) 0 before after n → PlansPage allowance ns from before after (Ok n)
  unfolding on_plan plan_filled plan_groups ask
  page-some d c g after n f =
      let h = from_at 3 permission_group (plan (wanted ns)) (plan_from ns c) from before after n g f in
      record { answered = rw (sym e ∙ not-false b d) (ap Ok h.many); left = rw (sym e ∙ not-false b d) h.slice }
