-- What a line asks for: each line of the form is one task, which prints what the line prints and leaves what it leaves.
use Rattle.std.specs.Prelude.{if◌then◌else◌}
use Prim.Native.Nat.{ℕ, ◌<◌, ◌≤◌}
use mathlib.Core.Path.{◌≡◌, refl, sym, ap, ◌∙◌}
use mathlib.Core.Bool.{Bool, true, false}
use mathlib.Core.Logic.{◌⊎◌, inl, inr}
use mathlib.Core.List.{List, [], ◌∷◌}
use native.Mathlib.Omega.{arith}
use native.Mathlib.Decide.{dec_lt}
use lib.ListN.{replicate}
use borrow.Author.Tests.{le-leb, lt-leb, le-ltb}
use Rattle.definitions.specs.declared.addr.HostAddr.{HostAddr}
use Rattle.definitions.specs.declared.addr.GuestAddr.{GuestAddr}
use Rattle.definitions.proofs.Reckoned.{next-refused, next-read}
use Rattle.definitions.specs.Tests.{◌=?◌}
use Rattle.definitions.specs.Reckoning.{compartment_of, reckon}
use Rattle.definitions.specs.Questions.{ask, accepted}
use Rattle.definitions.specs.Calls.{State, answer, allowed}
use Rattle.definitions.specs.Script.{Read, Line, call, malformed, numbers, unread, call_of, columns_of, line_of, arity, printed, left, mapping_lines}
use Rattle.definitions.specs.declared.answer.Refusal.TheVariants.{NoCompartment}
use Rattle.std.specs.Prelude.{Err}
use Rattle.definitions.specs.declared.call.Call.{Call}
use Rattle.definitions.specs.declared.call.Call.TheVariants.{Add, Remove, Refcount, Overlaps, Map, Unmap, UnmapGpa, Permissions, Remap, Mappings, Allow}
use Rattle.lines.specs.Lines.{line_from}
use Rattle.capability_engine.specs.declared.script.Task.{Task}
use Rattle.capability_engine.specs.declared.script.Task.TheVariants.{Tell, Regions, Segments}
use Rattle.capability_engine.specs.CompartmentSteps.{on_regions, on_segments}
use Rattle.capability_engine.specs.ScriptSteps.{task_in, task_for, task_of, task_prints, task_leaves, Sound}

-- ---- the code's cases

module _ (c : Call) (k : ℕ) where
  pub task-on : compartment_of c ≡ k → (f : ℕ → Task) → k < 8 → task_in c ≡ f (compartment_of c) → f k ≡ task_for c
  task-on q f h t = simp (lt-leb 8 (compartment_of c) (rw (sym q) at h)) (ap f (sym q) ∙ sym t)

-- a map or one of the unmaps
pub task-segments : (c : Call)
    → (((k : ℕ) × (p : HostAddr) × (g : GuestAddr) × (n : ℕ) × (t : ℕ) × (c ≡ Map k p g n t))
    ⊎ (((k : ℕ) × (p : HostAddr) × (n : ℕ) × (c ≡ Unmap k p n)) ⊎ ((k : ℕ) × (g : GuestAddr) × (n : ℕ) × (c ≡ UnmapGpa k g n))))
    → task_in c ≡ Segments (compartment_of c) c
unfolding compartment_of
task-segments c (inl (k, p, g, n, t, e)) = rw e
task-segments c (inr (inl (k, p, n, e))) = rw e
task-segments c (inr (inr (k, g, n, e))) = rw e

pub task-other : (c : Call) → ((k : ℕ) (p : HostAddr) (g : GuestAddr) (n t : ℕ) → c ≡ Map k p g n t → ⊥) → ((k : ℕ) (p : HostAddr) (n : ℕ) → c ≡ Unmap k p n → ⊥)
    → ((k : ℕ) (g : GuestAddr) (n : ℕ) → c ≡ UnmapGpa k g n → ⊥) → ((k : ℕ) → c ≡ Mappings k → ⊥) → ((k n : ℕ) → c ≡ Allow k n → ⊥) → task_in c ≡ Regions (compartment_of c) c
unfolding compartment_of
task-other (Add k a e r) h i j l m = refl
task-other (Remove k a e r) h i j l m = refl
task-other (Refcount k a e) h i j l m = refl
task-other (Overlaps k g n) h i j l m = refl
task-other (Permissions k q n) h i j l m = refl
task-other (Remap k q n) h i j l m = refl
task-other (Map k p g n t) h i j l m = absurd (h k p g n t refl)
task-other (Unmap k p n) h i j l m = absurd (i k p n refl)
task-other (UnmapGpa k g n) h i j l m = absurd (j k g n refl)
task-other (Mappings k) h i j l m = absurd (l k refl)
task-other (Allow k n) h i j l m = absurd (m k n refl)

-- ---- what lines say

-- the calls that a line makes
abbrev Spoken : Call → Type 0
Spoken (Overlaps k g n) = ⊥
Spoken (Permissions k i n) = ⊥
Spoken (Remap k i n) = ⊥
Spoken (Add k a e r) = Unit {0}
Spoken (Remove k a e r) = Unit {0}
Spoken (Refcount k a e) = Unit {0}
Spoken (Map k h g n t) = Unit {0}
Spoken (Unmap k h n) = Unit {0}
Spoken (UnmapGpa k g n) = Unit {0}
Spoken (Mappings k) = Unit {0}
Spoken (Allow k n) = Unit {0}

data AsSpoken : Line → Type 0 where
  one : {c : Call} → Spoken c → AsSpoken (call c)
  none : AsSpoken malformed

either : (b : Bool) {x y : Line} → AsSpoken x → AsSpoken y → AsSpoken (if b then x else y)
either true p q = p
either false p q = q

call-spoken : (letter : ℕ) (r : Read) → AsSpoken (call_of letter r)
call-spoken letter unread = none
call-spoken letter (numbers []) = none
call-spoken letter (numbers (k ∷ [])) = either (letter =? 80) (one tt) none
call-spoken letter (numbers (k ∷ a ∷ [])) = either (letter =? 83) (one tt) none
call-spoken letter (numbers (k ∷ a ∷ b ∷ [])) =
    either (letter =? 67) (one tt) (either (letter =? 85) (one tt) (either (letter =? 71) (one tt) none))
call-spoken letter (numbers (k ∷ a ∷ b ∷ c ∷ [])) = either (letter =? 65) (one tt) (either (letter =? 68) (one tt) none)
call-spoken letter (numbers (k ∷ a ∷ b ∷ c ∷ d ∷ [])) = either (letter =? 77) (one tt) none
call-spoken letter (numbers (k ∷ a ∷ b ∷ c ∷ d ∷ e ∷ ns)) = none

spoken : (bs : List ℕ) → AsSpoken (line_of bs)
unfolding line_of
spoken [] = none
spoken (letter ∷ bs) = call-spoken letter (columns_of (2 ∷ replicate (arity letter) 21) bs)

-- ---- the task of a line

-- what a task is to a line
pub record Asks (l : Line) (t : Task) : Type 0 where
  pub sound : Sound t
  pub prints : (s : State) → printed s l ≡ task_prints s t
  pub leaves : (s : State) → left s l ≡ task_leaves s t

-- a call on no compartment answers so, prints nothing else and leaves everything
none-answer : (s : State) (c : Call) → 8 ≤ compartment_of c → answer s c ≡ Err NoCompartment
unfolding answer ask
none-answer s c h = simp (le-ltb (compartment_of c) 8 h)

none-lines : (s : State) (c : Call) → 8 ≤ compartment_of c → mapping_lines s c ≡ []
unfolding mapping_lines compartment_of
none-lines s (Add k a e r) h = refl
none-lines s (Remove k a e r) h = refl
none-lines s (Refcount k a e) h = refl
none-lines s (Overlaps k g n) h = refl
none-lines s (Map k p g n t) h = refl
none-lines s (Unmap k p n) h = refl
none-lines s (UnmapGpa k g n) h = refl
none-lines s (Permissions k i n) h = refl
none-lines s (Remap k i n) h = refl
none-lines s (Mappings k) h = simp (le-ltb k 8 h)
none-lines s (Allow k n) h = refl

asks_none : (c : Call) → 8 ≤ compartment_of c → Asks (call c) (Tell (Err NoCompartment))
unfolding task_prints task_leaves
asks_none c h = record {
  sound = tt;
  prints = λ s. rw (none-answer s c h, none-lines s c h);
  leaves = λ s. next-refused s c (ap accepted (none-answer s c h));
}

asks-in : (c : Call) → Spoken c → compartment_of c < 8 → Asks (call c) (task_in c)
unfolding task_prints task_leaves compartment_of on_regions on_segments mapping_lines reckon allowed
asks-in (Add k a e r) u h = record { sound = record { one = refl; below = h; is = refl }; prints = λ s. refl; leaves = λ s. refl }
asks-in (Remove k a e r) u h = record { sound = record { one = refl; below = h; is = refl }; prints = λ s. refl; leaves = λ s. refl }
asks-in (Refcount k a e) u h = record { sound = record { one = refl; below = h; is = refl }; prints = λ s. refl; leaves = λ s. refl }
asks-in (Map k p g n t) u h = record { sound = record { one = refl; below = h; is = refl }; prints = λ s. refl; leaves = λ s. refl }
asks-in (Unmap k p n) u h = record { sound = record { one = refl; below = h; is = refl }; prints = λ s. refl; leaves = λ s. refl }
asks-in (UnmapGpa k g n) u h = record { sound = record { one = refl; below = h; is = refl }; prints = λ s. refl; leaves = λ s. refl }
asks-in (Mappings k) u h = record { sound = h; prints = λ s. refl; leaves = λ s. next-read s (Mappings k) refl refl }
asks-in (Allow k n) u h = record { sound = h; prints = λ s. refl; leaves = λ s. refl }
asks-in (Overlaps k g n) u h = absurd u
asks-in (Permissions k i n) u h = absurd u
asks-in (Remap k i n) u h = absurd u

asks-line : (l : Line) → AsSpoken l → Asks l (task_of (line_from l))
unfolding task_prints task_leaves
asks-line malformed none = record { sound = tt; prints = λ s. refl; leaves = λ s. refl }
asks-line (call c) (one u) =
    elim (dec_lt (compartment_of c) 8) [
      | yes h ↦ simp (lt-leb 8 (compartment_of c) h) (asks-in c u h)
      | no h ↦ simp (le-leb 8 (compartment_of c) (omega arith)) (asks_none c (omega arith))
    ]

-- of the line that bytes say
pub asks : (bs : List ℕ) → Asks (line_of bs) (task_of (line_from (line_of bs)))
asks bs = asks-line (line_of bs) (spoken bs)
