-- Document 02, order 1: after every list of calls, question 16, asked after 15, gets a yes.
use Rattle.std.specs.Prelude.{if◌then◌else◌}
use Prim.Native.Nat.{ℕ}
use mathlib.Core.Path.{◌≡◌, refl, sym, ap}
use mathlib.Core.Bool.{Bool, true, false, true≢false, not, ◌&&◌, ◌||◌}
use mathlib.Core.List.{List, [], ◌∷◌}
use lib.ListN.{length}
use native.Mathlib.Omega.{arith}
use borrow.Author.Tests.{eqb-false}
use Rattle.definitions.specs.Tests.{◌<?◌, ◌=?◌, guest_up, all, any, keep}
use Rattle.definitions.specs.Segments.{is_identity, touched, span_whole, span_inside}
use Rattle.definitions.specs.Reckoning.{Compartment, compartment_of}
use Rattle.definitions.specs.Questions.{ask, number_of, refusal_number, ranged, on_add, on_remove, on_refcount, on_overlaps, on_map, on_unmap, on_unmap_gpa, on_allow}
use Rattle.definitions.specs.Calls.{compartment, answer_in, answer, after}
use Rattle.definitions.specs.declared.addr.GuestAddr.{GuestAddr}
use Rattle.definitions.specs.declared.remapper.Segment.{Segment}
use Rattle.definitions.specs.declared.answer.Refusal.{Refusal}
use Rattle.definitions.specs.declared.answer.Refusal.TheVariants.{NoCompartment, Overflow, Repeated, OthersTouched}
use Rattle.definitions.specs.Answers.{Answer}
use Rattle.std.specs.Prelude.{Ok, Err}
use Rattle.definitions.specs.declared.call.Call.{Call}
use Rattle.definitions.specs.declared.call.Call.TheVariants.{Add, Remove, Refcount, Overlaps, Map, Unmap, UnmapGpa, Permissions, Remap, Mappings, Allow}
use Rattle.definitions.proofs.SegmentLaws.{AllGood, Singles}
use Rattle.definitions.proofs.GuestLaws.{Unshared, others-untouched}
use Rattle.definitions.proofs.Stored.{stored}

-- where 15 gets a yes, 16 does, of a range that is not empty
then-16 : (ss : List Segment) → AllGood ss → Unshared ss → (g : GuestAddr) (n : ℕ) → (n =? 0) ≡ false → Singles g (guest_up g n) ss
    → (not (any (span_inside g (guest_up g n)) ss) || (length (keep (touched g (guest_up g n)) ss) =? 1)) ≡ true
unfolding guest_up
then-16 ss good u g n z o =
    let some : n ≡ 0 → ⊥ = eqb-false n 0 z in others-untouched g (guest_up g n) (omega arith) ss good u o

-- and so after every list of calls
pub sixteen : (calls : List Call) (k : ℕ) (g : GuestAddr) (n : ℕ) → (n =? 0) ≡ false
    → all (λ s. span_whole g (guest_up g n) s || (s.repeat =? 1)) (keep (touched g (guest_up g n)) (compartment (after calls) k).segments) ≡ true
    → (not (any (span_inside g (guest_up g n)) (compartment (after calls) k).segments)
    || (length (keep (touched g (guest_up g n)) (compartment (after calls) k).segments) =? 1)) ≡ true
sixteen calls k = then-16 (compartment (after calls) k).segments (stored calls k).good (stored calls k).unshared

-- Questions

-- a number that no question has, nor the answer, is not returned
not-asked : (m : ℕ) (qs : List (Bool × Refusal)) (x : Answer) → all (λ q. not (refusal_number q.1 =? m)) qs ≡ true
    → (number_of x ≡ m → ⊥) → number_of (ask qs x) ≡ m → ⊥
unfolding ask
not-asked m [] x h other n = other n
not-asked m (q ∷ qs) x h other n = go q.0 (refusal_number q.1 =? m) refl h n (λ k j. not-asked m qs x k other j)
  where
    go : (t u : Bool) → (refusal_number q.1 =? m) ≡ u → (not u && all (λ q. not (refusal_number q.1 =? m)) qs) ≡ true
        → number_of (if t then ask qs x else Err q.1) ≡ m
        → (all (λ q. not (refusal_number q.1 =? m)) qs ≡ true → number_of (ask qs x) ≡ m → ⊥) → ⊥
    go t true d h n ih = true≢false (sym h)
    go true false d h n ih = ih h n
    go false false d h n ih = eqb-false (refusal_number q.1) m d n

-- of what is done, no number is returned
unless : (t : Bool) (x : Answer) → (t ≡ false → number_of x ≡ 16 → ⊥) → number_of (if t then Ok 0 else x) ≡ 16 → ⊥
unless true x h n = omega arith
unless false x h n = h refl n

neither : (s t : Bool) → (s || t) ≡ false → t ≡ false
neither true t h = absurd (true≢false h)
neither false t h = h

-- 10, 15, 16 of a guest unmap, where a yes to 15 means one to 16
asked : (f o t : Bool) (qs : List (Bool × Refusal)) → (o ≡ true → t ≡ true) → all (λ q. not (refusal_number q.1 =? 16)) qs ≡ true
    → number_of (ask ((f, Overflow) ∷ (o, Repeated) ∷ (t, OthersTouched) ∷ qs) (Ok 0)) ≡ 16 → ⊥
unfolding ask
asked false o t qs h a n = omega arith
asked true false t qs h a n = omega arith
asked true true false qs h a n = true≢false (sym (h refl))
asked true true true qs h a n = not-asked 16 qs (Ok 0) a (λ z. omega arith) n

module _ (c : Compartment) (good : AllGood c.segments) (u : Unshared c.segments) where
  guest-never : (g : GuestAddr) (n : ℕ) → number_of (on_unmap_gpa c g n) ≡ 16 → ⊥
  unfolding on_unmap_gpa
  guest-never g n h =
      unless _ _ (λ d k.
      asked _ _ _ _ (then-16 c.segments good u g n (neither (length c.segments =? 0) (n =? 0) d)) refl k) h

  -- of no call is the answer 16
  pub in-never : (n m : ℕ) (call : Call) → number_of (answer_in n m c call) ≡ 16 → ⊥
  unfolding answer_in ranged on_add on_remove on_refcount on_overlaps on_map on_unmap on_allow
  in-never n m (Add k a e r) h =
      not-asked 16 _ _ refl (unless (a.0 =? e.0) _ (λ d. not-asked 16 _ _ refl (λ z. omega arith))) h
  in-never n m (Remove k a e r) h =
      not-asked 16 _ _ refl (unless (a.0 =? e.0) _ (λ d. not-asked 16 _ _ refl (λ z. omega arith))) h
  in-never n m (Map k p g i t) h =
      not-asked 16 _ _ refl (unless (is_identity p g t) _ (λ d. not-asked 16 _ _ refl (λ z. omega arith))) h
  in-never n m (Overlaps k g i) h = not-asked 16 _ _ refl (λ z. omega arith) h
  in-never n m (Unmap k p i) h = not-asked 16 _ _ refl (λ z. omega arith) h
  in-never n m (UnmapGpa k g i) h = guest-never g i h
  in-never n m (Refcount k a e) h = omega arith
  in-never n m (Permissions k i j) h = omega arith
  in-never n m (Remap k i j) h = omega arith
  in-never n m (Mappings k) h = omega arith
  in-never n m (Allow k new) h = not-asked 16 _ _ refl (λ z. omega arith) h

-- after every list of calls no call is refused with 16
pub never-16 : (calls : List Call) (call : Call) → number_of (answer (after calls) call) ≡ 16 → ⊥
unfolding answer
never-16 calls call h =
    not-asked 16 ((compartment_of call <? 8, NoCompartment) ∷ []) _ refl
    (in-never (compartment (after calls) (compartment_of call)) (stored calls (compartment_of call)).good
    (stored calls (compartment_of call)).unshared _ _ call) h

pub never-others-touched : (calls : List Call) (call : Call) → answer (after calls) call ≡ Err OthersTouched → ⊥
never-others-touched calls call h = never-16 calls call (ap number_of h)
