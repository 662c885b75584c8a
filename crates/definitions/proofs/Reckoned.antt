-- Each compartment after every list of calls is as its reckoning, which is fed only the arguments and whether each call
-- was accepted.
use Rattle.std.specs.Prelude.{if◌then◌else◌}
use Prim.Native.Nat.{ℕ, zero, suc, ◌<◌}
use mathlib.Core.Path.{◌≡◌, refl, sym, ap, ◌∙◌, subst}
use mathlib.Core.Bool.{Bool, true, false, ◌&&◌}
use mathlib.Core.List.{List, [], ◌∷◌, ◌++◌}
use lib.ListN.{length, get_or, set, replicate, length-set}
use lib.Seq.{get_or-set_same, get_or-set_other}
use native.Mathlib.Omega.{arith}
use borrow.Author.Tests.{ltb-true, eqb-true, eqb-false}
use Rattle.definitions.specs.Tests.{◌<?◌, ◌=?◌}
use Rattle.definitions.specs.Reckoning.{Compartment, empty, reckon, compartment_of, reckon_from, reckoning}
use Rattle.definitions.specs.Questions.{accepted}
use Rattle.definitions.specs.Calls.{State, start, compartment, allowance, others, answer_in, answer, allowed, next, after_from, after, fed_from, fed}
use Rattle.definitions.specs.declared.answer.Refusal.TheVariants.{NoCompartment}
use Rattle.definitions.specs.declared.call.Call.{Call}
use Rattle.definitions.proofs.Passed.{passed}

-- question 1, and that the compartment's own answer is a yes
pub accepted-in : (s : State) (c : Call) → accepted (answer s c) ≡ true
    → (compartment_of c < 8)
    × (accepted (answer_in (others s.allowances (compartment_of c)) (allowance s (compartment_of c)) (compartment s (compartment_of c)) c) ≡ true)
unfolding answer
accepted-in s c h =
    let p = passed ((compartment_of c <? 8, NoCompartment) ∷ []) (answer_in (others s.allowances (compartment_of c)) (allowance s (compartment_of c)) (compartment s (compartment_of c)) c) h in
    (ltb-true (compartment_of c) 8 p.0.0, p.1)

-- One call

pub next-accepted : (s : State) (c : Call) → accepted (answer s c) ≡ true
    → (next s c).compartments ≡ set s.compartments (compartment_of c) (reckon c (compartment s (compartment_of c)))
unfolding next
next-accepted s c h = simp h

pub next-allowed : (s : State) (c : Call) → accepted (answer s c) ≡ true
    → (next s c).allowances ≡ set s.allowances (compartment_of c) (allowed c (allowance s (compartment_of c)))
unfolding next
next-allowed s c h = simp h

pub next-refused : (s : State) (c : Call) → accepted (answer s c) ≡ false → next s c ≡ s
unfolding next
next-refused s c h = simp h

pub length-next : (s : State) (c : Call) → length (next s c).compartments ≡ length s.compartments
length-next s c = go (accepted (answer s c)) refl
  where
    go : (t : Bool) → accepted (answer s c) ≡ t → length (next s c).compartments ≡ length s.compartments
    go true d = rw (next-accepted s c d) (simp length-set)
    go false d = ap (λ t. length t.compartments) (next-refused s c d)

pub length-allowed : (s : State) (c : Call) → length (next s c).allowances ≡ length s.allowances
length-allowed s c = go (accepted (answer s c)) refl
  where
    go : (t : Bool) → accepted (answer s c) ≡ t → length (next s c).allowances ≡ length s.allowances
    go true d = rw (next-allowed s c d) (simp length-set)
    go false d = ap (λ t. length t.allowances) (next-refused s c d)

pub next-other : (s : State) (c : Call) (k : ℕ) → (compartment_of c =? k) ≡ false
    → compartment (next s c) k ≡ compartment s k
unfolding compartment
next-other s c k e = go (accepted (answer s c)) refl
  where
    go : (t : Bool) → accepted (answer s c) ≡ t → compartment (next s c) k ≡ compartment s k
    go true d =
        let q : k ≡ compartment_of c → ⊥ = λ p. eqb-false (compartment_of c) k e (sym p) in
        rw (next-accepted s c d) (simp get_or-set_other)
    go false d = ap (λ t. get_or t.compartments k empty) (next-refused s c d)

pub next-same : (s : State) (c : Call) → length s.compartments ≡ 8 → accepted (answer s c) ≡ true
    → compartment (next s c) (compartment_of c) ≡ reckon c (compartment s (compartment_of c))
unfolding compartment
next-same s c l h =
    let q : compartment_of c < length s.compartments = omega (arith, (accepted-in s c h).0) in
    rw (next-accepted s c h) (simp get_or-set_same)

-- a call that reckons no change leaves the state equal
pub set_same : {A : Type 0} (l : List A) (k : ℕ) (d : A) → set l k (get_or l k d) ≡ l
set_same [] k d = refl
set_same (a ∷ l) zero d = refl
set_same (a ∷ l) (suc k) d = ap (λ t. a ∷ t) (set_same l k d)

pub next-read : (s : State) (c : Call) → reckon c (compartment s (compartment_of c)) ≡ compartment s (compartment_of c)
    → allowed c (allowance s (compartment_of c)) ≡ allowance s (compartment_of c) → next s c ≡ s
unfolding compartment allowance
next-read s c h m = go (accepted (answer s c)) refl
  where
    go : (t : Bool) → accepted (answer s c) ≡ t → next s c ≡ s
    go true d =
        let p : (next s c).compartments ≡ s.compartments =
        next-accepted s c d ∙ ap (set s.compartments (compartment_of c)) h ∙ set_same s.compartments (compartment_of c) empty in
        let q : (next s c).allowances ≡ s.allowances =
        next-allowed s c d ∙ ap (set s.allowances (compartment_of c)) m ∙ set_same s.allowances (compartment_of c) 0 in
        λ i. record { compartments = p i; allowances = q i }
    go false d = next-refused s c d

-- every compartment after one call
pub next-at : (s : State) (c : Call) (k : ℕ) → length s.compartments ≡ 8
    → compartment (next s c) k ≡ (if (compartment_of c =? k) && accepted (answer s c) then reckon c (compartment s k) else compartment s k)
next-at s c k l = go (compartment_of c =? k) refl (accepted (answer s c)) refl
  where
    go : (t : Bool) → (compartment_of c =? k) ≡ t → (u : Bool) → accepted (answer s c) ≡ u
        → compartment (next s c) k ≡ (if (compartment_of c =? k) && accepted (answer s c) then reckon c (compartment s k) else compartment s k)
    go false e u d = simp e (next-other s c k e)
    go true e false d = simp (e, d) (ap (λ t. compartment t k) (next-refused s c d))
    go true e true d =
        simp (e, d) (subst (λ (j : ℕ). compartment (next s c) j ≡ reckon c (compartment s j)) (eqb-true (compartment_of c) k e) (next-same s c l d))

-- Every list of calls

pub length-after_from : (calls : List Call) (s : State) → length (after_from s calls).compartments ≡ length s.compartments
unfolding after_from
length-after_from [] s = refl
length-after_from (c ∷ cs) s = length-after_from cs (next s c) ∙ length-next s c

pub length-after : (calls : List Call) → length (after calls).compartments ≡ 8
unfolding after start
length-after calls = length-after_from calls start

pub reckoned_from : (calls : List Call) (s : State) (k : ℕ) → length s.compartments ≡ 8
    → compartment (after_from s calls) k ≡ reckon_from k (compartment s k) (fed_from s calls)
unfolding after_from fed_from reckon_from
reckoned_from [] s k l = refl
reckoned_from (c ∷ cs) s k l =
    reckoned_from cs (next s c) k (length-next s c ∙ l)
    ∙ ap (λ d. reckon_from k d (fed_from (next s c) cs)) (next-at s c k l)

-- at first all are empty
get_d_replicate : {A : Type 0} (n k : ℕ) (a : A) → get_or (replicate n a) k a ≡ a
get_d_replicate zero k a = refl
get_d_replicate (suc n) zero a = refl
get_d_replicate (suc n) (suc k) a = get_d_replicate n k a

pub start-empty : (k : ℕ) → compartment start k ≡ empty
unfolding compartment start
start-empty k = get_d_replicate 8 k empty

pub reckoned : (calls : List Call) (k : ℕ) → compartment (after calls) k ≡ reckoning k (fed calls)
unfolding after fed reckoning start
reckoned calls k = reckoned_from calls start k refl ∙ ap (λ d. reckon_from k d (fed_from start calls)) (start-empty k)

-- what holds of an empty compartment, and is kept by every accepted call, holds of each after every list of calls
module _ (P : Compartment → Type 0)
    (kept : (n m : ℕ) (c : Compartment) (call : Call) → P c → accepted (answer_in n m c call) ≡ true → P (reckon call c)) where
  pub always-next : (s : State) (c : Call) → length s.compartments ≡ 8 → ((k : ℕ) → P (compartment s k)) → (k : ℕ)
      → P (compartment (next s c) k)
  always-next s c l h k = rw (next-at s c k l) (go (compartment_of c =? k) refl (accepted (answer s c)) refl)
    where
      go : (t : Bool) → (compartment_of c =? k) ≡ t → (u : Bool) → accepted (answer s c) ≡ u
          → P (if (compartment_of c =? k) && accepted (answer s c) then reckon c (compartment s k) else compartment s k)
      go false e u d = simp e (h k)
      go true e false d = simp (e, d) (h k)
      go true e true d =
          let same : compartment_of c ≡ k = eqb-true (compartment_of c) k e in
          simp (e, d) (kept (others s.allowances k) (allowance s k) (compartment s k) c (h k) (rw same at (accepted-in s c d).1))

  pub always_from : (calls : List Call) (s : State) → length s.compartments ≡ 8 → ((k : ℕ) → P (compartment s k)) → (k : ℕ)
      → P (compartment (after_from s calls) k)
  unfolding after_from
  always_from [] s l h = h
  always_from (c ∷ cs) s l h = always_from cs (next s c) (length-next s c ∙ l) (always-next s c l h)

  pub always : P empty → (calls : List Call) (k : ℕ) → P (compartment (after calls) k)
  unfolding after start
  always e calls = always_from calls start refl (λ k. rw (start-empty k) e)

-- more calls, one call more
pub after_from-append : (cs ds : List Call) (s : State) → after_from s (cs ++ ds) ≡ after_from (after_from s cs) ds
unfolding after_from
after_from-append [] ds s = refl
after_from-append (c ∷ cs) ds s = after_from-append cs ds (next s c)

pub fed_from-append : (cs ds : List Call) (s : State) → fed_from s (cs ++ ds) ≡ fed_from s cs ++ fed_from (after_from s cs) ds
unfolding after_from fed_from
fed_from-append [] ds s = refl
fed_from-append (c ∷ cs) ds s = ap (λ l. (c, accepted (answer s c)) ∷ l) (fed_from-append cs ds (next s c))

pub after-append : (cs ds : List Call) → after (cs ++ ds) ≡ after_from (after cs) ds
unfolding after
after-append cs ds = after_from-append cs ds start

pub after-snoc : (calls : List Call) (c : Call) → after (calls ++ (c ∷ [])) ≡ next (after calls) c
unfolding after_from
after-snoc calls c = after-append calls (c ∷ [])
