-- Digits are put over columns that hold spaces, from the right to the left.
use mathlib.Core.Path.{◌≡◌, refl, sym, ap, ◌∙◌}
use mathlib.Core.Logic.{◌⊎◌, inl, inr}
use mathlib.Core.List.{List, [], ◌∷◌, ◌++◌, append_assoc}
use Prim.Native.Nat.{ℕ, zero, suc, ◌+◌, ◌-◌, ◌/◌, ◌%◌, ◌<◌, ◌≤◌}
use native.Mathlib.Numerals.{add-one}
use native.Mathlib.Omega.{arith}
use lib.ListN.{length, set, take, drop}
use lib.Seq.{set-set, set_comm, sets, sets-eq}
use borrow.Rule.Slice.PartMut.{put_mid}
use Rattle.std.proofs.lemmas.List.{drop-drop}
use borrow.Author.Tests.{ne_eqb}
use Rattle.definitions.specs.Script.{digit_or_space, spaced}
use Rattle.columns.proofs.Room.{length-spaced, set-behind}

-- ---- bytes put over a list

-- one byte beside others that are put over
sets-set : (a l : List ℕ) (i j v : ℕ) → ((k : ℕ) → i ≤ k → k < i + length a → j ≡ k → ⊥)
    → sets (set l j v) i a ≡ set (sets l i a) j v
sets-set [] l i j v apart = refl
sets-set (x ∷ a) l i j v apart =
    ap (λ (r : List ℕ). sets r (suc i) a) (set_comm l j i v x (apart i (omega arith) (omega arith)))
    ∙ sets-set a (set l i x) (suc i) j v (λ k p q. apart k (omega arith) (omega arith))

-- a part of a list that is written is bytes put over it
pub put-sets : (at k : ℕ) (l new : List ℕ) → at + k ≤ length l → length new ≡ k → put_mid at k l new ≡ sets l at new
put-sets at k l new h e =
    ap (λ (r : List ℕ). take at l ++ (new ++ r)) (drop-drop k at l)
    ∙ sym (append_assoc (take at l) new (drop (at + k) l))
    ∙ ap (λ (j : ℕ). take at l ++ new ++ drop (at + j) l) (sym e)
    ∙ sym (sets-eq new l at (omega arith))

-- what is put over as many others hides them
pub sets_over : (a b l : List ℕ) (i : ℕ) → length a ≡ length b → sets (sets l i a) i b ≡ sets l i b
sets_over [] [] l i e = refl
sets_over [] (y ∷ b) l i e = absurd (omega arith)
sets_over (x ∷ a) [] l i e = absurd (omega arith)
sets_over (x ∷ a) (y ∷ b) l i e =
    ap (λ (r : List ℕ). sets r (suc i) b)
    (sym (sets-set a (set l i x) (suc i) i y (λ k p q z. omega arith))
    ∙ ap (λ (r : List ℕ). sets r (suc i) a) (set-set l i x y))
    ∙ sets_over a b (set l i y) (suc i) (omega arith)

-- ---- spaces, none and one more

pub no-space : (at : ℕ) (e : List ℕ) → e ≡ sets e at (spaced 0 0)
unfolding spaced
no-space at e = refl

pub space-more : (at i : ℕ) (l e : List ℕ) → l ≡ sets e at (spaced i 0) → set l (at + i) 32 ≡ sets e at (spaced (i + 1) 0)
unfolding spaced
space-more at i l e q =
    ap (λ (x : List ℕ). set x (at + i) 32) q
    ∙ set-behind at i 32 (spaced i 0) e (length-spaced i 0)
    ∙ ap (λ (k : ℕ). sets e at (spaced k 0)) (sym (add-one i))

-- ---- digits

-- k columns hold spaces, and with what is left of the number in them the list is as it is to be
pub record Over (at : ℕ) (goal l : List ℕ) (k m : ℕ) : Type 0 where
  pub rest : sets l at (spaced k m) ≡ goal
  pub spaces : sets l at (spaced k 0) ≡ l

module _ (at : ℕ) (goal : List ℕ) where
  behind : (k v : ℕ) (a l : List ℕ) → length a ≡ k → sets (set l (at + k) v) at a ≡ sets l at (a ++ (v ∷ []))
  behind k v a l e = sets-set a l at (at + k) v (λ j p q z. omega arith) ∙ set-behind at k v a l e

  digit : (k m : ℕ) (l : List ℕ) → 0 < m → Over at goal l (suc k) m → Over at goal (set l (at + k) (48 + m % 10)) k (m / 10)
  unfolding spaced
  digit k m l h o = record {
    rest =
        behind k (48 + m % 10) (spaced k (m / 10)) l (length-spaced k (m / 10))
        ∙ (let e : digit_or_space m ≡ 48 + m % 10 = simp (ne_eqb m 0 (λ z. omega arith)) in
        ap (λ (v : ℕ). sets l at (spaced k (m / 10) ++ (v ∷ []))) (sym e))
        ∙ o.rest;
    spaces =
        sets-set (spaced k 0) l at (at + k) (48 + m % 10) (λ j p q z. omega (arith, length-spaced k 0))
        ∙ sym (set-set (sets l at (spaced k 0)) (at + k) 32 (48 + m % 10))
        ∙ ap (λ (r : List ℕ). set r (at + k) (48 + m % 10)) (set-behind at k 32 (spaced k 0) l (length-spaced k 0) ∙ o.spaces);
  }

  -- nothing is left of the number, or no column
  pub no_digit : {l : List ℕ} {k m : ℕ} → Over at goal l k m → m ≡ 0 → l ≡ goal
  no_digit {l} {k} o e = sym o.spaces ∙ ap (λ (j : ℕ). sets l at (spaced k j)) (sym e) ∙ o.rest

  pub no-column : {l : List ℕ} {k m : ℕ} → Over at goal l k m → k ≡ 0 → l ≡ goal
  unfolding spaced
  no-column {l} {k} {m} o e = ap (λ (j : ℕ). sets l at (spaced j m)) (sym e) ∙ o.rest

  -- two digits at once
  pub two-over : (k m : ℕ) (l : List ℕ) → Over at goal l k m → 1 < k → 9 < m
      → Over at goal (set (set l (at + (k - 2) + 1) (48 + m % 100 % 10)) (at + (k - 2)) (48 + m % 100 / 10)) (k - 2) (m / 100)
  two-over zero m l o h g = absurd (omega arith)
  two-over (suc zero) m l o h g = absurd (omega arith)
  two-over (suc (suc k)) m l o h g =
      let left : suc (suc k) - 2 ≡ k = omega arith in
      let place : at + k + 1 ≡ at + suc k = omega arith in
      let right : m % 100 % 10 ≡ m % 10 = omega arith in
      let next : m % 100 / 10 ≡ m / 10 % 10 = omega arith in
      let less : m / 100 ≡ m / 10 / 10 = omega arith in
      rw (left, place, right, next, less) (digit k (m / 10) (set l (at + suc k) (48 + m % 10)) (omega arith) (digit (suc k) m l (omega arith) o))

  -- one, where there are no two
  pub one-over : (k m : ℕ) (l : List ℕ) → Over at goal l k m → 0 < k → 0 < m → (k ≤ 1) ⊎ (m ≤ 9)
      → set l (at + k - 1) (48 + m % 10) ≡ goal
  one-over zero m l o h g e = absurd (omega arith)
  one-over (suc k) m l o h g e =
      let place : at + suc k - 1 ≡ at + k = omega arith in
      let done : Over at goal (set l (at + k) (48 + m % 10)) k (m / 10) = digit k m l g o in
      rw place (elim e [ inl few ↦ no-column done (omega arith) | inr small ↦ no_digit done (omega arith) ])

-- ---- spaces first, then digits

module _ (at w : ℕ) (l e : List ℕ) (q : l ≡ sets e at (spaced w 0)) where
  pub over-spaces : (n : ℕ) → sets l at (spaced w n) ≡ sets e at (spaced w n)
  over-spaces n =
      ap (λ (x : List ℕ). sets x at (spaced w n)) q
      ∙ sets_over (spaced w 0) (spaced w n) e at (length-spaced w 0 ∙ sym (length-spaced w n))

  pub still-spaces : sets l at (spaced w 0) ≡ l
  still-spaces = over-spaces 0 ∙ sym q
