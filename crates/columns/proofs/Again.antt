-- Reading what is written gives the number back.
use mathlib.Core.Path.{◌≡◌, refl, sym, ap, ◌∙◌}
use mathlib.Core.List.{List, [], ◌∷◌, ◌++◌, append_assoc}
use Prim.Native.Nat.{ℕ, zero, suc, ◌+◌, ◌-◌, ◌*◌, ◌/◌, ◌%◌, ◌^◌, ◌<◌, ◌≤◌}
use native.Mathlib.Nat.{pow-suc}
use native.Mathlib.Decide.{ℕ_discrete}
use native.Mathlib.Omega.{arith}
use borrow.Author.Tests.{ne_eqb}
use Rattle.definitions.specs.Script.{numbers, digit_or_space, spaced, number_in, digits_of, column_of}
use Rattle.columns.proofs.Steps.{among-digits, does-fit}

-- the first digit of a number, and a later one
first-digit : (m : ℕ) (t : List ℕ) → 0 < m → m < 10 → column_of ((48 + m) ∷ t) ≡ digits_of m t
unfolding column_of
first-digit m t h l =
    let e : 48 + m - 48 ≡ m = omega arith in
    simp (
      ne_eqb (48 + m) 32 (λ z. omega arith),
      ne_eqb (48 + m) 48 (λ z. omega arith),
      among-digits (48 + m) (omega arith) (omega arith),
      e,
    )

later-digit : (q d : ℕ) (t : List ℕ) → d < 10 → q * 10 + d < 18446744073709551616
    → digits_of q ((48 + d) ∷ t) ≡ digits_of (q * 10 + d) t
unfolding digits_of
later-digit q d t h l =
    let e : 48 + d - 48 ≡ d = omega arith in
    simp (among-digits (48 + d) (omega arith) (omega arith), e, does-fit (q * 10 + d) l)

-- the columns before a byte, where nothing is left of the number, and where something is
nothing : (w : ℕ) (t : List ℕ) → column_of (spaced w 0 ++ t) ≡ column_of t
unfolding spaced column_of
nothing zero t = refl
nothing (suc w) t = ap column_of (append_assoc (spaced w 0) (32 ∷ []) t) ∙ nothing w (32 ∷ t)

split : (w m : ℕ) (t : List ℕ) → 0 < m → column_of (spaced (suc w) m ++ t) ≡ column_of (spaced w (m / 10) ++ ((48 + m % 10) ∷ t))
unfolding spaced
split w m t h =
    ap column_of (append_assoc (spaced w (m / 10)) (digit_or_space m ∷ []) t)
    ∙ simp (ne_eqb m 0 (λ z. omega arith))

something : (w m : ℕ) (t : List ℕ) → 0 < m → m < 10 ^ w → m < 18446744073709551616
    → column_of (spaced w m ++ t) ≡ digits_of m t
something zero m t h l f = absurd (omega arith)
something (suc w) m t h l f =
    elim (ℕ_discrete (m / 10) 0) [
      | yes e ↦
          let small : m % 10 ≡ m = omega arith in
          split w m t h ∙ ap (λ (k : ℕ). column_of (spaced w k ++ ((48 + m % 10) ∷ t))) e
          ∙ nothing w ((48 + m % 10) ∷ t) ∙ ap (λ (k : ℕ). column_of ((48 + k) ∷ t)) small
          ∙ first-digit m t h (omega arith)
      | no e ↦
          let p : 10 ^ suc w ≡ 10 ^ w * 10 = pow-suc 10 w in
          let whole : m / 10 * 10 + m % 10 ≡ m = omega arith in
          split w m t h
          ∙ something w (m / 10) ((48 + m % 10) ∷ t) (omega arith) (omega arith) (omega arith)
          ∙ later-digit (m / 10) (m % 10) t (omega arith) (omega arith)
          ∙ ap (λ (k : ℕ). digits_of k t) whole
    ]

pub read-written : (w n : ℕ) → 1 ≤ w → n < 10 ^ w → n < 18446744073709551616 → column_of (number_in w n) ≡ numbers (n ∷ [])
unfolding number_in column_of digits_of
read-written zero n h l f = absurd (omega arith)
read-written (suc w) n h l f =
    let z : suc w - 1 ≡ w = omega arith in
    elim (ℕ_discrete n 0) [
      | yes e ↦ rw (z, e) (nothing w (48 ∷ []))
      | no e ↦
          let more : 0 < n = omega arith in
          rw z (sym (split w n [] more) ∙ something (suc w) n [] more l f)
    ]
