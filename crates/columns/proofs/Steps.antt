-- One byte of a column: what digits_of and column_of say of the bytes from i on.
use mathlib.Core.Path.{◌≡◌, refl, sym, ap, ◌∙◌}
use mathlib.Core.Bool.{true, false}
use mathlib.Core.List.{List, [], ◌∷◌}
use Prim.Native.Nat.{ℕ, suc, ◌+◌, ◌-◌, ◌*◌, ◌<◌, ◌≤◌}
use native.Mathlib.Numerals.{add-one}
use native.Mathlib.Omega.{arith}
use native.Mathlib.Decide.{dec_lt, ℕ_discrete}
use lib.ListN.{length, get_or, take, drop, drop_of_length-le, length-drop}
use Rattle.std.proofs.lemmas.List.{take_all}
use Rattle.std.specs.Char.{is_ascii_digit}
use lib.Seq.{drop-cons}
use borrow.Author.Tests.{lt-ltb, le-ltb, le-leb, lt-leb, eq-eqb, ne_eqb}
use Rattle.definitions.specs.Tests.{fits}
use Rattle.definitions.specs.Script.{numbers, unread, is_digit, digits_of, column_of}

pub below-digits : (b : ℕ) → b < 48 → is_digit b ≡ false
unfolding is_digit
below-digits b h = simp (lt-leb 48 b h)

pub above-digits : (b : ℕ) → 57 < b → is_digit b ≡ false
unfolding is_digit
above-digits b h = simp (le-leb 48 b (omega arith), lt-leb b 57 h)

pub among-digits : (b : ℕ) → 48 ≤ b → b ≤ 57 → is_digit b ≡ true
unfolding is_digit
among-digits b h l = simp (le-leb 48 b h, le-leb b 57 l)

pub does-fit : (n : ℕ) → n < 18446744073709551616 → fits n ≡ true
unfolding fits
does-fit n h = lt-ltb n 18446744073709551616 h

pub does-not-fit : (n : ℕ) → 18446744073709551616 ≤ n → fits n ≡ false
unfolding fits
does-not-fit n h = le-ltb n 18446744073709551616 h

module _ (s : List ℕ) (i : ℕ) (h : i < length s) where
  module _ (n : ℕ) where
    pub digits-no : is_digit (get_or s i 0) ≡ false → unread ≡ digits_of n (drop i s)
    unfolding digits_of
    digits-no e = rw (drop-cons s i 0) (simp e)

    pub digits-big : is_digit (get_or s i 0) ≡ true → 18446744073709551616 ≤ n * 10 + (get_or s i 0 - 48)
        → unread ≡ digits_of n (drop i s)
    unfolding digits_of
    digits-big e big = rw (drop-cons s i 0) (simp (e, does-not-fit (n * 10 + (get_or s i 0 - 48)) big))

    pub digits_more : is_digit (get_or s i 0) ≡ true → n * 10 + (get_or s i 0 - 48) < 18446744073709551616
        → digits_of (n * 10 + (get_or s i 0 - 48)) (drop (i + 1) s) ≡ digits_of n (drop i s)
    unfolding digits_of
    digits_more e lt = rw (add-one, drop-cons s i 0) (simp (e, does-fit (n * 10 + (get_or s i 0 - 48)) lt))

  pub column-space : get_or s i 0 ≡ 32 → column_of (drop (i + 1) s) ≡ column_of (drop i s)
  unfolding column_of
  column-space e = rw (add-one, drop-cons s i 0) (simp (eq-eqb (get_or s i 0) 32 e))

  -- a 0: at the end, and before other bytes
  pub column-zero : get_or s i 0 ≡ 48 → i + 1 ≡ length s → numbers (0 ∷ []) ≡ column_of (drop i s)
  unfolding column_of
  column-zero e l =
      rw (drop-cons s i 0)
      (simp (
        ne_eqb (get_or s i 0) 32 (λ e'. omega arith),
        eq-eqb (get_or s i 0) 48 e,
        eq-eqb (length (drop (suc i) s)) 0 (simp length-drop (omega arith)),
      ))

  pub column-zeros : get_or s i 0 ≡ 48 → (i + 1 ≡ length s → ⊥) → unread ≡ column_of (drop i s)
  unfolding column_of
  column-zeros e l =
      rw (drop-cons s i 0)
      (simp (
        ne_eqb (get_or s i 0) 32 (λ e'. omega arith),
        eq-eqb (get_or s i 0) 48 e,
        ne_eqb (length (drop (suc i) s)) 0 (simp length-drop (λ z. l (omega arith))),
      ))

  pub column-no : (get_or s i 0 ≡ 32 → ⊥) → (get_or s i 0 ≡ 48 → ⊥) → is_digit (get_or s i 0) ≡ false
      → unread ≡ column_of (drop i s)
  unfolding column_of
  column-no n32 n48 e =
      rw (drop-cons s i 0) (simp (ne_eqb (get_or s i 0) 32 n32, ne_eqb (get_or s i 0) 48 n48, e))

  pub column-digit : 48 < get_or s i 0 → get_or s i 0 ≤ 57
      → digits_of (get_or s i 0 - 48) (drop (i + 1) s) ≡ column_of (drop i s)
  unfolding column_of
  column-digit lt le =
      rw (add-one, drop-cons s i 0)
      (simp (
        ne_eqb (get_or s i 0) 32 (λ e'. omega arith),
        ne_eqb (get_or s i 0) 48 (λ e'. omega arith),
        among-digits (get_or s i 0) (omega arith) le,
      ))

-- nothing is left
module _ (s : List ℕ) (i : ℕ) (h : length s ≤ i) where
  none : drop i s ≡ []
  none = drop_of_length-le s h

  pub digits-end : (n : ℕ) → numbers (n ∷ []) ≡ digits_of n (drop i s)
  unfolding digits_of
  digits-end n = rw none

  pub column-end : unread ≡ column_of (drop i s)
  unfolding column_of
  column-end = rw none

-- four spaces, and one, are passed
module _ (s : List ℕ) where
  pub rest-is : (k : ℕ) → take (length s - k) (drop k s) ≡ drop k s
  rest-is k = take_all (length s - k) (drop k s) (simp length-drop (omega arith))

  pub rest-length : (k : ℕ) → length (take (length s - k) (drop k s)) ≡ length s - k
  rest-length k = ap length (rest-is k) ∙ simp length-drop

  pub one_passed : 1 ≤ length s → get_or s 0 0 ≡ 32 → column_of (take (length s - 1) (drop 1 s)) ≡ column_of s
  one_passed h a = ap column_of (rest-is 1) ∙ column-space s 0 h a

  pub fours-passed : 4 ≤ length s → get_or s 0 0 ≡ 32 → get_or s 1 0 ≡ 32 → get_or s 2 0 ≡ 32 → get_or s 3 0 ≡ 32
      → column_of (take (length s - 4) (drop 4 s)) ≡ column_of s
  fours-passed h a b c d =
      ap column_of (rest-is 4)
      ∙ column-space s 3 (omega arith) d
      ∙ column-space s 2 (omega arith) c
      ∙ column-space s 1 (omega arith) b
      ∙ column-space s 0 (omega arith) a

-- what std calls an ASCII digit
pub is-ascii-digit : (b : ℕ) → is_ascii_digit b ≡ is_digit b
unfolding is_digit
is-ascii-digit b = refl

-- the first byte is no space: a column of 0 alone; no column; and one that begins with another digit
module _ (s : List ℕ) where
  pub zero_alone : length s ≡ 1 → get_or s 0 0 ≡ 48 → numbers (0 ∷ []) ≡ column_of s
  zero_alone h e = column-zero s 0 (omega arith) e (sym h)

  pub not_a_column : (0 < length s → get_or s 0 0 ≡ 32 → ⊥) → (length s ≡ 1 → get_or s 0 0 ≡ 48 → ⊥)
      → (0 < length s → 48 < get_or s 0 0 → get_or s 0 0 ≤ 57 → ⊥) → unread ≡ column_of s
  not_a_column no-space no-zero no-digit =
      elim (dec_lt 0 (length s)) [
        | yes h ↦
            elim (ℕ_discrete (get_or s 0 0) 48) [
              | yes e ↦ column-zeros s 0 h e (λ l. no-zero (sym l) e)
              | no n ↦
                  column-no s 0 h (no-space h) n
                  (elim (dec_lt (get_or s 0 0) 48) [
                    | yes below ↦ below-digits (get_or s 0 0) below
                    | no above ↦ elim (dec_lt 57 (get_or s 0 0)) [
                      | yes more ↦ above-digits (get_or s 0 0) more
                      | no less ↦ absurd (no-digit h (omega arith) (omega arith))
                    ]
                  ])
            ]
        | no h ↦ column-end s 0 (omega arith)
      ]

  pub other-digit : 1 ≤ length s → 48 < get_or s 0 0 → get_or s 0 0 ≤ 57
      → digits_of (get_or s 0 0 - 48) (take (length s - 1) (drop 1 s)) ≡ column_of s
  other-digit h lt le = ap (digits_of (get_or s 0 0 - 48)) (rest-is s 1) ∙ column-digit s 0 h lt le
