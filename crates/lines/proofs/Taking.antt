-- One byte more of a line.
use Prim.Native.Nat.{ℕ, suc, ◌+◌, ◌<◌, ◌≤◌}
use mathlib.Core.Path.{◌≡◌, ap}
use mathlib.Core.Bool.{true, false}
use mathlib.Core.List.{List}
use native.Mathlib.Omega.{arith}
use lib.ListN.{length, get_or, set, drop, drop_of_length-le}
use lib.Seq.{drop-cons}
use borrow.Author.Tests.{lt-ltb, le-ltb, ne_eqb}
use Rattle.lines.specs.Lines.{takes}

module _ (line : List ℕ) (len used : ℕ) (input : List ℕ) where
  pub taken-all : (last : ℕ) → length input ≤ used → used ≡ last
      → takes line len used (drop used input) ≡ (line, record { used = last; len = len; ended = false })
  unfolding takes
  taken-all last l e =
      rw (drop_of_length-le input l) (ap (λ (u : ℕ). (line, record { used = u; len = len; ended = false })) e)

  module _ (l : used < length input) where
    one : suc used ≡ used + 1
    one = omega arith

    pub taken-end : get_or input used 0 ≡ 10 → takes line len used (drop used input) ≡ (line, record { used = used + 1; len = len; ended = true })
    unfolding takes
    taken-end e = rw (drop-cons input used 0 l) (simp e)

    pub taken-byte : (get_or input used 0 ≡ 10 → ⊥) → len < length line
        → takes line len used (drop used input) ≡ takes (set line len (get_or input used 0)) (len + 1) (used + 1) (drop (used + 1) input)
    unfolding takes
    taken-byte n h =
        rw (drop-cons input used 0 l)
        (simp (ne_eqb (get_or input used 0) 10 n, lt-ltb len (length line) h) (ap (λ m. takes (set line len (get_or input used 0)) (len + 1) (used + 1) (drop m input)) one))

    pub taken_more : (get_or input used 0 ≡ 10 → ⊥) → length line ≤ len
        → takes line len used (drop used input) ≡ takes line len (used + 1) (drop (used + 1) input)
    unfolding takes
    taken_more n h =
        rw (drop-cons input used 0 l)
        (simp (ne_eqb (get_or input used 0) 10 n, le-ltb len (length line) h) (ap (λ m. takes line len (used + 1) (drop m input)) one))
