-- Bytes put over a list, one part after the other; how long a number in columns is; and what Wrote says by the room.
use mathlib.Core.Path.{◌≡◌, refl, sym, ap, ◌∙◌}
use mathlib.Core.List.{List, [], ◌∷◌, ◌++◌}
use Prim.Native.Nat.{ℕ, zero, suc, ◌+◌, ◌-◌, ◌/◌, ◌%◌, ◌<◌, ◌≤◌}
use native.Mathlib.Numerals.{add-one}
use native.Mathlib.Omega.{arith}
use lib.ListN.{length, drop, take, set, length-append}
use lib.Seq.{sets, sets-eq}
use mathlib.Core.Bool.{Bool, true, false, not}
use lib.Dec.{leb}
use borrow.Author.Tests.{le-leb, lt-leb, leb-true, leb-false, not-true, not-false}
use Rattle.definitions.specs.Script.{digit_or_space, spaced, number_in}
use Rattle.columns.specs.Columns.{place_after, slice_after, Wrote}
use Rattle.std.specs.Prelude.{Option, Some, None}

pub sets-append : (a b l : List ℕ) (i : ℕ) → sets l i (a ++ b) ≡ sets (sets l i a) (i + length a) b
sets-append [] b l i =
    let e : i ≡ i + 0 = omega arith in
    ap (λ (k : ℕ). sets l k b) e
sets-append (x ∷ a) b l i =
    sets-append a b (set l i x) (suc i)
    ∙ (let e : suc i + length a ≡ i + suc (length a) = omega arith in
    ap (λ (k : ℕ). sets (sets (set l i x) (suc i) a) k b) e)

-- a part behind a part that is k bytes long, and one byte
pub sets_behind : (at k : ℕ) (a b l : List ℕ) → length a ≡ k → sets (sets l at a) (at + k) b ≡ sets l at (a ++ b)
sets_behind at k a b l e = ap (λ (n : ℕ). sets (sets l at a) (at + n) b) (sym e) ∙ sym (sets-append a b l at)

pub set-behind : (at k v : ℕ) (a l : List ℕ) → length a ≡ k → set (sets l at a) (at + k) v ≡ sets l at (a ++ (v ∷ []))
set-behind at k v a l e = sets_behind at k a (v ∷ []) l e

pub length-spaced : (w m : ℕ) → length (spaced w m) ≡ w
unfolding spaced
length-spaced zero m = refl
length-spaced (suc w) m =
    length-append (spaced w (m / 10)) (digit_or_space m ∷ []) ∙ ap (λ (k : ℕ). k + 1) (length-spaced w (m / 10)) ∙ add-one w

-- a number takes its columns, and one at least
length_last : (w n : ℕ) → length (number_in w n) ≡ w - 1 + 1
unfolding number_in
length_last w n =
    length-append (spaced (w - 1) (n / 10)) ((48 + n % 10) ∷ [])
    ∙ ap (λ (k : ℕ). k + 1) (length-spaced (w - 1) (n / 10))

pub length-number : (w n : ℕ) → 1 ≤ w → length (number_in w n) ≡ w
length-number w n h = length_last w n ∙ omega arith

-- in no columns as in one
pub no-columns : (n : ℕ) → number_in 0 n ≡ number_in 1 n
unfolding number_in
no-columns n = refl

-- the columns before the last, then the last
pub number-sets : (at w n : ℕ) (l e : List ℕ) → l ≡ sets e at (spaced (w - 1) (n / 10))
    → set l (at + (w - 1)) (48 + n % 10) ≡ sets e at (number_in w n)
unfolding number_in
number-sets at w n l e q =
    ap (λ (x : List ℕ). set x (at + (w - 1)) (48 + n % 10)) q
    ∙ set-behind at (w - 1) (48 + n % 10) (spaced (w - 1) (n / 10)) e (length-spaced (w - 1) (n / 10))

-- k bytes: no room, room, and what was written where there is room
pub wrote_none : (at k : ℕ) (new e : List ℕ) → length new ≡ k → length e < at + k → Wrote at new e None e
unfolding place_after slice_after
wrote_none at k new e len h =
    record { place = rw (lt-leb (at + length new) (length e) (omega arith)); slice = rw (lt-leb (at + length new) (length e) (omega arith)) }

pub wrote-all : (at k : ℕ) (new e l : List ℕ) → length new ≡ k → at + k ≤ length e → l ≡ sets e at new
    → Wrote at new e (Some (at + k)) l
unfolding place_after slice_after
wrote-all at k new e l len h q =
    record
    { place = rw (le-leb (at + length new) (length e) (omega arith)) (ap (λ (j : ℕ). Some (at + j)) (sym len)); slice = rw (le-leb (at + length new) (length e) (omega arith)) q }

pub written : (at k : ℕ) (new e : List ℕ) (r : Option ℕ) (l : List ℕ) → length new ≡ k → at + k ≤ length e → Wrote at new e r l
    → l ≡ sets e at new
unfolding slice_after
written at k new e r l len h w = rw (le-leb (at + length new) (length e) (omega arith)) at w.slice

-- where there is room, the bytes before the place and those behind the new ones stay
pub slice-parts : (at : ℕ) (new out : List ℕ) → at + length new ≤ length out
    → slice_after at new out ≡ take at out ++ new ++ drop (at + length new) out
unfolding slice_after
slice-parts at new out h = rw (le-leb (at + length new) (length out) h) (sets-eq new out at h)

-- what has_room says, as a test that is denied
module _ (len at k : ℕ) (r : Bool) (e : r ≡ leb (at + k) len) where
  pub room : not r ≡ false → at + k ≤ len
  room q = leb-true (at + k) len (sym e ∙ not-false r q)

  pub no_room : not r ≡ true → len < at + k
  no_room q = leb-false (at + k) len (sym e ∙ not-true r q)

-- what write answers, with b columns before the last
module _ (at w n b : ℕ) (q : b ≡ w - 1) where
  length-next : length (number_in w n) ≡ b + 1
  length-next = length_last w n ∙ ap (λ (k : ℕ). k + 1) (sym q)

  pub number-none : (e : List ℕ) → length e < at + (b + 1) → Wrote at (number_in w n) e None e
  number-none e h = wrote_none at (b + 1) (number_in w n) e length-next h

  pub number-all : (l e : List ℕ) → at + (b + 1) ≤ length e → l ≡ sets e at (spaced b (n / 10))
      → Wrote at (number_in w n) e (Some (at + (b + 1))) (set l (at + b) (48 + n % 10))
  number-all l e h f =
      wrote-all at (b + 1) (number_in w n) e (set l (at + b) (48 + n % 10)) length-next h
      (ap (λ (k : ℕ). set l (at + k) (48 + n % 10)) q
      ∙ number-sets at w n l e (f ∙ ap (λ (k : ℕ). sets e at (spaced k (n / 10))) q))
