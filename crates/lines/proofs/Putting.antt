-- Lines are put one after the other, as many as fit. Assumes nothing.
use Rattle.std.specs.Prelude.{if◌then◌else◌, Option, Some, None}
use Prim.Native.Nat.{ℕ, ◌+◌, ◌-◌, ◌<◌, ◌≤◌}
use mathlib.Core.Path.{◌≡◌, refl, sym, ap, ◌∙◌}
use mathlib.Core.Bool.{Bool, true, false}
use mathlib.Core.List.{List, [], ◌∷◌, ◌++◌}
use native.Mathlib.Omega.{arith}
use lib.ListN.{length, length-append}
use lib.Seq.{sets}
use borrow.Author.Tests.{leb-true, leb-false, le-leb, lt-leb}
use Rattle.definitions.specs.Tests.{◌≤?◌, each}
use Rattle.definitions.specs.Script.{whole_lines}
use Rattle.columns.specs.Columns.{place_after, slice_after, Wrote}

-- ---- a line is put, or does not fit

module _ (at : ℕ) (new out out' : List ℕ) (r : Option ℕ) (w : Wrote at new out r out') where
  pub put-at : (k : ℕ) → r ≡ Some k → (at + length new ≤ length out) × (k ≡ at + length new) × (out' ≡ sets out at new)
  unfolding place_after slice_after
  put-at k e = go (at + length new ≤? length out) refl (sym w.place ∙ e) w.slice
    where
      go : (b : Bool) → (at + length new ≤? length out) ≡ b → (if b then Some (at + length new) else None) ≡ Some k → out' ≡ (if b then sets out at new else out)
          → (at + length new ≤ length out) × (k ≡ at + length new) × (out' ≡ sets out at new)
      go true d f s = (leb-true (at + length new) (length out) d, (cc), s)
      go false d f s = absurd (let z : ◌≡◌ {A = ℕ} 0 1 = cc in omega arith)

  pub put-none : r ≡ None → (length out < at + length new) × (out' ≡ out)
  unfolding place_after slice_after
  put-none e = go (at + length new ≤? length out) refl (sym w.place ∙ e) w.slice
    where
      go : (b : Bool) → (at + length new ≤? length out) ≡ b → (if b then Some (at + length new) else None) ≡ None → out' ≡ (if b then sets out at new else out)
          → (length out < at + length new) × (out' ≡ out)
      go true d f s = absurd (let z : ◌≡◌ {A = ℕ} 0 1 = cc in omega arith)
      go false d f s = (leb-false (at + length new) (length out) d, s)

pub none-whole : (room : ℕ) (line : List ℕ) (ls : List (List ℕ)) → room < length line → whole_lines room (line ∷ ls) ≡ []
unfolding whole_lines
none-whole room line ls h = simp (lt-leb (length line) room h)

-- the bytes of lines
abbrev pub text : List (List ℕ) → List ℕ
text ls = each (λ l. l) ls

pub text-length : (l : List ℕ) (ls : List (List ℕ)) → length (text (l ∷ ls)) ≡ length l + length (text ls)
text-length l ls = length-append l (text ls)

-- lines that fit, before one that does not
pub whole-lines : (room : ℕ) (xs ys : List (List ℕ)) → length (text xs) ≤ room → whole_lines (room - length (text xs)) ys ≡ []
    → whole_lines room (xs ++ ys) ≡ xs
unfolding whole_lines
whole-lines room [] ys l e =
    let z : room - 0 ≡ room = omega arith in
    rw z at e
whole-lines room (x ∷ xs) ys l e =
    let n = text-length x xs in
    let z : (room - length x) - length (text xs) ≡ room - length (text (x ∷ xs)) = omega (arith, n) in
    simp (le-leb (length x) room (omega (arith, n)))
    (ap (λ (t : List (List ℕ)). x ∷ t) (whole-lines (room - length x) xs ys (omega (arith, n)) (rw z e)))
