-- A line's columns, one after the other.
use Rattle.std.specs.Prelude.{if◌then◌else◌, Option, Some, None}
use mathlib.Core.Path.{◌≡◌, refl, sym, ap, ◌∙◌}
use mathlib.Core.Bool.{Bool, true, false}
use mathlib.Core.List.{List, [], ◌∷◌, ◌++◌}
use Prim.Native.Nat.{ℕ, zero, suc, ◌+◌, ◌-◌, ◌*◌, ◌<◌, ◌≤◌}
use native.Mathlib.Numerals.{add-one}
use native.Mathlib.Omega.{arith}
use native.Mathlib.Decide.{dec_lt}
use lib.ListN.{length, get_or, take, drop, set, replicate, length-drop, drop_of_length-le}
use lib.Seq.{drop-drop, take-suc-set}
use borrow.Author.Tests.{le-leb, lt-leb}
use Rattle.definitions.specs.Tests.{◌≤?◌}
use Rattle.definitions.specs.Script.{Read, numbers, unread, also_read, column_of, first_then, columns_of, arity, call_of, line_of}
use Rattle.columns.specs.Columns.{column_from}
use Rattle.lines.specs.Lines.{line_from, read_as}
use Rattle.definitions.specs.declared.call.Call.{Call}

-- numbers that were read before others
abbrev pub also_all : List ℕ → Read → Read
also_all [] r = r
also_all (n ∷ ns) r = also_read n (also_all ns r)

also-more : (ns : List ℕ) (n : ℕ) (r : Read) → also_all (ns ++ (n ∷ [])) r ≡ also_all ns (also_read n r)
also-more [] n r = refl
also-more (m ∷ ns) n r = ap (also_read m) (also-more ns n r)

also-none : (ns : List ℕ) → also_all ns (numbers []) ≡ numbers ns
also-none [] = refl
also-none (m ∷ ns) = ap (also_read m) (also-none ns)

also-unread : (ns : List ℕ) → also_all ns unread ≡ unread
also-unread [] = refl
also-unread (m ∷ ns) = ap (also_read m) (also-unread ns)

-- a column that was read says one number, and one that was not says none, whatever follows
pub one_number : (r : Read) (n : ℕ) → column_from r ≡ Some n → (more : Read) → first_then r more ≡ also_read n more
one_number (numbers []) n e more = absurd (let z : ◌≡◌ {A = ℕ} 0 1 = cc in omega arith)
one_number (numbers (m ∷ [])) n e more = let q : m ≡ n = cc in ap (λ (x : ℕ). also_read x more) q
one_number (numbers (m ∷ x ∷ ns)) n e more = absurd (let z : ◌≡◌ {A = ℕ} 0 1 = cc in omega arith)
one_number unread n e more = absurd (let z : ◌≡◌ {A = ℕ} 0 1 = cc in omega arith)

pub no_number : (r : Read) → column_from r ≡ None → (more : Read) → first_then r more ≡ unread
no_number (numbers []) e more = refl
no_number (numbers (m ∷ [])) e more = absurd (let z : ◌≡◌ {A = ℕ} 0 1 = cc in omega arith)
no_number (numbers (m ∷ x ∷ ns)) e more = refl
no_number unread e more = refl

pub then-unread : (r : Read) → first_then r unread ≡ unread
then-unread (numbers []) = refl
then-unread (numbers (m ∷ [])) = refl
then-unread (numbers (m ∷ x ∷ ns)) = refl
then-unread unread = refl

-- columns that are there, and columns that the bytes do not fill to the last
pub first-column : (w : ℕ) (ws bs : List ℕ) → w ≤ length bs
    → columns_of (w ∷ ws) bs ≡ first_then (column_of (take w bs)) (columns_of ws (drop w bs))
unfolding columns_of
first-column w ws bs h = rw (le-leb w (length bs) h)

not_first : (w : ℕ) (ws bs : List ℕ) → columns_of ws (drop w bs) ≡ unread → columns_of (w ∷ ws) bs ≡ unread
unfolding columns_of
not_first w ws bs e = go (w ≤? length bs)
  where
    go : (t : Bool) → (if t then first_then (column_of (take w bs)) (columns_of ws (drop w bs)) else unread) ≡ unread
    go true = ap (first_then (column_of (take w bs))) e ∙ then-unread (column_of (take w bs))
    go false = refl

short : (w : ℕ) (ws bs : List ℕ) → length bs < w → columns_of (w ∷ ws) bs ≡ unread
unfolding columns_of
short w ws bs h = rw (lt-leb w (length bs) h)

pub wrong-length : (n : ℕ) (bs : List ℕ) → (length bs ≡ 21 * n → ⊥) → columns_of (replicate n 21) bs ≡ unread
unfolding columns_of
wrong-length zero [] h = absurd (h refl)
wrong-length zero (b ∷ bs) h = refl
wrong-length (suc n) bs h =
    elim (dec_lt (length bs) 21) [
      | yes l ↦ short 21 (replicate n 21) bs l
      | no l ↦ not_first 21 (replicate n 21) bs (wrong-length n (drop 21 bs) (simp length-drop (λ e. h (omega arith))))
    ]

-- the columns from the i-th on, of a line that n of them fill
module _ (n : ℕ) (s : List ℕ) where
  rest : ℕ → Read
  rest i = columns_of (replicate (n - i) 21) (drop (3 + 21 * i) s)

  -- i numbers are read
  pub Found : ℕ → List ℕ → Type 0
  Found i found = columns_of (replicate n 21) (drop 3 s) ≡ also_all (take i found) (rest i)

  pub found_none : (found : List ℕ) → Found 0 found
  unfolding Found rest
  found_none found = let z : n - 0 ≡ n = omega arith in rw z

  module _ (fills : length s ≡ 3 + 21 * n) where
    next : (i : ℕ) → i < n → rest i ≡ first_then (column_of (take 21 (drop (3 + 21 * i) s))) (rest (i + 1))
    unfolding rest
    next i h =
        let m : n - i ≡ suc (n - (i + 1)) = omega arith in
        let z : 3 + 21 * i + 21 ≡ 3 + 21 * (i + 1) = omega arith in
        ap (λ (k : ℕ). columns_of (replicate k 21) (drop (3 + 21 * i) s)) m
        ∙ first-column 21 (replicate (n - (i + 1)) 21) (drop (3 + 21 * i) s) (simp length-drop (omega arith))
        ∙ ap (λ (l : List ℕ). first_then (column_of (take 21 (drop (3 + 21 * i) s))) (columns_of (replicate (n - (i + 1)) 21) l))
        (drop-drop 21 (3 + 21 * i) s ∙ ap (λ (k : ℕ). drop k s) z)

    module _ (i : ℕ) (h : i < n) (found : List ℕ) (inv : Found i found) (r : Option ℕ)
        (e : r ≡ column_from (column_of (take (3 + 21 * i + 21 - (3 + 21 * i)) (drop (3 + 21 * i) s)))) where
      said : r ≡ column_from (column_of (take 21 (drop (3 + 21 * i) s)))
      said = let z : 3 + 21 * i + 21 - (3 + 21 * i) ≡ 21 = omega arith in rw z at e

      pub found-no : r ≡ None → columns_of (replicate n 21) (drop 3 s) ≡ unread
      unfolding Found
      found-no q =
          inv ∙ ap (also_all (take i found)) (next i h ∙ no_number (column_of (take 21 (drop (3 + 21 * i) s))) (sym said ∙ q) (rest (i + 1)))
          ∙ also-unread (take i found)

      pub found-more : (v : ℕ) → r ≡ Some v → i < length found → Found (i + 1) (set found i v)
      unfolding Found
      found-more v q l =
          inv ∙ ap (also_all (take i found)) (next i h ∙ one_number (column_of (take 21 (drop (3 + 21 * i) s))) v (sym said ∙ q) (rest (i + 1)))
          ∙ sym (also-more (take i found) v (rest (i + 1)))
          ∙ ap (λ (ns : List ℕ). also_all ns (rest (i + 1))) (sym (take-suc-set found i v l) ∙ ap (λ (k : ℕ). take k (set found i v)) (sym (add-one i)))

    pub found_all : (i : ℕ) (found : List ℕ) → i ≤ n → n ≤ i → Found i found
        → columns_of (replicate n 21) (drop 3 s) ≡ read_as n (Some found)
    unfolding Found rest columns_of
    found_all i found le ge inv =
        let z : n - i ≡ 0 = omega arith in
        let q : i ≡ n = omega arith in
        let past : length s ≤ 3 + 21 * i = omega arith in
        inv ∙ ap (λ (k : ℕ). also_all (take i found) (columns_of (replicate k 21) (drop (3 + 21 * i) s))) z
        ∙ ap (λ (l : List ℕ). also_all (take i found) (columns_of [] l)) (drop_of_length-le s past)
        ∙ also-none (take i found)
        ∙ ap (λ (k : ℕ). numbers (take k found)) q

-- a line
pub line-empty : (s : List ℕ) → length s ≡ 0 → None ≡ line_from (line_of s)
unfolding line_of
line-empty [] e = refl
line-empty (b ∷ bs) e = absurd (omega arith)

columns-are : (s : List ℕ) → 0 < length s
    → line_of s ≡ call_of (get_or s 0 0) (columns_of (2 ∷ replicate (arity (get_or s 0 0)) 21) (drop 1 s))
unfolding line_of
columns-are [] h = absurd (omega arith)
columns-are (b ∷ bs) h = refl

-- the four numbers of an array
four : (l : List ℕ) → length l ≡ 4 → l ≡ get_or l 0 0 ∷ get_or l 1 0 ∷ get_or l 2 0 ∷ get_or l 3 0 ∷ []
four [] e = absurd (omega arith)
four (a ∷ []) e = absurd (omega arith)
four (a ∷ b ∷ []) e = absurd (omega arith)
four (a ∷ b ∷ c ∷ []) e = absurd (omega arith)
four (a ∷ b ∷ c ∷ d ∷ []) e = refl
four (a ∷ b ∷ c ∷ d ∷ x ∷ l) e = absurd (omega arith)

-- a line whose letter has n numbers behind the compartment
module _ (s : List ℕ) (h : 0 < length s) (n : ℕ) (a : n ≡ arity (get_or s 0 0)) where
  says : {r : Read} → columns_of (2 ∷ replicate n 21) (drop 1 s) ≡ r → line_from (call_of (get_or s 0 0) r) ≡ line_from (line_of s)
  says {r} e =
      ap (λ (x : Read). line_from (call_of (get_or s 0 0) x))
      (sym e ∙ ap (λ (k : ℕ). columns_of (2 ∷ replicate k 21) (drop 1 s)) a)
      ∙ ap line_from (sym (columns-are s h))

  pub line-length : (length s ≡ 3 + 21 * n → ⊥) → None ≡ line_from (line_of s)
  line-length l =
      elim (dec_lt (length (drop 1 s)) 2) [
        | yes t ↦ says (short 2 (replicate n 21) (drop 1 s) t)
        | no t ↦
            says
            (not_first 2 (replicate n 21) (drop 1 s)
            (wrong-length n (drop 2 (drop 1 s)) (simp length-drop (λ e. l (omega (arith, length-drop 1 s))))))
      ]

  module _ (fills : length s ≡ 3 + 21 * n) (r : Option ℕ) (e : r ≡ column_from (column_of (take 2 (drop 1 s)))) where
    behind : columns_of (2 ∷ replicate n 21) (drop 1 s)
        ≡ first_then (column_of (take 2 (drop 1 s))) (columns_of (replicate n 21) (drop 3 s))
    behind =
        first-column 2 (replicate n 21) (drop 1 s) (simp length-drop (omega arith))
        ∙ ap (λ (l : List ℕ). first_then (column_of (take 2 (drop 1 s))) (columns_of (replicate n 21) l)) (drop-drop 2 1 s)

    pub line-compartment : r ≡ None → None ≡ line_from (line_of s)
    line-compartment q =
        says (behind ∙ no_number (column_of (take 2 (drop 1 s))) (sym e ∙ q) (columns_of (replicate n 21) (drop 3 s)))

    module _ (k : ℕ) (q : r ≡ Some k) (all : Option (List ℕ)) (g : columns_of (replicate n 21) (drop 3 s) ≡ read_as n all) where
      all_of : columns_of (2 ∷ replicate n 21) (drop 1 s) ≡ also_read k (read_as n all)
      all_of =
          behind ∙ one_number (column_of (take 2 (drop 1 s))) k (sym e ∙ q) (columns_of (replicate n 21) (drop 3 s))
          ∙ ap (also_read k) g

      pub line-numbers : all ≡ None → None ≡ line_from (line_of s)
      line-numbers t = says (all_of ∙ ap (λ (x : Option (List ℕ)). also_read k (read_as n x)) t)

      pub line-call : (found : List ℕ) → all ≡ Some found → length found ≡ 4 → (l : Option Call)
          → l ≡ line_from
          (call_of (get_or s 0 0)
          (numbers (k ∷ take (arity (get_or s 0 0)) (get_or found 0 0 ∷ get_or found 1 0 ∷ get_or found 2 0 ∷ get_or found 3 0 ∷ []))))
          → l ≡ line_from (line_of s)
      line-call found t len l w =
          w
          ∙ ap (λ (ns : List ℕ). line_from (call_of (get_or s 0 0) (numbers (k ∷ take (arity (get_or s 0 0)) ns)))) (sym (four found len))
          ∙ ap (λ (j : ℕ). line_from (call_of (get_or s 0 0) (numbers (k ∷ take j found)))) (sym a)
          ∙ says (all_of ∙ ap (λ (x : Option (List ℕ)). also_read k (read_as n x)) t)
