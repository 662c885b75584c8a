-- A wish's text, line by line.
use Rattle.std.specs.Prelude.{Option, None, Some, Result, Ok, Err}
use Rattle.std.specs.Int.{div_ceil}
use Rattle.std.specs.Option.{ok_or}
use Rattle.std.specs.Result.{result_err}
use Rattle.std.proofs.lemmas.List.{take-take, take_at, drop_at, drop-take, take_min}
use Prim.Native.Nat.{min, ℕ, ◌+◌, ◌-◌, ◌*◌, ◌<◌, ◌≤◌}
use mathlib.Core.Path.{◌≡◌, refl, sym, ap, ◌∙◌, subst}
use mathlib.Core.Bool.{Bool, true, false, true≢false}
use mathlib.Core.List.{List, [], ◌∷◌, ◌++◌, append-nil, append_assoc}
use native.Mathlib.Decide.{ℕ_discrete, dec_lt}
use native.Mathlib.Omega.{arith}
use lib.ListN.{length, get_or, take, drop, length-append, length-drop, length-take, take-append-drop, drop_of_length-le}
use lib.Seq.{sets, sets-eq, drop-drop, get_or-drop, length-take-le}
use borrow.Author.Tests.{eq-eqb, eqb-true}
use Rattle.definitions.specs.Tests.{◌=?◌}
use Rattle.definitions.specs.Pages.{permission_group}
use Rattle.definitions.specs.Script.{Read, numbers, unread, cons_byte, lines_of, column_of, first_then, columns_of}
use Rattle.definitions.specs.Wishes.{Wish, wish, broken, and_later, range_of, wish_from, wish_of}
use Rattle.definitions.specs.declared.region.MemoryPermission.{MemoryPermission}
use Rattle.definitions.proofs.Fills.{three}
use Rattle.columns.specs.Columns.{column_from}
use Rattle.lines.proofs.Fields.{first-column, one_number, no_number, then-unread, wrong-length}
use Rattle.lines.proofs.Pieces.{lines-own}
use Rattle.lines.proofs.Whole.{NoEnd, columns-none, first-line, only-line}
use Rattle.planner.specs.Reading.{Says, ends, Begins, Heads, Keeps, Reads, ReadsWish, first_broken}

-- ---- three columns

module _ (line : List ℕ) (size : length line ≡ 63) where
  first : range_of line ≡ first_then (column_of (take 21 line)) (columns_of (21 ∷ 21 ∷ []) (drop 21 line))
  unfolding range_of
  first = first-column 21 (21 ∷ 21 ∷ []) line (omega arith)

  second : columns_of (21 ∷ 21 ∷ []) (drop 21 line) ≡ first_then (column_of (take 21 (drop 21 line))) (columns_of (21 ∷ []) (drop 42 line))
  second =
      first-column 21 (21 ∷ []) (drop 21 line) (simp length-drop (omega arith))
      ∙ ap (λ (l : List ℕ). first_then (column_of (take 21 (drop 21 line))) (columns_of (21 ∷ []) l)) (drop-drop 21 21 line)

  third : columns_of (21 ∷ []) (drop 42 line) ≡ first_then (column_of (take 21 (drop 42 line))) (numbers [])
  unfolding columns_of
  third =
      first-column 21 [] (drop 42 line) (simp length-drop (omega arith))
      ∙ ap (λ (l : List ℕ). first_then (column_of (take 21 (drop 42 line))) (columns_of [] l)) (drop-drop 21 42 line ∙ drop_of_length-le line {i = 63} (omega arith))

  module _ (r : Option ℕ) where
    pub range-1 : r ≡ column_from (column_of (take 21 line)) → r ≡ None → range_of line ≡ unread
    range-1 e d = first ∙ no_number (column_of (take 21 line)) (sym e ∙ d) _

    pub range-2 : r ≡ column_from (column_of (take 21 (drop 21 line))) → r ≡ None → range_of line ≡ unread
    range-2 e d =
        first ∙ ap (first_then (column_of (take 21 line))) (second ∙ no_number (column_of (take 21 (drop 21 line))) (sym e ∙ d) _)
        ∙ then-unread (column_of (take 21 line))

    pub range-3 : r ≡ column_from (column_of (take 21 (drop 42 line))) → r ≡ None → range_of line ≡ unread
    range-3 e d =
        first
        ∙ ap (first_then (column_of (take 21 line)))
        (second ∙ ap (first_then (column_of (take 21 (drop 21 line)))) (third ∙ no_number (column_of (take 21 (drop 42 line))) (sym e ∙ d) _)
        ∙ then-unread (column_of (take 21 (drop 21 line))))
        ∙ then-unread (column_of (take 21 line))

  pub range_all : (r s t : Option ℕ) (a b c : ℕ) → r ≡ column_from (column_of (take 21 line)) → r ≡ Some a
      → s ≡ column_from (column_of (take 21 (drop 21 line))) → s ≡ Some b
      → t ≡ column_from (column_of (take 21 (drop 42 line))) → t ≡ Some c → range_of line ≡ numbers (a ∷ b ∷ c ∷ [])
  range_all r s t a b c e d f g h i =
      first ∙ one_number (column_of (take 21 line)) a (sym e ∙ d) _
      ∙ ap (first_then (numbers (a ∷ [])))
      (second ∙ one_number (column_of (take 21 (drop 21 line))) b (sym f ∙ g) _
      ∙ ap (first_then (numbers (b ∷ []))) (third ∙ one_number (column_of (take 21 (drop 42 line))) c (sym h ∙ i) _))

-- ---- a line's end

pub ends-none : (rest : List ℕ) → length rest ≡ 0 → true ≡ ends rest
unfolding ends
ends-none [] e = refl
ends-none (b ∷ bs) e = absurd (omega arith)

pub ends-byte : (rest : List ℕ) → 0 < length rest → (get_or rest 0 0 =? 10) ≡ ends rest
unfolding ends
ends-byte [] l = absurd (omega arith)
ends-byte (b ∷ bs) l = refl

-- ---- the first line of bytes

record FirstLine (bs line : List ℕ) (later : List (List ℕ)) : Type 0 where
  lines : lines_of bs ≡ line ∷ later
  front : take (length line) bs ≡ line
  within : length line ≤ length bs
  next : length line < length bs → get_or bs (length line) 0 ≡ 10

first_of : (bs : List ℕ) → 1 ≤ length bs → (line : List ℕ) × (later : List (List ℕ)) × FirstLine bs line later
unfolding lines_of cons_byte
first_of [] h = absurd (omega arith)
first_of (b ∷ []) h = go (b =? 10) refl
  where
    go : (t : Bool) → (b =? 10) ≡ t → (line : List ℕ) × (later : List (List ℕ)) × FirstLine (b ∷ []) line later
    go true d = ([], [], record { lines = simp d; front = refl; within = omega arith; next = λ l. eqb-true b 10 d })
    go false d = (b ∷ [], [], record { lines = simp d; front = refl; within = omega arith; next = λ l. absurd (omega arith) })
first_of (b ∷ c ∷ bs) h = go (b =? 10) refl (first_of (c ∷ bs) (omega arith))
  where
    go : (t : Bool) → (b =? 10) ≡ t → (line : List ℕ) × (later : List (List ℕ)) × FirstLine (c ∷ bs) line later
        → (line : List ℕ) × (later : List (List ℕ)) × FirstLine (b ∷ c ∷ bs) line later
    go true d ih = ([], lines_of (c ∷ bs), record { lines = simp d; front = refl; within = omega arith; next = λ l. eqb-true b 10 d })
    go false d (line, later, f) = (
      b ∷ line,
      later,
      record {
        lines = simp d (ap (cons_byte b) f.lines);
        front = ap (λ (l : List ℕ). b ∷ l) f.front;
        within = omega (arith, f.within);
        next = λ l. f.next (omega arith);
      },
    )

-- one of another length is not of the form
other_length : (line : List ℕ) → (length line ≡ 63 → ⊥) → range_of line ≡ unread
unfolding range_of
other_length line h = wrong-length 3 line (λ e. h (e ∙ omega arith))

module _ (bs : List ℕ) (some : 1 ≤ length bs) where
  -- bytes whose first line is not of the form
  not_first : ((line : List ℕ) (later : List (List ℕ)) → FirstLine bs line later → length line ≡ 63 → range_of line ≡ unread)
      → Begins bs None
  unfolding wish_from
  not_first h n =
      let f = first_of bs some in
      let no-range : range_of f.0 ≡ unread =
      elim (ℕ_discrete (length f.0) 63) [
        | yes e ↦ h f.0 f.1 f.2 e
        | no e ↦ other_length f.0 e
      ] in
      ap (wish_from n) f.2.lines ∙ ap (λ (r : Read). and_later n r (wish_from (n + 1) f.1)) no-range

  pub too_short : length bs < 63 → Begins bs None
  too_short l = not_first (λ line later f e. absurd (omega (arith, f.within)))

  pub not-ended : 63 ≤ length bs → ends (drop 63 bs) ≡ false → Begins bs None
  not-ended l e =
      not_first (λ line later f q.
      absurd (true≢false (elim (dec_lt 63 (length bs)) [
        | yes m ↦ sym (eq-eqb (get_or bs 63 0) 10 (ap (λ (k : ℕ). get_or bs k 0) (sym q) ∙ f.next (omega arith))) ∙ ap (λ (n : ℕ). n =? 10) (sym (get_or-drop 63 bs 0 0)) ∙ ends-byte (drop 63 bs) (simp length-drop (omega arith)) ∙ e
        | no m ↦ ends-none (drop 63 bs) (length-drop 63 bs ∙ omega arith) ∙ e
      ])))

  pub not-read : range_of (take 63 bs) ≡ unread → Begins bs None
  not-read e = not_first (λ line later f q. ap range_of (sym f.front ∙ ap (λ (k : ℕ). take k bs) q) ∙ e)

-- bytes that begin with 63 of the form, and an end or nothing behind them
pub is_read : (bs : List ℕ) (p : MemoryPermission) → 63 ≤ length bs → ends (drop 63 bs) ≡ true → range_of (take 63 bs) ≡ numbers (permission_group p)
    → Begins bs (Some p)
unfolding wish_from ends range_of lines_of
is_read bs p l e q n =
    ap (wish_from n) lines ∙ ap (λ (r : Read). and_later n r (wish_from (n + 1) (lines_of (drop 64 bs)))) q
  where
    front : List ℕ
    front = take 63 bs

    none : NoEnd front
    none = columns-none (21 ∷ 21 ∷ 21 ∷ []) front (permission_group p) q

    whole : bs ≡ front ++ drop 63 bs
    whole = sym (take-append-drop 63 bs)

    behind : drop 1 (drop 63 bs) ≡ drop 64 bs
    behind = drop-drop 1 63 bs

    go : (rest : List ℕ) → drop 63 bs ≡ rest → lines_of bs ≡ front ∷ lines_of (drop 64 bs)
    go [] d =
        let all : bs ≡ front = whole ∙ ap (λ (r : List ℕ). front ++ r) d ∙ append-nil front in
        ap lines_of all ∙ only-line front none (omega (arith, length-take-le 63 bs l))
        ∙ ap (λ (r : List ℕ). front ∷ lines_of r) (sym (sym behind ∙ ap (drop 1) d))
    go (b ∷ rest) d =
        let end : b ≡ 10 = eqb-true b 10 (sym (ap ends d) ∙ e) in
        ap lines_of (whole ∙ ap (λ (r : List ℕ). front ++ r) d ∙ ap (λ (x : ℕ). front ++ (x ∷ rest)) end)
        ∙ lines-own (front ++ (10 ∷ rest)) ∙ first-line front [] rest none
        ∙ ap (λ (r : List ℕ). front ∷ lines_of r) (sym (sym behind ∙ ap (drop 1) d))

    lines : lines_of bs ≡ front ∷ lines_of (drop 64 bs)
    lines = go (drop 63 bs) refl

-- it is told by the first byte
ends-one : (rest : List ℕ) → ends (take 1 rest) ≡ ends rest
unfolding ends
ends-one [] = refl
ends-one (b ∷ bs) = refl

-- the first 64 of the bytes, or all, say what begins them
module _ (bs head : List ℕ) (e : head ≡ take 64 bs) (some : 1 ≤ length bs) where
  head-long : length head ≡ min 64 (length bs)
  head-long = ap length e ∙ length-take 64 bs

  head-line : take 63 head ≡ take 63 bs
  head-line = ap (take 63) e ∙ take-take 63 64 bs (omega arith)

  head-ends : 63 ≤ length head → ends (drop 63 head) ≡ ends (drop 63 bs)
  head-ends l = ap (λ (x : List ℕ). ends (drop 63 x)) e ∙ ap ends (drop-take 63 1 bs) ∙ ends-one (drop 63 bs)

pub head-short : (head : List ℕ) → length head < 63 → Heads head None
head-short head l bs e some = too_short bs some (omega (arith, head-long bs head e some))

module _ (head : List ℕ) (long : 63 ≤ length head) (b : Bool) (e : b ≡ ends (drop 63 head)) where
  pub head-unended : b ≡ false → Heads head None
  head-unended d bs h some = not-ended bs some (omega (arith, head-long bs head h some)) (sym (head-ends bs head h some long) ∙ sym e ∙ d)

  pub head-said : b ≡ true → (r : Option MemoryPermission) → Says (take 63 head) r → Heads head r
  head-said d (Some p) q bs h some =
      is_read bs p (omega (arith, head-long bs head h some)) (sym (head-ends bs head h some long) ∙ sym e ∙ d) (ap range_of (sym (head-line bs head h some)) ∙ q)
  head-said d None q bs h some = not-read bs some (ap range_of (sym (head-line bs head h some)) ∙ q)

-- ---- a wish as far as it is read

no-length : (bs : List ℕ) → length bs ≡ 0 → bs ≡ []
no-length [] e = refl
no-length (b ∷ bs) e = absurd (omega arith)

also-none : (n : ℕ) (w : Wish) → and_later n (numbers []) w ≡ w
also-none n (wish ns) = refl
also-none n (broken m) = refl

also-both : (i j : ℕ) (ns ms : List ℕ) (w : Wish) → and_later i (numbers ns) (and_later j (numbers ms) w) ≡ and_later i (numbers (ns ++ ms)) w
also-both i j ns ms (wish ks) = ap wish (sym (append_assoc ns ms ks))
also-both i j ns ms (broken m) = refl

-- of n lines; the others are still to come
pub record Part (text slice rest : List ℕ) (n : ℕ) : Type 0 where
  pub all : List ℕ
  pub says : wish_of text ≡ and_later 0 (numbers all) (wish_from (n + 1) (lines_of rest))
  pub many : length all ≡ 3 * n
  pub stored : 3 * n ≤ length slice → take (3 * n) slice ≡ all
  pub left : length rest ≡ length text - 64 * n
  pub few : 64 * n < length text + 64

pub part-start : (text slice : List ℕ) → Part text slice text 0
unfolding wish_of
part-start text slice = record {
  all = [];
  says = sym (also-none 0 (wish_from 1 (lines_of text)));
  many = omega arith;
  stored = λ l. refl;
  left = omega arith;
  few = omega arith;
}

module _ (text slice rest : List ℕ) (n : ℕ) (g : Part text slice rest n) where
  read-all : length rest ≡ 0 → Reads text slice n
  unfolding lines_of wish_from
  read-all l = record {
    all = g.all;
    says = g.says ∙ ap (λ (bs : List ℕ). and_later 0 (numbers g.all) (wish_from (n + 1) (lines_of bs))) (no-length rest l) ∙ ap wish (append-nil g.all);
    many = g.many;
    stored = g.stored;
  }

  pub part_end : length rest ≡ 0 → (k : ℕ) → k ≡ div_ceil (length text) 64 → Reads text slice k
  part_end l k e = let z : n ≡ k = omega (arith, g.left, g.few) in subst (Reads text slice) z (read-all l)

  -- the line at hand
  module _ (head rest' : List ℕ) (s : rest ≡ head ++ rest') (size : length head ≡ min 64 (length rest)) (some : 0 < length rest) where
    head-is : head ≡ take 64 rest
    head-is =
        sym (sym (take_min 64 rest) ∙ ap (λ (k : ℕ). take k rest) (sym size) ∙ ap (take (length head)) s ∙ take_at head rest' (length head) refl)

    tail-is : drop 64 rest ≡ rest'
    tail-is = elim (dec_lt 63 (length rest)) [
      | yes m ↦ ap (drop 64) s ∙ drop_at head rest' 64 (omega (arith, size))
      | no m ↦ drop_of_length-le rest {i = 64} (omega arith) ∙ sym (no-length rest' (omega (arith, ap length s, length-append head rest', size)))
    ]

    -- as it is told
    module _ (r : Option MemoryPermission) (h : Heads head r) (i : ℕ) (z : i ≡ n) where
      pub part-broken : (e : ℕ) → ◌≡◌ {A = Result MemoryPermission ℕ} (Err e) (ok_or r (i + 1)) → wish_of text ≡ broken e
      part-broken e q = go r h q
        where
          go : (r : Option MemoryPermission) → Heads head r → ◌≡◌ {A = Result MemoryPermission ℕ} (Err e) (ok_or r (i + 1)) → wish_of text ≡ broken e
          go None h q =
              let told : i + 1 ≡ e = cc in
              let same : n + 1 ≡ e = omega arith in
              g.says ∙ ap (and_later 0 (numbers g.all)) (h rest head-is (omega arith) (n + 1)) ∙ ap broken same
          go (Some p) h q = absurd (let c : ◌≡◌ {A = ℕ} 0 1 = cc in omega arith)

      -- one range more
      module _ (p : MemoryPermission) (q : ◌≡◌ {A = Result MemoryPermission ℕ} (Ok p) (ok_or r (i + 1))) (slice' : List ℕ) (k : Keeps slice slice' i (permission_group p)) where
        here : Heads head (Some p)
        here = go r h q
          where
            go : (r : Option MemoryPermission) → Heads head r → ◌≡◌ {A = Result MemoryPermission ℕ} (Ok p) (ok_or r (i + 1)) → Heads head (Some p)
            go None h q = absurd (let c : ◌≡◌ {A = ℕ} 0 1 = cc in omega arith)
            go (Some v) h q = let same : v ≡ p = cc in subst (λ (x : MemoryPermission). Heads head (Some x)) same h

        more-stored : 3 * (n + 1) ≤ length slice' → take (3 * (n + 1)) slice' ≡ g.all ++ permission_group p
        more-stored l =
            let room : 3 * i + 3 ≤ length slice = omega (arith, k.size) in
            let long : length (g.all ++ permission_group p) ≡ 3 * (n + 1) = length-append g.all (permission_group p) ∙ omega (arith, g.many, three p) in
            let split : slice' ≡ (g.all ++ permission_group p) ++ drop (3 * n + length (permission_group p)) slice
            = k.kept room ∙ ap (λ (j : ℕ). sets slice (3 * j) (permission_group p)) z ∙ sets-eq (permission_group p) slice (3 * n) (omega (arith, three p))
            ∙ ap (λ (x : List ℕ). (x ++ permission_group p) ++ drop (3 * n + length (permission_group p)) slice) (g.stored (omega arith)) in
            ap (take (3 * (n + 1))) split ∙ take_at (g.all ++ permission_group p) _ (3 * (n + 1)) long

        part-next : Part text slice' rest' (n + 1)
        part-next = record {
          all = g.all ++ permission_group p;
          says = g.says ∙ ap (and_later 0 (numbers g.all)) (here rest head-is (omega arith) (n + 1))
              ∙ also-both 0 (n + 1) g.all (permission_group p) (wish_from (n + 1 + 1) (lines_of (drop 64 rest)))
              ∙ ap (λ (bs : List ℕ). and_later 0 (numbers (g.all ++ permission_group p)) (wish_from (n + 1 + 1) (lines_of bs))) tail-is;
          many = length-append g.all (permission_group p) ∙ omega (arith, g.many, three p);
          stored = more-stored;
          left = omega (arith, ap length tail-is, length-drop 64 rest, g.left);
          few = omega (arith, g.few, g.left);
        }

        pub part-more : (m : ℕ) → m ≡ n + 1 → Part text slice' rest' m
        part-more m e = rw e part-next

-- ---- what is told of a reading

pub first-is : (text slice : List ℕ) (r : Result ℕ ℕ) → ReadsWish text slice r → result_err r ≡ first_broken (wish_of text)
first-is text slice (Ok n) w = sym (ap first_broken w.says)
first-is text slice (Err n) w = sym (ap first_broken w)
