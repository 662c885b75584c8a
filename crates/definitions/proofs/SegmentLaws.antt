-- What holds of every stored segment: not empty, and its two ends fit 64 bits. Placing one keeps it, and so do the parts that
-- a cut leaves; placing segments keeps the order. Question 15.
use Rattle.std.specs.Prelude.{if◌then◌else◌}
use Prim.Native.Nat.{ℕ, suc, ◌+◌, ◌-◌, ◌*◌, ◌^◌, ◌<◌, ◌≤◌}
use mathlib.Core.Path.{◌≡◌, refl, sym, ap, ◌∙◌}
use mathlib.Core.Bool.{Bool, true, false, true≢false, ◌||◌}
use mathlib.Core.List.{List, [], ◌∷◌, ◌++◌}
use lib.ListN.{length}
use native.Mathlib.Omega.{arith}
use native.Mathlib.Nat.{mul-le-mul_left, mul-le-mul_right}
use borrow.Author.Tests.{ltb-true, leb-true, leb-false, lt-ltb, le-leb, lt-leb, eqb-true}
use Rattle.definitions.proofs.Bools.{both}
use Rattle.definitions.specs.Tests.{◌<?◌, ◌≤?◌, ◌=?◌, host_up, guest_up, all, keep}
use Rattle.definitions.specs.Segments.{segment, span_end, in_order, place, front, rest, touched, span_whole, span_inside, place_all}
use Rattle.definitions.specs.declared.addr.GuestAddr.{GuestAddr}
use Rattle.definitions.specs.declared.remapper.Segment.{Segment}

pub record Good (s : Segment) : Type 0 where
  pub some : 1 ≤ s.size
  pub times : 1 ≤ s.repeat
  pub host : s.hpa.0 + s.size < 2 ^ 64
  pub product : s.size * s.repeat < 2 ^ 64
  pub guest : s.gpa.0 + s.size * s.repeat < 2 ^ 64

abbrev pub AllGood : List Segment → Type 0
AllGood [] = Unit {0}
AllGood (s ∷ ss) = Good s × AllGood ss

-- Placing

pub place-good : (s : Segment) (ss : List Segment) → Good s → AllGood ss → AllGood (place s ss)
unfolding place
place-good s [] g h = (g, tt)
place-good s (t ∷ ts) g h = go (t.hpa.0 ≤? s.hpa.0) refl (place-good s ts g h.1)
  where
    go : (b : Bool) → (t.hpa.0 ≤? s.hpa.0) ≡ b → AllGood (place s ts) → AllGood (place s (t ∷ ts))
    go true d ih = simp d (h.0, ih)
    go false d ih = simp d (g, h)

pub length-place : (s : Segment) (ss : List Segment) → length (place s ss) ≡ suc (length ss)
unfolding place
length-place s [] = refl
length-place s (t ∷ ts) = go (t.hpa.0 ≤? s.hpa.0) refl (length-place s ts)
  where
    go : (b : Bool) → (t.hpa.0 ≤? s.hpa.0) ≡ b → length (place s ts) ≡ suc (length ts)
        → length (place s (t ∷ ts)) ≡ suc (length (t ∷ ts))
    go true d ih = simp d (ap suc ih)
    go false d ih = simp d

all-place : (p : Segment → Bool) (s : Segment) (ss : List Segment) → p s ≡ true → all p ss ≡ true
    → all p (place s ss) ≡ true
unfolding place
all-place p s [] h k = simp h
all-place p s (t ∷ ts) h k =
    go (t.hpa.0 ≤? s.hpa.0) refl (both (p t) (all p ts) k) (λ m. all-place p s ts h m)
  where
    go : (b : Bool) → (t.hpa.0 ≤? s.hpa.0) ≡ b → (p t ≡ true) × (all p ts ≡ true)
        → (all p ts ≡ true → all p (place s ts) ≡ true) → all p (place s (t ∷ ts)) ≡ true
    go true d m ih = simp (d, m.0, ih m.1)
    go false d m ih = simp (d, h, m.0, m.1)

all_more : (p q : Segment → Bool) (ss : List Segment) → ((s : Segment) → p s ≡ true → q s ≡ true) → all p ss ≡ true
    → all q ss ≡ true
all_more p q [] f h = refl
all_more p q (s ∷ ss) f h =
    let b = both (p s) (all p ss) h in simp (f s b.0, all_more p q ss f b.1)

-- a new segment keeps the order
pub place-order : (s : Segment) (ss : List Segment) → in_order ss ≡ true → in_order (place s ss) ≡ true
unfolding place in_order
place-order s [] h = refl
place-order s (t ∷ ts) h =
    go (t.hpa.0 ≤? s.hpa.0) refl (both (all (λ u. t.hpa.0 ≤? u.hpa.0) ts) (in_order ts) h)
    (λ m. place-order s ts m)
  where
    go : (b : Bool) → (t.hpa.0 ≤? s.hpa.0) ≡ b
        → (all (λ u. t.hpa.0 ≤? u.hpa.0) ts ≡ true) × (in_order ts ≡ true)
        → (in_order ts ≡ true → in_order (place s ts) ≡ true) → in_order (place s (t ∷ ts)) ≡ true
    go true d m ih = simp (d, ih m.1, all-place (λ u. t.hpa.0 ≤? u.hpa.0) s ts d m.0)
    go false d m ih =
        let below : s.hpa.0 < t.hpa.0 = leb-false t.hpa.0 s.hpa.0 d in
        simp (
          d,
          m.0,
          m.1,
          le-leb s.hpa.0 t.hpa.0 (omega arith),
          all_more (λ u. t.hpa.0 ≤? u.hpa.0) (λ u. s.hpa.0 ≤? u.hpa.0) ts
              (λ u k. le-leb s.hpa.0 u.hpa.0 (omega (arith, leb-true t.hpa.0 u.hpa.0 k))) m.0,
        )

-- The first n addresses of a segment, and the rest

pub front-good : (n : ℕ) (s : Segment) → Good s → 1 ≤ n → n ≤ s.size → Good (front n s)
unfolding front segment
front-good n s g p q =
    let le : n * s.repeat ≤ s.size * s.repeat = mul-le-mul_right s.repeat q in
    record { some = p; times = g.times; host = omega arith; product = omega arith; guest = omega arith }

pub rest-good : (n : ℕ) (s : Segment) → Good s → n < s.size → Good (rest n s)
unfolding rest segment host_up guest_up
rest-good n s g q =
    let m : ℕ = s.size - n in
    let e : s.size ≡ n + m = omega arith in
    let up : n * 1 ≤ n * s.repeat = mul-le-mul_left n g.times in
    let all : s.gpa.0 + (n + m) * s.repeat < 2 ^ 64 = rw e at g.guest in
    record { some = omega arith; times = g.times; host = omega arith; product = omega arith; guest = omega arith }

-- Lists

pub all-good-append : (ss ts : List Segment) → AllGood ss → AllGood ts → AllGood (ss ++ ts)
all-good-append [] ts g h = h
all-good-append (s ∷ ss) ts g h = (g.0, all-good-append ss ts g.1 h)

pub place_all-good : (ss ts : List Segment) → AllGood ss → AllGood ts → AllGood (place_all ss ts)
unfolding place_all
place_all-good [] ts g h = h
place_all-good (s ∷ ss) ts g h = place_all-good ss (place s ts) g.1 (place-good s ts g.0 h)

pub length-place_all : (ss ts : List Segment) → length (place_all ss ts) ≡ length ss + length ts
unfolding place_all
length-place_all [] ts = omega arith
length-place_all (s ∷ ss) ts = omega (arith, length-place_all ss (place s ts), length-place s ts)

-- question 15: each segment touched but not wholly covered has repeat 1
abbrev pub Single : GuestAddr → GuestAddr → Segment → Type 0
Single a e s = touched a e s ≡ true → span_whole a e s ≡ false → s.repeat ≡ 1

-- the end of a guest span with repeat 1
pub single-end : (s : Segment) → s.repeat ≡ 1 → (span_end s).0 ≡ s.gpa.0 + s.size
unfolding span_end guest_up
single-end s o = rw o (omega arith)

-- a range strictly inside a span touches it
pub record Inside (a e : GuestAddr) (s : Segment) : Type 0 where
  pub touches : touched a e s ≡ true
  pub partly : span_whole a e s ≡ false
  pub from : s.gpa.0 < a.0
  pub to : e.0 < (span_end s).0

pub inside : (a e : GuestAddr) (s : Segment) → a.0 ≤ e.0 → span_inside a e s ≡ true → Inside a e s
unfolding span_inside touched span_whole
inside a e s q d =
    let b = both (s.gpa.0 <? a.0) (e.0 <? (span_end s).0) d in
    let i : s.gpa.0 < a.0 = ltb-true s.gpa.0 a.0 b.0 in
    let j : e.0 < (span_end s).0 = ltb-true e.0 (span_end s).0 b.1 in
    record {
      touches = simp (lt-ltb a.0 (span_end s).0 (omega arith), lt-ltb s.gpa.0 e.0 (omega arith));
      partly = simp (lt-leb a.0 s.gpa.0 i);
      from = i;
      to = j;
    }

-- question 15, as it is asked
abbrev pub Singles : GuestAddr → GuestAddr → List Segment → Type 0
Singles a e ss = all (λ s. span_whole a e s || (s.repeat =? 1)) (keep (touched a e) ss) ≡ true

-- of the first segment, and of the others
pub singles : (a e : GuestAddr) (s : Segment) (ss : List Segment) → Singles a e (s ∷ ss) → Single a e s × Singles a e ss
singles a e s ss h = go (touched a e s) refl h
  where
    go : (t : Bool) → touched a e s ≡ t
        → all (λ s. span_whole a e s || (s.repeat =? 1)) (if t then s ∷ keep (touched a e) ss else keep (touched a e) ss) ≡ true
        → Single a e s × Singles a e ss
    go false d f = ((λ p w. absurd (true≢false (sym p ∙ d))), f)
    go true d f =
        let b = both (span_whole a e s || (s.repeat =? 1)) (all (λ s. span_whole a e s || (s.repeat =? 1)) (keep (touched a e) ss)) f in
        ((λ p w. eqb-true s.repeat 1 (simp w at b.0)), b.1)
