-- Where guest spans lie. Where a stored segment with repeat 1 reaches a guest address, no other stored one does: a map whose
-- span shares no address with a stored span keeps that, and so do the unmaps, since what they leave of a segment lies within
-- its span. So a range strictly inside such a segment touches no other.
use Rattle.std.specs.Prelude.{if◌then◌else◌}
use Prim.Native.Nat.{ℕ, ◌+◌, ◌-◌, ◌*◌, ◌<◌, ◌≤◌}
use mathlib.Core.Path.{◌≡◌, refl, sym, ap, ◌∙◌}
use mathlib.Core.Bool.{Bool, true, false, true≢false, not, ◌&&◌, ◌||◌}
use mathlib.Core.List.{List, [], ◌∷◌, ◌++◌}
use lib.ListN.{length}
use native.Mathlib.Omega.{arith}
use native.Mathlib.Nat.{mul-le-mul_left, mul-le-mul_right}
use borrow.Author.Tests.{ltb-true, ltb-false, lt-ltb, eqb-true, eq-eqb, ne_eqb}
use Rattle.definitions.specs.Tests.{◌<?◌, ◌≤?◌, ◌=?◌, inside, bit, guest, host_up, guest_up, any, count, keep}
use Rattle.definitions.specs.Segments.{segment, span_end, place, front, rest, overlaps, touched, span_inside, place_all}
use Rattle.definitions.specs.declared.addr.GuestAddr.{GuestAddr}
use Rattle.definitions.specs.declared.remapper.Segment.{Segment}
use Rattle.definitions.proofs.Bools.{Where, inn, low, high, where?, in-true, count-append, both, and-true, and-false}
use Rattle.definitions.proofs.SegmentLaws.{Good, AllGood, Single, Singles, singles, inside as spans-inside}

-- does the segment's guest span hold y? and has it repeat 1, or another?
unfoldable pub reaches : GuestAddr → Segment → Bool
reaches y s = inside s.gpa.0 (span_end s).0 y.0

unfoldable pub once : GuestAddr → Segment → Bool
once y s = reaches y s && (s.repeat =? 1)

unfoldable pub often : GuestAddr → Segment → Bool
often y s = reaches y s && not (s.repeat =? 1)

-- where a segment with repeat 1 reaches a guest address, no other does
abbrev pub Unshared : List Segment → Type 0
Unshared ss = (y : GuestAddr) → 1 ≤ count (once y) ss → count (reaches y) ss ≤ 1

pub once-often : (y : GuestAddr) (ss : List Segment) → count (reaches y) ss ≡ count (once y) ss + count (often y) ss
unfolding once often
once-often y [] = refl
once-often y (s ∷ ss) = go (reaches y s) refl (s.repeat =? 1) refl (once-often y ss)
  where
    go : (t : Bool) → reaches y s ≡ t → (u : Bool) → (s.repeat =? 1) ≡ u
        → count (reaches y) ss ≡ count (once y) ss + count (often y) ss
        → count (reaches y) (s ∷ ss) ≡ count (once y) (s ∷ ss) + count (often y) (s ∷ ss)
    go true d true f ih = simp (d, f) (omega arith)
    go true d false f ih = simp (d, f) (omega arith)
    go false d u f ih = simp d (omega arith)

-- Cuts

-- what is left reaches nothing more: once where it was reached once, and at most twice where a repeated one did
pub record Within (ss us : List Segment) : Type 0 where
  pub ones : (y : GuestAddr) → count (once y) us ≤ count (once y) ss
  pub more : (y : GuestAddr) → count (often y) us ≤ 2 * count (often y) ss

pub within-unshared : (ss us : List Segment) → Within ss us → Unshared ss → Unshared us
within-unshared ss us w h y n =
    let m = h y (omega (arith, w.ones y)) in
    omega (arith, m, w.ones y, w.more y, once-often y ss, once-often y us)

pub within_none : Within [] []
within_none = record { ones = λ y. omega arith; more = λ y. omega arith }

pub within-append : (ss us ts vs : List Segment) → Within ss us → Within ts vs → Within (ss ++ ts) (us ++ vs)
within-append ss us ts vs p q = record {
  ones = λ y. simp count-append (omega (arith, p.ones y, q.ones y));
  more = λ y. simp count-append (omega (arith, p.more y, q.more y));
}

-- ranges inside others, as numbers
in-less : (a e b f x : ℕ) → b ≤ a → e ≤ f → bit (inside a e x) ≤ bit (inside b f x)
in-less a e b f x p q = go (where? a e x)
  where
    go : Where a e x → bit (inside a e x) ≤ bit (inside b f x)
    go (inn d i j) = simp (d, in-true b f x (omega arith) (omega arith)) (omega arith)
    go (low d i) = simp d (omega arith)
    go (high d i j) = simp d (omega arith)

-- two ranges apart
in_two : (a e b f c g x : ℕ) → c ≤ a → e ≤ b → a ≤ e → b ≤ f → f ≤ g → bit (inside a e x) + bit (inside b f x) ≤ bit (inside c g x)
in_two a e b f c g x p q r s t = go (where? a e x) (where? b f x)
  where
    go : Where a e x → Where b f x → bit (inside a e x) + bit (inside b f x) ≤ bit (inside c g x)
    go (inn d i j) (inn k l m) = absurd (omega arith)
    go (inn d i j) (low k l) = simp (d, k, in-true c g x (omega arith) (omega arith)) (omega arith)
    go (inn d i j) (high k l m) = absurd (omega arith)
    go (low d i) (inn k l m) = absurd (omega arith)
    go (high d i j) (inn k l m) = simp (d, k, in-true c g x (omega arith) (omega arith)) (omega arith)
    go (low d i) (low k l) = simp (d, k) (omega arith)
    go (low d i) (high k l m) = simp (d, k) (omega arith)
    go (high d i j) (low k l) = simp (d, k) (omega arith)
    go (high d i j) (high k l m) = simp (d, k) (omega arith)

rest_end : (g f m n t : ℕ) → n ≡ f + m → 1 ≤ t → g + f + m * t ≤ g + n * t
rest_end g f m n t e l = let up : f * 1 ≤ f * t = mul-le-mul_left f l in rw e (omega arith)

-- the first n addresses, and what is left past them
module _ (s : Segment) (g : Good s) (y : GuestAddr) where
  front-reaches : (d : ℕ) → d ≤ s.size → bit (reaches y (front d s)) ≤ bit (reaches y s)
  unfolding reaches front segment span_end guest_up
  front-reaches d l =
      let m : d * s.repeat ≤ s.size * s.repeat = mul-le-mul_right s.repeat l in
      in-less _ _ _ _ y.0 (omega arith) (omega arith)

  rest-reaches : (f : ℕ) → f ≤ s.size → bit (reaches y (rest f s)) ≤ bit (reaches y s)
  unfolding reaches rest segment span_end host_up guest_up
  rest-reaches f l =
      in-less _ _ _ _ y.0 (omega arith) (rest_end s.gpa.0 f (s.size - f) s.size s.repeat (omega arith) g.times)

  both-reach : s.repeat ≡ 1 → (d f : ℕ) → d ≤ f → f ≤ s.size
      → bit (reaches y (front d s)) + bit (reaches y (rest f s)) ≤ bit (reaches y s)
  unfolding reaches front rest segment span_end host_up guest_up
  both-reach o d f k l = rw o (in_two _ _ _ _ _ _ y.0 (omega arith) (omega arith) (omega arith) (omega arith) (omega arith))

-- all have this repeat
abbrev pub Repeats : ℕ → List Segment → Type 0
Repeats t [] = Unit {0}
Repeats t (u ∷ us) = (u.repeat ≡ t) × Repeats t us

repeats-once : (t : ℕ) (b : Bool) → (t =? 1) ≡ b → (us : List Segment) → Repeats t us → (y : GuestAddr)
    → (count (once y) us ≡ (if b then count (reaches y) us else 0)) × (count (often y) us ≡ (if b then 0 else count (reaches y) us))
unfolding once often
repeats-once t true e [] r y = (refl, refl)
repeats-once t false e [] r y = (refl, refl)
repeats-once t true e (u ∷ us) r y =
    let ih = repeats-once t true e us r.1 y in
    let o : (u.repeat =? 1) ≡ true = ap (λ n. n =? 1) r.0 ∙ e in
    (simp (o, and-true) (omega (arith, ih.0)), simp (o, and-false) (omega (arith, ih.1)))
repeats-once t false e (u ∷ us) r y =
    let ih = repeats-once t false e us r.1 y in
    let o : (u.repeat =? 1) ≡ false = ap (λ n. n =? 1) r.0 ∙ e in
    (simp (o, and-false) (omega (arith, ih.0)), simp (o, and-true) (omega (arith, ih.1)))

-- what is left of one segment, each part with its repeat
pub within_of : (s : Segment) (us : List Segment) → Repeats s.repeat us
    → ((y : GuestAddr) → count (reaches y) us ≤ 2 * bit (reaches y s))
    → (s.repeat ≡ 1 → (y : GuestAddr) → count (reaches y) us ≤ bit (reaches y s)) → Within (s ∷ []) us
within_of s us r p q = go (s.repeat =? 1) refl
  where
    go : (b : Bool) → (s.repeat =? 1) ≡ b → Within (s ∷ []) us
    go true e =
        let o : s.repeat ≡ 1 = eqb-true s.repeat 1 e in
        record {
          ones = λ y.
              let here = repeats-once s.repeat true e us r y in
              let there = repeats-once s.repeat true e (s ∷ []) (refl, tt) y in
              omega (arith, here.0, there.0, q o y);
          more = λ y. omega (arith, (repeats-once s.repeat true e us r y).1);
        }
    go false e = record {
      ones = λ y. omega (arith, (repeats-once s.repeat false e us r y).0);
      more = λ y.
          let here = repeats-once s.repeat false e us r y in
          let there = repeats-once s.repeat false e (s ∷ []) (refl, tt) y in
          omega (arith, here.1, there.1, p y);
    }

-- the whole, none, the first d addresses, what is left past f, and both of these
module _ (s : Segment) where
  pub within_same : Within (s ∷ []) (s ∷ [])
  within_same = record { ones = λ y. omega arith; more = λ y. omega arith }

  pub within-gone : Within (s ∷ []) []
  within-gone = record { ones = λ y. omega arith; more = λ y. omega arith }

module _ (s : Segment) (g : Good s) where
  pub within-front : (d : ℕ) → d ≤ s.size → Within (s ∷ []) (front d s ∷ [])
  unfolding front segment
  within-front d l = within_of s (front d s ∷ []) (refl, tt) (λ y. omega (arith, front-reaches s g y d l)) (λ o y. omega (arith, front-reaches s g y d l))

  pub within-rest : (f : ℕ) → f ≤ s.size → Within (s ∷ []) (rest f s ∷ [])
  unfolding rest segment
  within-rest f l = within_of s (rest f s ∷ []) (refl, tt) (λ y. omega (arith, rest-reaches s g y f l)) (λ o y. omega (arith, rest-reaches s g y f l))

  pub within_both : (d f : ℕ) → d ≤ f → f ≤ s.size → Within (s ∷ []) (front d s ∷ rest f s ∷ [])
  unfolding front rest segment
  within_both d f k l =
      within_of s (front d s ∷ rest f s ∷ []) (refl, (refl, tt))
      (λ y. omega (arith, front-reaches s g y d (omega arith), rest-reaches s g y f l)) (λ o y. omega (arith, both-reach s g y o d f k l))

-- Lists

pub count-place : (p : Segment → Bool) (s : Segment) (ss : List Segment) → count p (place s ss) ≡ bit (p s) + count p ss
unfolding place
count-place p s [] = refl
count-place p s (t ∷ ts) = go (t.hpa.0 ≤? s.hpa.0) refl (count-place p s ts)
  where
    go : (b : Bool) → (t.hpa.0 ≤? s.hpa.0) ≡ b → count p (place s ts) ≡ bit (p s) + count p ts
        → count p (place s (t ∷ ts)) ≡ bit (p s) + count p (t ∷ ts)
    go true d ih = simp d (omega arith)
    go false d ih = simp d

pub count-place_all : (p : Segment → Bool) (ss ts : List Segment) → count p (place_all ss ts) ≡ count p ss + count p ts
unfolding place_all
count-place_all p [] ts = omega arith
count-place_all p (s ∷ ss) ts = omega (arith, count-place_all p ss (place s ts), count-place p s ts)

pub within_all : (ss us vs : List Segment) → ((p : Segment → Bool) → count p vs ≡ count p us) → Within ss us → Within ss vs
within_all ss us vs e w = record {
  ones = λ y. omega (arith, e (once y), w.ones y);
  more = λ y. omega (arith, e (often y), w.more y);
}

within-refl : (ss : List Segment) → Within ss ss
within-refl ss = record { ones = λ y. omega arith; more = λ y. omega arith }

-- A map

touches : (a e : GuestAddr) (s : Segment) → a.0 < (span_end s).0 → s.gpa.0 < e.0 → touched a e s ≡ true
unfolding touched
touches a e s p q = simp (lt-ltb a.0 (span_end s).0 p, lt-ltb s.gpa.0 e.0 q)

-- an address of a range that touches none is reached by none
untouched : (a e y : GuestAddr) (ss : List Segment) → a.0 ≤ y.0 → y.0 < e.0 → any (touched a e) ss ≡ false → count (reaches y) ss ≡ 0
unfolding reaches
untouched a e y [] i j h = refl
untouched a e y (s ∷ ss) i j h = go (touched a e s) refl (where? s.gpa.0 (span_end s).0 y.0) h (λ k. untouched a e y ss i j k)
  where
    go : (t : Bool) → touched a e s ≡ t → Where s.gpa.0 (span_end s).0 y.0 → (t || any (touched a e) ss) ≡ false
        → (any (touched a e) ss ≡ false → count (reaches y) ss ≡ 0) → count (reaches y) (s ∷ ss) ≡ 0
    go true d w h ih = absurd (true≢false h)
    go false d (inn f k l) h ih = absurd (true≢false (sym (touches a e s (omega arith) (omega arith)) ∙ d))
    go false d (low f k) h ih = simp f (omega (arith, ih h))
    go false d (high f k l) h ih = simp f (omega (arith, ih h))

pub place-unshared : (s : Segment) (ss : List Segment) → any (touched s.gpa (span_end s)) ss ≡ false → Unshared ss → Unshared (place s ss)
unfolding once reaches
place-unshared s ss h u y n = go (where? s.gpa.0 (span_end s).0 y.0)
  where
    still : {m : ℕ} → 1 ≤ 0 + m → 1 ≤ m
    still l = omega arith

    go : Where s.gpa.0 (span_end s).0 y.0 → count (reaches y) (place s ss) ≤ 1
    go (inn d i j) = rw (count-place (reaches y) s ss) (simp d (omega (arith, untouched s.gpa (span_end s) y ss i j h)))
    go (low d i) = rw (count-place (reaches y) s ss) (simp d (omega (arith, u y (still (simp d at (rw (count-place (once y) s ss) at n))))))
    go (high d i j) = rw (count-place (reaches y) s ss) (simp d (omega (arith, u y (still (simp d at (rw (count-place (once y) s ss) at n))))))

-- question 11
pub overlaps-untouched : (g : GuestAddr) (n : ℕ) (ss : List Segment) → 1 ≤ n → overlaps g n ss ≡ false → any (touched g (guest_up g n)) ss ≡ false
unfolding overlaps
overlaps-untouched g n ss l h = simp (ne_eqb n 0 (λ e. omega arith)) at h

-- Question 16

pub length-keep : {A : Type 0} (p : A → Bool) (xs : List A) → length (keep p xs) ≡ count p xs
length-keep p [] = refl
length-keep p (x ∷ xs) = go (p x) refl (length-keep p xs)
  where
    go : (t : Bool) → p x ≡ t → length (keep p xs) ≡ count p xs → length (keep p (x ∷ xs)) ≡ count p (x ∷ xs)
    go true d ih = simp d (omega arith)
    go false d ih = simp d (omega arith)

-- a span is as long as the segment at least, and not empty
pub size-within : (s : Segment) → Good s → s.gpa.0 + s.size ≤ (span_end s).0
unfolding span_end guest_up
size-within s g = let m : s.size * 1 ≤ s.size * s.repeat = mul-le-mul_left s.size g.times in omega arith

pub size_reaches : (s : Segment) → Good s → {n : ℕ} → n < s.gpa.0 + s.size → n < (span_end s).0
size_reaches s g l = omega (arith, size-within s g)

pub span-full : (s : Segment) → Good s → s.gpa.0 < (span_end s).0
span-full s g = size_reaches s g (omega (arith, g.some))

module _ (a e : GuestAddr) (l : a.0 < e.0) where
  -- a segment that is touched reaches an address of the range
  reached : (s : Segment) → Good s → touched a e s ≡ true
      → (y : GuestAddr) × (a.0 ≤ y.0) × (y.0 < e.0) × (reaches y s ≡ true)
  unfolding touched reaches guest
  reached s g h =
      let b = both (a.0 <? (span_end s).0) (s.gpa.0 <? e.0) h in
      let i : a.0 < (span_end s).0 = ltb-true a.0 (span_end s).0 b.0 in
      let j : s.gpa.0 < e.0 = ltb-true s.gpa.0 e.0 b.1 in
      go (s.gpa.0 <? a.0) refl i j
    where
      go : (t : Bool) → (s.gpa.0 <? a.0) ≡ t → a.0 < (span_end s).0 → s.gpa.0 < e.0
          → (y : GuestAddr) × (a.0 ≤ y.0) × (y.0 < e.0) × (inside s.gpa.0 (span_end s).0 y.0 ≡ true)
      go true d i j =
          let k : s.gpa.0 < a.0 = ltb-true s.gpa.0 a.0 d in
          (a, omega arith, omega arith, in-true s.gpa.0 (span_end s).0 a.0 (omega arith) i)
      go false d i j =
          let k : a.0 ≤ s.gpa.0 = ltb-false s.gpa.0 a.0 d in
          (s.gpa, k, j, in-true s.gpa.0 (span_end s).0 s.gpa.0 (omega arith) (span-full s g))

  some-reached : (ss : List Segment) → AllGood ss → any (touched a e) ss ≡ true
      → (y : GuestAddr) × (a.0 ≤ y.0) × (y.0 < e.0) × (1 ≤ count (reaches y) ss)
  some-reached [] g h = absurd (true≢false (sym h))
  some-reached (s ∷ ss) g h = go (touched a e s) refl h (λ k. some-reached ss g.1 k)
    where
      go : (t : Bool) → touched a e s ≡ t → (t || any (touched a e) ss) ≡ true
          → (any (touched a e) ss ≡ true → (y : GuestAddr) × (a.0 ≤ y.0) × (y.0 < e.0) × (1 ≤ count (reaches y) ss))
          → (y : GuestAddr) × (a.0 ≤ y.0) × (y.0 < e.0) × (1 ≤ count (reaches y) (s ∷ ss))
      go true d h ih = let r = reached s g.0 d in (r.0, r.1, r.2, simp r.3 (omega arith))
      go false d h ih = let r = ih h in (r.0, r.1, r.2, omega (arith, r.3))

  -- where no address of the range is reached, none is touched
  none-touched : (ss : List Segment) → AllGood ss → ((y : GuestAddr) → a.0 ≤ y.0 → y.0 < e.0 → count (reaches y) ss ≡ 0) → count (touched a e) ss ≡ 0
  none-touched [] g h = refl
  none-touched (s ∷ ss) g h = go (touched a e s) refl (none-touched ss g.1 (λ y i j. omega (arith, h y i j)))
    where
      go : (t : Bool) → touched a e s ≡ t → count (touched a e) ss ≡ 0 → count (touched a e) (s ∷ ss) ≡ 0
      go true d ih =
          let r = reached s g.0 d in
          absurd (omega (arith, simp r.3 at (h r.0 r.1 r.2)))
      go false d ih = simp d (omega arith)

  -- a range strictly inside a segment is reached by it
  inside_reaches : (s : Segment) → span_inside a e s ≡ true → (y : GuestAddr) → a.0 ≤ y.0 → y.0 < e.0 → reaches y s ≡ true
  unfolding reaches
  inside_reaches s d y i j =
      let k = spans-inside a e s (omega arith) d in in-true s.gpa.0 (span_end s).0 y.0 (omega arith) (omega arith)

  some-reaches : (ss : List Segment) → any (span_inside a e) ss ≡ true → (y : GuestAddr) → a.0 ≤ y.0 → y.0 < e.0
      → 1 ≤ count (reaches y) ss
  some-reaches [] h y i j = absurd (true≢false (sym h))
  some-reaches (s ∷ ss) h y i j = go (span_inside a e s) refl h (λ k. some-reaches ss k y i j)
    where
      go : (t : Bool) → span_inside a e s ≡ t → (t || any (span_inside a e) ss) ≡ true
          → (any (span_inside a e) ss ≡ true → 1 ≤ count (reaches y) ss) → 1 ≤ count (reaches y) (s ∷ ss)
      go true d h ih = simp (inside_reaches s d y i j) (omega arith)
      go false d h ih = omega (arith, ih h)

  -- where each address of the range is reached at most once, a range strictly inside one touches no other
  one-touched : (ss : List Segment) → AllGood ss → ((y : GuestAddr) → a.0 ≤ y.0 → y.0 < e.0 → count (reaches y) ss ≤ 1)
      → any (span_inside a e) ss ≡ true → count (touched a e) ss ≡ 1
  one-touched [] g h k = absurd (true≢false (sym k))
  one-touched (s ∷ ss) g h k =
      go (span_inside a e s) refl k (λ m. one-touched ss g.1 (λ y i j. omega (arith, h y i j)) m)
    where
      go : (t : Bool) → span_inside a e s ≡ t → (t || any (span_inside a e) ss) ≡ true
          → (any (span_inside a e) ss ≡ true → count (touched a e) ss ≡ 1) → count (touched a e) (s ∷ ss) ≡ 1
      go true d m ih =
          let none : count (touched a e) ss ≡ 0
          = none-touched ss g.1 (λ y i j. omega (arith, simp (inside_reaches s d y i j) at (h y i j))) in
          simp (spans-inside a e s (omega arith) d).touches (omega arith)
      go false d m ih = rest-go (touched a e s) refl
        where
          rest-go : (u : Bool) → touched a e s ≡ u → count (touched a e) (s ∷ ss) ≡ 1
          rest-go true f =
              let r = reached s g.0 f in
              absurd (omega (arith, some-reaches ss m r.0 r.1 r.2, simp r.3 at (h r.0 r.1 r.2)))
          rest-go false f = simp f (omega (arith, ih m))

  -- question 15: the one with the range strictly inside has repeat 1
  some-once : (ss : List Segment) → Singles a e ss → any (span_inside a e) ss ≡ true → (y : GuestAddr) → a.0 ≤ y.0 → y.0 < e.0
      → 1 ≤ count (once y) ss
  unfolding once
  some-once [] o h y i j = absurd (true≢false (sym h))
  some-once (s ∷ ss) o h y i j =
      let p = singles a e s ss o in go (span_inside a e s) refl h p.0 (λ k. some-once ss p.1 k y i j)
    where
      go : (t : Bool) → span_inside a e s ≡ t → (t || any (span_inside a e) ss) ≡ true → Single a e s
          → (any (span_inside a e) ss ≡ true → 1 ≤ count (once y) ss) → 1 ≤ count (once y) (s ∷ ss)
      go true d h o ih =
          let k = spans-inside a e s (omega arith) d in
          let r : s.repeat ≡ 1 = o k.touches k.partly in
          simp (inside_reaches s d y i j, eq-eqb s.repeat 1 r) (omega arith)
      go false d h o ih = omega (arith, ih h)

  -- so where 15 gets a yes, 16 does
  pub others-untouched : (ss : List Segment) → AllGood ss → Unshared ss → Singles a e ss
      → (not (any (span_inside a e) ss) || (length (keep (touched a e) ss) =? 1)) ≡ true
  others-untouched ss g u o = go (any (span_inside a e) ss) refl
    where
      go : (t : Bool) → any (span_inside a e) ss ≡ t → (not t || (length (keep (touched a e) ss) =? 1)) ≡ true
      go false d = refl
      go true d =
          eq-eqb (length (keep (touched a e) ss)) 1
          (length-keep (touched a e) ss ∙ one-touched ss g (λ y i j. u y (some-once ss o d y i j)) d)

-- Order 1: `overlaps` says yes exactly where a stored span holds an address of the range

pub overlaps-shares : (g : GuestAddr) (n : ℕ) (ss : List Segment) → AllGood ss → overlaps g n ss ≡ true
    → (y : GuestAddr) × (g.0 ≤ y.0) × (y.0 < (guest_up g n).0) × (1 ≤ count (reaches y) ss)
unfolding overlaps guest_up
overlaps-shares g n ss good h =
    let b = both (not (n =? 0)) (any (touched g (guest_up g n)) ss) h in
    let some : n ≡ 0 → ⊥ = λ z. true≢false (sym b.0 ∙ ap not (eq-eqb n 0 z)) in
    some-reached g (guest_up g n) (omega arith) ss good b.1

pub shares-overlaps : (g : GuestAddr) (n : ℕ) (ss : List Segment) (y : GuestAddr) → g.0 ≤ y.0 → y.0 < (guest_up g n).0
    → 1 ≤ count (reaches y) ss → overlaps g n ss ≡ true
unfolding guest_up
shares-overlaps g n ss y i j k = go (overlaps g n ss) refl
  where
    go : (t : Bool) → overlaps g n ss ≡ t → t ≡ true
    go true d = refl
    go false d =
        absurd (omega (arith, k, untouched g (guest_up g n) y ss i j (overlaps-untouched g n ss (omega arith) d)))
