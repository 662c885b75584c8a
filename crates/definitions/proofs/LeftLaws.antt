-- What an unmap leaves of each address. A host unmap: every address outside its range is covered by as many segments as before,
-- each of which puts it where it did and has its repeat; an address inside is covered by none. A guest unmap that passed 15:
-- to a guest address outside its range as many put each host address as before, and to one inside, none.
use Rattle.std.specs.Prelude.{if◌then◌else◌}
use Prim.Native.Nat.{ℕ, ◌+◌, ◌-◌, ◌*◌, ◌<◌, ◌≤◌}
use mathlib.Core.Path.{◌≡◌, refl, sym, ◌∙◌}
use mathlib.Core.Bool.{Bool, true, false, true≢false, and_assoc, ◌&&◌}
use mathlib.Core.List.{List, [], ◌∷◌, ◌++◌}
use native.Mathlib.Omega.{arith}
use native.Mathlib.Nat.{mul-le-mul_left}
use borrow.Author.Tests.{ltb-true, ltb-false, leb-true, leb-false, lt-ltb, le-ltb, lt-leb, eqb-true}
use Rattle.definitions.specs.Tests.{◌<?◌, ◌≤?◌, ◌=?◌, inside, bit, host_up, guest_up, count, each}
use Rattle.definitions.specs.Segments.{segment, host_end, covers, span_end, front, rest, cut_out, host_touched, host_parts, unmapped, touched, span_whole, span_parts, unmapped_gpa}
use Rattle.definitions.specs.Agreement.{aims}
use Rattle.definitions.specs.declared.addr.HostAddr.{HostAddr}
use Rattle.definitions.specs.declared.addr.GuestAddr.{GuestAddr}
use Rattle.definitions.specs.declared.remapper.Segment.{Segment}
use Rattle.definitions.proofs.Bools.{Where, inn, low, high, where?, in-true, in-low, in-high, in-empty, and-false, and-true, if-same, count-append, both}
use Rattle.definitions.proofs.SegmentLaws.{Good, AllGood, Single, single-end, Singles, singles}
use Rattle.definitions.proofs.GuestLaws.{reaches, count-place_all}

-- each segment's share goes by one test
count-each : (f : Segment → List Segment) (p : Segment → Bool) (b : Bool) → ((s : Segment) → count p (f s) ≡ (if b then 0 else bit (p s))) → (ss : List Segment)
    → count p (each f ss) ≡ (if b then 0 else count p ss)
count-each f p true h [] = refl
count-each f p false h [] = refl
count-each f p true h (s ∷ ss) = simp count-append (omega (arith, h s, count-each f p true h ss))
count-each f p false h (s ∷ ss) = simp count-append (omega (arith, h s, count-each f p false h ss))

-- The segments that cover x and pass a test of the guest address at which they put it, and of their repeat
module _ (x : HostAddr) (Q : ℕ → ℕ → Bool) where
  unfoldable pub shows : Segment → Bool
  shows s = covers s x && Q (s.gpa.0 + (x.0 - s.hpa.0)) s.repeat

  front-shows : (d : ℕ) (s : Segment)
      → count shows (if 1 ≤? d then front d s ∷ [] else []) ≡ bit (inside s.hpa.0 (s.hpa.0 + d) x.0 && Q (s.gpa.0 + (x.0 - s.hpa.0)) s.repeat)
  unfolding shows covers host_end front segment host_up
  front-shows d s = go (1 ≤? d) refl
    where
      go : (t : Bool) → (1 ≤? d) ≡ t
          → count shows (if t then front d s ∷ [] else []) ≡ bit (inside s.hpa.0 (s.hpa.0 + d) x.0 && Q (s.gpa.0 + (x.0 - s.hpa.0)) s.repeat)
      go true e = omega arith
      go false e = simp (in-empty s.hpa.0 (s.hpa.0 + d) x.0 (omega (arith, leb-false 1 d e)))

  rest-shows : (f : ℕ) (s : Segment)
      → count shows (if f <? s.size then rest f s ∷ [] else []) ≡ bit (inside (s.hpa.0 + f) (s.hpa.0 + s.size) x.0 && Q (s.gpa.0 + (x.0 - s.hpa.0)) s.repeat)
  unfolding shows covers host_end rest segment host_up guest_up
  rest-shows f s = go (f <? s.size) refl (where? (s.hpa.0 + f) (s.hpa.0 + f + (s.size - f)) x.0)
    where
      go : (t : Bool) → (f <? s.size) ≡ t → Where (s.hpa.0 + f) (s.hpa.0 + f + (s.size - f)) x.0
          → count shows (if t then rest f s ∷ [] else []) ≡ bit (inside (s.hpa.0 + f) (s.hpa.0 + s.size) x.0 && Q (s.gpa.0 + (x.0 - s.hpa.0)) s.repeat)
      go false e w = simp (in-empty (s.hpa.0 + f) (s.hpa.0 + s.size) x.0 (omega (arith, ltb-false f s.size e)))
      go true e (inn d i j) =
          let z : s.gpa.0 + f + (x.0 - (s.hpa.0 + f)) ≡ s.gpa.0 + (x.0 - s.hpa.0) = omega arith in
          simp (d, z, in-true (s.hpa.0 + f) (s.hpa.0 + s.size) x.0 (omega arith) (omega (arith, ltb-true f s.size e))) (omega arith)
      go true e (low d i) = simp (d, in-low (s.hpa.0 + f) (s.hpa.0 + s.size) x.0 (omega arith))
      go true e (high d i j) = simp (d, in-high (s.hpa.0 + f) (s.hpa.0 + s.size) x.0 (omega (arith, ltb-true f s.size e)))

  -- the addresses from the d-th up to the f-th go, and no others
  cut-shows : (d f : ℕ) (s : Segment) → d ≤ f → d ≤ s.size
      → count shows (cut_out d f s) ≡ (if inside (s.hpa.0 + d) (s.hpa.0 + f) x.0 then 0 else bit (shows s))
  unfolding cut_out shows covers host_end host_up
  cut-shows d f s p q =
      count-append shows (if 1 ≤? d then front d s ∷ [] else []) (if f <? s.size then rest f s ∷ [] else [])
      ∙ cc (front-shows d s, rest-shows f s)
      ∙ go (where? (s.hpa.0 + d) (s.hpa.0 + f) x.0) (where? s.hpa.0 (s.hpa.0 + s.size) x.0) (Q (s.gpa.0 + (x.0 - s.hpa.0)) s.repeat)
    where
      go : Where (s.hpa.0 + d) (s.hpa.0 + f) x.0 → Where s.hpa.0 (s.hpa.0 + s.size) x.0 → (b : Bool)
          → bit (inside s.hpa.0 (s.hpa.0 + d) x.0 && b) + bit (inside (s.hpa.0 + f) (s.hpa.0 + s.size) x.0 && b)
          ≡ (if inside (s.hpa.0 + d) (s.hpa.0 + f) x.0 then 0 else bit (inside s.hpa.0 (s.hpa.0 + s.size) x.0 && b))
      go (inn m i j) w b =
          simp (m, in-high s.hpa.0 (s.hpa.0 + d) x.0 i, in-low (s.hpa.0 + f) (s.hpa.0 + s.size) x.0 j) (omega arith)
      go (low m i) (inn n k l) b =
          simp (m, n, in-true s.hpa.0 (s.hpa.0 + d) x.0 k i, in-low (s.hpa.0 + f) (s.hpa.0 + s.size) x.0 (omega arith)) (omega arith)
      go (low m i) (low n k) b =
          simp (m, n, in-low s.hpa.0 (s.hpa.0 + d) x.0 k, in-low (s.hpa.0 + f) (s.hpa.0 + s.size) x.0 (omega arith)) (omega arith)
      go (low m i) (high n k l) b = absurd (omega arith)
      go (high m i j) (inn n k l) b =
          simp (m, n, in-high s.hpa.0 (s.hpa.0 + d) x.0 i, in-true (s.hpa.0 + f) (s.hpa.0 + s.size) x.0 j l) (omega arith)
      go (high m i j) (low n k) b = absurd (omega arith)
      go (high m i j) (high n k l) b =
          simp (m, n, in-high s.hpa.0 (s.hpa.0 + d) x.0 i, in-high (s.hpa.0 + f) (s.hpa.0 + s.size) x.0 l) (omega arith)

  -- what does not cover x does not show it
  hidden : (s : Segment) → inside s.hpa.0 (host_end s).0 x.0 ≡ false → (b c : Bool) → (if b then 0 else bit (shows s)) ≡ (if c then 0 else bit (shows s))
  unfolding shows covers
  hidden s f true true = refl
  hidden s f true false = simp f
  hidden s f false true = simp f
  hidden s f false false = refl

  -- `unmap_range`
  host-shows : (a e : HostAddr) (s : Segment) → a.0 ≤ e.0
      → count shows (host_parts a e s) ≡ (if inside a.0 e.0 x.0 then 0 else bit (shows s))
  unfolding host_parts host_touched host_end host_up
  host-shows a e s q = go (host_touched a e s) refl
    where
      -- at an address that is covered the range is the same, and nothing is shown at another
      same : s.hpa.0 < e.0 → Where a.0 e.0 x.0 → Where s.hpa.0 (host_end s).0 x.0
          → (if inside (s.hpa.0 + (a.0 - s.hpa.0)) (s.hpa.0 + (e.0 - s.hpa.0)) x.0 then 0 else bit (shows s))
          ≡ (if inside a.0 e.0 x.0 then 0 else bit (shows s))
      same l (inn d i j) (inn f k m) = simp (d, in-true (s.hpa.0 + (a.0 - s.hpa.0)) (s.hpa.0 + (e.0 - s.hpa.0)) x.0 (omega arith) (omega arith))
      same l (low d i) (inn f k m) = simp (d, in-low (s.hpa.0 + (a.0 - s.hpa.0)) (s.hpa.0 + (e.0 - s.hpa.0)) x.0 (omega arith))
      same l (high d i j) (inn f k m) = simp (d, in-high (s.hpa.0 + (a.0 - s.hpa.0)) (s.hpa.0 + (e.0 - s.hpa.0)) x.0 (omega arith))
      same l w (low f k) = hidden s f (inside (s.hpa.0 + (a.0 - s.hpa.0)) (s.hpa.0 + (e.0 - s.hpa.0)) x.0) (inside a.0 e.0 x.0)
      same l w (high f k m) = hidden s f (inside (s.hpa.0 + (a.0 - s.hpa.0)) (s.hpa.0 + (e.0 - s.hpa.0)) x.0) (inside a.0 e.0 x.0)

      alone : count shows (s ∷ []) ≡ (if false then 0 else bit (shows s))
      alone = omega arith

      -- one that is not touched covers no address of the range
      off : host_touched a e s ≡ false → Where a.0 e.0 x.0 → Where s.hpa.0 (host_end s).0 x.0
          → count shows (s ∷ []) ≡ (if inside a.0 e.0 x.0 then 0 else bit (shows s))
      off t (low d i) w = simp d (omega arith)
      off t (high d i j) w = simp d (omega arith)
      off t (inn d i j) (low f k) = alone ∙ hidden s f false (inside a.0 e.0 x.0)
      off t (inn d i j) (high f k m) = alone ∙ hidden s f false (inside a.0 e.0 x.0)
      off t (inn d i j) (inn f k m) =
          let met : ((a.0 <? s.hpa.0 + s.size) && (s.hpa.0 <? e.0)) ≡ true
          = simp (lt-ltb a.0 (s.hpa.0 + s.size) (omega arith), lt-ltb s.hpa.0 e.0 (omega arith)) in
          absurd (true≢false (sym met ∙ t))

      go : (t : Bool) → host_touched a e s ≡ t → count shows (host_parts a e s) ≡ (if inside a.0 e.0 x.0 then 0 else bit (shows s))
      go false d = simp d (off d (where? a.0 e.0 x.0) (where? s.hpa.0 (host_end s).0 x.0))
      go true d =
          let b = both (a.0 <? s.hpa.0 + s.size) (s.hpa.0 <? e.0) d in
          let i : a.0 < s.hpa.0 + s.size = ltb-true a.0 (s.hpa.0 + s.size) b.0 in
          let j : s.hpa.0 < e.0 = ltb-true s.hpa.0 e.0 b.1 in
          simp d (cut-shows (a.0 - s.hpa.0) (e.0 - s.hpa.0) s (omega arith) (omega arith) ∙ same j (where? a.0 e.0 x.0) (where? s.hpa.0 (host_end s).0 x.0))

  pub unmapped-shows : (h : HostAddr) (n : ℕ) (ss : List Segment)
      → count shows (unmapped h n ss) ≡ (if inside h.0 (h.0 + n) x.0 then 0 else count shows ss)
  unfolding unmapped host_up
  unmapped-shows h n ss = go (n =? 0) refl
    where
      go : (t : Bool) → (n =? 0) ≡ t → count shows (unmapped h n ss) ≡ (if inside h.0 (h.0 + n) x.0 then 0 else count shows ss)
      go true d = simp (d, in-empty h.0 (h.0 + n) x.0 (omega (arith, eqb-true n 0 d)))
      go false d =
          simp d (count-place_all shows (each (host_parts h (host_up h n)) ss) [] ∙ omega arith
          ∙ count-each (host_parts h (host_up h n)) shows (inside h.0 (h.0 + n) x.0) (λ s. host-shows h (host_up h n) s (omega arith)) ss)

-- as many segments cover x, and as many put it at y
pub unmapped-covers : (h : HostAddr) (n : ℕ) (ss : List Segment) (x : HostAddr)
    → count (λ s. covers s x) (unmapped h n ss) ≡ (if inside h.0 (h.0 + n) x.0 then 0 else count (λ s. covers s x) ss)
unfolding shows
unmapped-covers h n ss x =
    let p : count (λ s. covers s x && true) (unmapped h n ss) ≡ (if inside h.0 (h.0 + n) x.0 then 0 else count (λ s. covers s x && true) ss)
    = unmapped-shows x (λ y t. true) h n ss in
    simp and-true at p

pub unmapped-aims : (h : HostAddr) (n : ℕ) (ss : List Segment) (x : HostAddr) (y : GuestAddr)
    → count (aims x y) (unmapped h n ss) ≡ (if inside h.0 (h.0 + n) x.0 then 0 else count (aims x y) ss)
unfolding shows aims
unmapped-aims h n ss x y = unmapped-shows x (λ z t. z =? y.0) h n ss

-- with each repeat
pub unmapped-repeats : (h : HostAddr) (n : ℕ) (ss : List Segment) (x : HostAddr) (y : GuestAddr) (t : ℕ)
    → count (λ s. aims x y s && (s.repeat =? t)) (unmapped h n ss)
    ≡ (if inside h.0 (h.0 + n) x.0 then 0 else count (λ s. aims x y s && (s.repeat =? t)) ss)
unfolding shows aims
unmapped-repeats h n ss x y t = simp and_assoc (unmapped-shows x (λ z u. (z =? y.0) && (u =? t)) h n ss)

gone : (d f : ℕ) (s : Segment) → d ≡ 0 → s.size ≤ f → cut_out d f s ≡ []
unfolding cut_out
gone d f s z l = simp (lt-leb 1 d (omega arith), le-ltb f s.size l)

-- what covers a span covers the first copy
covered-size : (a e : GuestAddr) (s : Segment) → Good s → a.0 ≤ s.gpa.0 → (span_end s).0 ≤ e.0 → s.size ≤ e.0 - s.gpa.0
unfolding span_end guest_up
covered-size a e s g i j =
    let m : s.size * 1 ≤ s.size * s.repeat = mul-le-mul_left s.size g.times in omega arith

aimed-cut : (x : HostAddr) (y : GuestAddr) (d f : ℕ) (s : Segment) → d ≤ f → d ≤ s.size
    → count (aims x y) (cut_out d f s) ≡ (if inside (s.hpa.0 + d) (s.hpa.0 + f) x.0 then 0 else bit (aims x y s))
unfolding shows aims
aimed-cut x y d f s p q = cut-shows x (λ z t. z =? y.0) d f s p q

-- `unmap_gpa_range`: any test p that asks a segment with repeat 1 whether it puts x at y, and that only those pass which reach y
module _ (x : HostAddr) (y : GuestAddr) (p : Segment → Bool) (single : (s : Segment) → s.repeat ≡ 1 → p s ≡ aims x y s)
    (reach : (s : Segment) → Good s → p s ≡ true → reaches y s ≡ true) where
  -- the parts of a segment with repeat 1
  parts-aim : (d f : ℕ) (s : Segment) → s.repeat ≡ 1 → count p (cut_out d f s) ≡ count (aims x y) (cut_out d f s)
  unfolding cut_out front rest segment
  parts-aim d f s o = go (1 ≤? d) (f <? s.size)
    where
      go : (t u : Bool) → count p ((if t then front d s ∷ [] else []) ++ (if u then rest f s ∷ [] else []))
          ≡ count (aims x y) ((if t then front d s ∷ [] else []) ++ (if u then rest f s ∷ [] else []))
      go true true = cc (single (front d s) o, single (rest f s) o)
      go true false = cc (single (front d s) o)
      go false true = cc (single (rest f s) o)
      go false false = refl

  -- where x is put at y, the range of host addresses that goes has x exactly if the guest range has y
  moved : (a e : GuestAddr) (s : Segment) → s.gpa.0 < e.0
      → (if inside (s.hpa.0 + (a.0 - s.gpa.0)) (s.hpa.0 + (e.0 - s.gpa.0)) x.0 then 0 else bit (aims x y s))
      ≡ (if inside a.0 e.0 y.0 then 0 else bit (aims x y s))
  unfolding aims covers host_end host_up
  moved a e s l = go (where? s.hpa.0 (s.hpa.0 + s.size) x.0) (s.gpa.0 + (x.0 - s.hpa.0) =? y.0) refl (where? a.0 e.0 y.0)
    where
      either : (b c : Bool) → aims x y s ≡ false → (if b then 0 else bit (aims x y s)) ≡ (if c then 0 else bit (aims x y s))
      either true true h = refl
      either true false h = simp h
      either false true h = simp h
      either false false h = refl

      none : aims x y s ≡ false → (if inside (s.hpa.0 + (a.0 - s.gpa.0)) (s.hpa.0 + (e.0 - s.gpa.0)) x.0 then 0 else bit (aims x y s))
          ≡ (if inside a.0 e.0 y.0 then 0 else bit (aims x y s))
      none h = either (inside (s.hpa.0 + (a.0 - s.gpa.0)) (s.hpa.0 + (e.0 - s.gpa.0)) x.0) (inside a.0 e.0 y.0) h

      go : Where s.hpa.0 (s.hpa.0 + s.size) x.0 → (t : Bool) → (s.gpa.0 + (x.0 - s.hpa.0) =? y.0) ≡ t → Where a.0 e.0 y.0
          → (if inside (s.hpa.0 + (a.0 - s.gpa.0)) (s.hpa.0 + (e.0 - s.gpa.0)) x.0 then 0 else bit (aims x y s))
          ≡ (if inside a.0 e.0 y.0 then 0 else bit (aims x y s))
      go (low d i) t f w = none (simp d)
      go (high d i j) t f w = none (simp d)
      go (inn d i j) false f w = none (simp (f, and-false))
      go (inn d i j) true f (inn g k m) =
          let q : s.gpa.0 + (x.0 - s.hpa.0) ≡ y.0 = eqb-true (s.gpa.0 + (x.0 - s.hpa.0)) y.0 f in
          simp (g, in-true (s.hpa.0 + (a.0 - s.gpa.0)) (s.hpa.0 + (e.0 - s.gpa.0)) x.0 (omega arith) (omega arith))
      go (inn d i j) true f (low g k) =
          let q : s.gpa.0 + (x.0 - s.hpa.0) ≡ y.0 = eqb-true (s.gpa.0 + (x.0 - s.hpa.0)) y.0 f in
          simp (g, in-low (s.hpa.0 + (a.0 - s.gpa.0)) (s.hpa.0 + (e.0 - s.gpa.0)) x.0 (omega arith))
      go (inn d i j) true f (high g k m) =
          let q : s.gpa.0 + (x.0 - s.hpa.0) ≡ y.0 = eqb-true (s.gpa.0 + (x.0 - s.hpa.0)) y.0 f in
          simp (g, in-high (s.hpa.0 + (a.0 - s.gpa.0)) (s.hpa.0 + (e.0 - s.gpa.0)) x.0 (omega arith))

  -- what does not reach y does not pass
  beyond : (s : Segment) → Good s → reaches y s ≡ false → p s ≡ false
  beyond s g h = go (p s) refl
    where
      go : (t : Bool) → p s ≡ t → p s ≡ false
      go true d = absurd (true≢false (sym (reach s g d) ∙ h))
      go false d = d

  span-shows : (a e : GuestAddr) (s : Segment) → a.0 ≤ e.0 → Good s → Single a e s
      → count p (span_parts a e s) ≡ (if inside a.0 e.0 y.0 then 0 else bit (p s))
  unfolding span_parts touched span_whole reaches
  span-shows a e s q g o = go (touched a e s) refl (span_whole a e s) refl (where? a.0 e.0 y.0) (where? s.gpa.0 (span_end s).0 y.0)
    where
      both-met : touched a e s ≡ true → (a.0 < (span_end s).0) × (s.gpa.0 < e.0)
      both-met d =
          let b = both (a.0 <? (span_end s).0) (s.gpa.0 <? e.0) d in
          (ltb-true a.0 (span_end s).0 b.0, ltb-true s.gpa.0 e.0 b.1)

      -- wholly covered: nothing is left
      whole : touched a e s ≡ true → span_whole a e s ≡ true → cut_out (a.0 - s.gpa.0) (e.0 - s.gpa.0) s ≡ []
      whole d f =
          let c = both (a.0 ≤? s.gpa.0) ((span_end s).0 ≤? e.0) f in
          let i : a.0 ≤ s.gpa.0 = leb-true a.0 s.gpa.0 c.0 in
          let j : (span_end s).0 ≤ e.0 = leb-true (span_end s).0 e.0 c.1 in
          gone (a.0 - s.gpa.0) (e.0 - s.gpa.0) s (omega arith) (covered-size a e s g i j)

      go : (t : Bool) → touched a e s ≡ t → (w : Bool) → span_whole a e s ≡ w → Where a.0 e.0 y.0 → Where s.gpa.0 (span_end s).0 y.0
          → count p (span_parts a e s) ≡ (if inside a.0 e.0 y.0 then 0 else bit (p s))
      go false d w f (low h i) v = simp (d, h) (omega arith)
      go false d w f (high h i j) v = simp (d, h) (omega arith)
      go false d w f (inn h i j) (low k l) = simp (d, h, beyond s g k)
      go false d w f (inn h i j) (high k l m) = simp (d, h, beyond s g k)
      go false d w f (inn h i j) (inn k l m) =
          let met : ((a.0 <? (span_end s).0) && (s.gpa.0 <? e.0)) ≡ true
          = simp (lt-ltb a.0 (span_end s).0 (omega arith), lt-ltb s.gpa.0 e.0 (omega arith)) in
          absurd (true≢false (sym met ∙ d))
      go true d true f (inn h i j) v = simp (d, h, whole d f)
      go true d true f (low h i) (low k l) = simp (d, h, whole d f, beyond s g k)
      go true d true f (low h i) (high k l m) = simp (d, h, whole d f, beyond s g k)
      go true d true f (high h i j) (low k l) = simp (d, h, whole d f, beyond s g k)
      go true d true f (high h i j) (high k l m) = simp (d, h, whole d f, beyond s g k)
      go true d true f (low h i) (inn k l m) =
          let c = both (a.0 ≤? s.gpa.0) ((span_end s).0 ≤? e.0) f in
          absurd (omega (arith, leb-true a.0 s.gpa.0 c.0))
      go true d true f (high h i j) (inn k l m) =
          let c = both (a.0 ≤? s.gpa.0) ((span_end s).0 ≤? e.0) f in
          absurd (omega (arith, leb-true (span_end s).0 e.0 c.1))
      go true d false f w v =
          let r : s.repeat ≡ 1 = o d f in
          let end = single-end s r in
          let m = both-met d in
          simp (d, single s r) (
          parts-aim (a.0 - s.gpa.0) (e.0 - s.gpa.0) s r
          ∙ aimed-cut x y (a.0 - s.gpa.0) (e.0 - s.gpa.0) s (omega arith) (omega arith)
          ∙ moved a e s m.1)

  spans-show : (a e : GuestAddr) (ss : List Segment) → a.0 ≤ e.0 → AllGood ss → Singles a e ss
      → count p (each (span_parts a e) ss) ≡ (if inside a.0 e.0 y.0 then 0 else count p ss)
  spans-show a e [] q g o = sym (if-same (inside a.0 e.0 y.0) 0)
  spans-show a e (s ∷ ss) q g o =
      let r = singles a e s ss o in
      go (inside a.0 e.0 y.0) (span-shows a e s q g.0 r.0) (spans-show a e ss q g.1 r.1)
    where
      go : (t : Bool) → count p (span_parts a e s) ≡ (if t then 0 else bit (p s)) → count p (each (span_parts a e) ss) ≡ (if t then 0 else count p ss)
          → count p (each (span_parts a e) (s ∷ ss)) ≡ (if t then 0 else count p (s ∷ ss))
      go true h k = simp count-append (omega arith)
      go false h k = simp count-append (omega arith)

  pub unmapped_gpa-shows : (g : GuestAddr) (n : ℕ) (ss : List Segment) → AllGood ss → ((n =? 0) ≡ false → Singles g (guest_up g n) ss)
      → count p (unmapped_gpa g n ss) ≡ (if inside g.0 (g.0 + n) y.0 then 0 else count p ss)
  unfolding unmapped_gpa guest_up
  unmapped_gpa-shows g n ss h o = go (n =? 0) refl
    where
      go : (t : Bool) → (n =? 0) ≡ t → count p (unmapped_gpa g n ss) ≡ (if inside g.0 (g.0 + n) y.0 then 0 else count p ss)
      go true d = simp (d, in-empty g.0 (g.0 + n) y.0 (omega (arith, eqb-true n 0 d)))
      go false d =
          simp d (count-place_all p (each (span_parts g (guest_up g n)) ss) [] ∙ omega arith ∙ spans-show g (guest_up g n) ss (omega arith) h (o d))
