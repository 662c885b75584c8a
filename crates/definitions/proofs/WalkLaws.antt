-- What a cut leaves of a list in host order, as walks along a linked list can make it. What is left of a segment in its place
-- stays there; the parts behind the range, which are moved up, are put in before their equals, since the segments that were
-- there already came later. Of a host range these parts all begin at its end; of a guest range there is at most one.
use Rattle.std.specs.Prelude.{if◌then◌else◌}
use Prim.Native.Nat.{ℕ, ◌-◌, ◌<◌, ◌≤◌}
use mathlib.Core.Path.{◌≡◌, refl, sym, ap, ◌∙◌}
use mathlib.Core.Bool.{Bool, true, false}
use mathlib.Core.List.{List, [], ◌∷◌, ◌++◌, append_assoc}
use lib.ListN.{length, length-append}
use native.Mathlib.Omega.{arith}
use borrow.Author.Tests.{ltb-true, ltb-false, leb-true, leb-false, lt-ltb, le-ltb, lt-leb, eq-eqb}
use Rattle.definitions.specs.Tests.{◌<?◌, ◌≤?◌, bit, guest, count, host_up, all, each}
use Rattle.definitions.specs.Segments.{segment, host_end, span_end, in_order, place, front, rest, cut_out, host_touched, host_parts, touched, span_whole, span_parts, place_all}
use Rattle.definitions.specs.declared.addr.HostAddr.{HostAddr}
use Rattle.definitions.specs.declared.addr.GuestAddr.{GuestAddr}
use Rattle.definitions.specs.declared.remapper.Segment.{Segment}
use Rattle.definitions.proofs.Bools.{both, and-false, in-true}
use Rattle.definitions.proofs.SegmentLaws.{Good, AllGood, Single, Singles, singles}
use Rattle.definitions.proofs.GuestLaws.{reaches, once, Unshared, once-often, size_reaches}

-- Before its equals

unfoldable pub lead : Segment → List Segment → List Segment
lead s [] = s ∷ []
lead s (t ∷ ts) = if t.hpa.0 <? s.hpa.0 then t ∷ lead s ts else s ∷ t ∷ ts

-- each before its equals and those behind it
unfoldable pub lead_all : List Segment → List Segment → List Segment
lead_all [] ts = ts
lead_all (s ∷ ss) ts = lead s (lead_all ss ts)

-- one placed after its equals and one put before them can be done in either order
place-lead : (s t : Segment) (l : List Segment) → place s (lead t l) ≡ lead t (place s l)
unfolding place lead
place-lead s t [] = go (t.hpa.0 ≤? s.hpa.0) refl
  where
    go : (b : Bool) → (t.hpa.0 ≤? s.hpa.0) ≡ b → place s (lead t []) ≡ lead t (place s [])
    go true d = simp (d, le-ltb s.hpa.0 t.hpa.0 (leb-true t.hpa.0 s.hpa.0 d))
    go false d = simp (d, lt-ltb s.hpa.0 t.hpa.0 (leb-false t.hpa.0 s.hpa.0 d))
place-lead s t (k ∷ ks) = go (k.hpa.0 <? t.hpa.0) refl (k.hpa.0 ≤? s.hpa.0) refl (t.hpa.0 ≤? s.hpa.0) refl (place-lead s t ks)
  where
    go : (b : Bool) → (k.hpa.0 <? t.hpa.0) ≡ b → (c : Bool) → (k.hpa.0 ≤? s.hpa.0) ≡ c → (e : Bool) → (t.hpa.0 ≤? s.hpa.0) ≡ e
        → place s (lead t ks) ≡ lead t (place s ks) → place s (lead t (k ∷ ks)) ≡ lead t (place s (k ∷ ks))
    go true d true f e h ih = simp (d, f, ih)
    go true d false f e h ih =
        let i : k.hpa.0 < t.hpa.0 = ltb-true k.hpa.0 t.hpa.0 d in
        let j : s.hpa.0 < k.hpa.0 = leb-false k.hpa.0 s.hpa.0 f in
        simp (d, f, lt-ltb s.hpa.0 t.hpa.0 (omega arith))
    go false d true f true h ih = simp (d, f, h)
    go false d true f false h ih =
        let i : t.hpa.0 ≤ k.hpa.0 = ltb-false k.hpa.0 t.hpa.0 d in
        let j : k.hpa.0 ≤ s.hpa.0 = leb-true k.hpa.0 s.hpa.0 f in
        let m : s.hpa.0 < t.hpa.0 = leb-false t.hpa.0 s.hpa.0 h in absurd (omega arith)
    go false d false f true h ih =
        let i : t.hpa.0 ≤ s.hpa.0 = leb-true t.hpa.0 s.hpa.0 h in
        simp (d, f, h, le-ltb s.hpa.0 t.hpa.0 i)
    go false d false f false h ih =
        let i : s.hpa.0 < t.hpa.0 = leb-false t.hpa.0 s.hpa.0 h in
        simp (d, f, h, lt-ltb s.hpa.0 t.hpa.0 i)

place_all-lead : (xs : List Segment) (t : Segment) (l : List Segment) → place_all xs (lead t l) ≡ lead t (place_all xs l)
unfolding place_all
place_all-lead [] t l = refl
place_all-lead (x ∷ xs) t l = ap (place_all xs) (place-lead x t l) ∙ place_all-lead xs t (place x l)

-- placed one after another, from the first on, or put in from the last on: the same list
pub placed-led : (xs : List Segment) → place_all xs [] ≡ lead_all xs []
unfolding place_all lead_all place lead
placed-led [] = refl
placed-led (x ∷ xs) = place_all-lead xs x [] ∙ ap (lead x) (placed-led xs)

pub lead_all-append : (xs ys ts : List Segment) → lead_all (xs ++ ys) ts ≡ lead_all xs (lead_all ys ts)
unfolding lead_all
lead_all-append [] ys ts = refl
lead_all-append (x ∷ xs) ys ts = ap (lead x) (lead_all-append xs ys ts)

-- Where they go

abbrev pub Every : (Segment → Type 0) → List Segment → Type 0
Every P [] = Unit {0}
Every P (s ∷ ss) = P s × Every P ss

pub every_more : (P Q : Segment → Type 0) → ((s : Segment) → P s → Q s) → (ss : List Segment) → Every P ss → Every Q ss
every_more P Q f [] h = tt
every_more P Q f (s ∷ ss) h = (f s h.0, every_more P Q f ss h.1)

pub every_append : (P : Segment → Type 0) (xs ys : List Segment) → Every P xs → Every P ys → Every P (xs ++ ys)
every_append P [] ys h k = k
every_append P (x ∷ xs) ys h k = (h.0, every_append P xs ys h.1 k)

every-lead : (P : Segment → Type 0) (s : Segment) (ts : List Segment) → P s → Every P ts → Every P (lead s ts)
unfolding lead
every-lead P s [] h k = (h, tt)
every-lead P s (t ∷ ts) h k = go (t.hpa.0 <? s.hpa.0) refl (every-lead P s ts h k.1)
  where
    go : (b : Bool) → (t.hpa.0 <? s.hpa.0) ≡ b → Every P (lead s ts) → Every P (lead s (t ∷ ts))
    go true d ih = simp d (k.0, ih)
    go false d ih = simp d (h, k)

every-lead_all : (P : Segment → Type 0) (ss ts : List Segment) → Every P ss → Every P ts → Every P (lead_all ss ts)
unfolding lead_all
every-lead_all P [] ts h k = k
every-lead_all P (s ∷ ss) ts h k = every-lead P s (lead_all ss ts) h.0 (every-lead_all P ss ts h.1 k)

-- in front of what is not below it, behind what is
pub lead-first : (s : Segment) (ts : List Segment) → Every (λ t. s.hpa.0 ≤ t.hpa.0) ts → lead s ts ≡ s ∷ ts
unfolding lead
lead-first s [] h = refl
lead-first s (t ∷ ts) h = simp (le-ltb t.hpa.0 s.hpa.0 h.0)

pub lead-past : (s : Segment) (xs ts : List Segment) → Every (λ t. t.hpa.0 < s.hpa.0) xs → lead s (xs ++ ts) ≡ xs ++ lead s ts
unfolding lead
lead-past s [] ts h = refl
lead-past s (x ∷ xs) ts h = simp (lt-ltb x.hpa.0 s.hpa.0 h.0) (ap (λ l. x ∷ l) (lead-past s xs ts h.1))

-- a bound n between them
pub leads-first : (n : ℕ) (ss ts : List Segment) → Every (λ s. s.hpa.0 ≡ n) ss → Every (λ t. n ≤ t.hpa.0) ts → lead_all ss ts ≡ ss ++ ts
unfolding lead_all
leads-first n [] ts h k = refl
leads-first n (s ∷ ss) ts h k =
    ap (lead s) (leads-first n ss ts h.1 k)
    ∙ lead-first s (ss ++ ts) (every_append _ ss ts (every_more _ _ (λ t e. omega (arith, h.0, e)) ss h.1) (every_more _ _ (λ t l. omega (arith, h.0, l)) ts k))

pub leads-past : (n : ℕ) (ss xs ts : List Segment) → Every (λ s. n < s.hpa.0) ss → Every (λ t. t.hpa.0 ≤ n) xs
    → lead_all ss (xs ++ ts) ≡ xs ++ lead_all ss ts
unfolding lead_all
leads-past n [] xs ts h k = refl
leads-past n (s ∷ ss) xs ts h k =
    ap (lead s) (leads-past n ss xs ts h.1 k) ∙ lead-past s xs (lead_all ss ts) (every_more _ _ (λ t l. omega (arith, h.0, l)) xs k)

-- all at n: behind what is below it, in front of what is not
pub leads-between : (n : ℕ) (ss xs ts : List Segment) → Every (λ s. s.hpa.0 ≡ n) ss → Every (λ t. t.hpa.0 < n) xs → Every (λ t. n ≤ t.hpa.0) ts
    → lead_all ss (xs ++ ts) ≡ xs ++ (ss ++ ts)
unfolding lead_all
leads-between n [] xs ts h k j = refl
leads-between n (s ∷ ss) xs ts h k j =
    ap (lead s) (leads-between n ss xs ts h.1 k j)
    ∙ lead-past s xs (ss ++ ts) (every_more _ _ (λ t l. omega (arith, h.0, l)) xs k)
    ∙ ap (λ l. xs ++ l) (lead-first s (ss ++ ts) (every_append _ ss ts (every_more _ _ (λ t e. omega (arith, h.0, e)) ss h.1) (every_more _ _ (λ t l. omega (arith, h.0, l)) ts j)))

-- as facts of numbers
ordered-every : (n : ℕ) (ss : List Segment) → all (λ t. n ≤? t.hpa.0) ss ≡ true → Every (λ t. n ≤ t.hpa.0) ss
ordered-every n [] h = tt
ordered-every n (s ∷ ss) h =
    let b = both (n ≤? s.hpa.0) (all (λ t. n ≤? t.hpa.0) ss) h in
    (leb-true n s.hpa.0 b.0, ordered-every n ss b.1)

pub each_append : (f : Segment → List Segment) (xs ys : List Segment) → each f (xs ++ ys) ≡ each f xs ++ each f ys
each_append f [] ys = refl
each_append f (x ∷ xs) ys = ap (λ l. f x ++ l) (each_append f xs ys) ∙ sym (append_assoc (f x) (each f xs) (each f ys))

each-ext : (f g : Segment → List Segment) → ((s : Segment) → f s ≡ g s) → (ss : List Segment) → each f ss ≡ each g ss
each-ext f g h [] = refl
each-ext f g h (s ∷ ss) = cc (h s, each-ext f g h ss)

pub every-each : (P : Segment → Type 0) (f : Segment → List Segment) → ((s : Segment) → Every P (f s)) → (ss : List Segment) → Every P (each f ss)
every-each P f h [] = tt
every-each P f h (s ∷ ss) = every_append P (f s) (each f ss) (h s) (every-each P f h ss)

-- no host address is below one before it
abbrev pub Rising : List Segment → Type 0
Rising [] = Unit {0}
Rising (s ∷ ss) = Every (λ t. s.hpa.0 ≤ t.hpa.0) ss × Rising ss

rising-append : (n : ℕ) (xs ys : List Segment) → Every (λ u. u.hpa.0 ≡ n) xs → Every (λ u. n ≤ u.hpa.0) ys → Rising ys → Rising (xs ++ ys)
rising-append n [] ys h k r = r
rising-append n (x ∷ xs) ys h k r =
    (every_append _ xs ys (every_more _ _ (λ u e. omega (arith, h.0, e)) xs h.1) (every_more _ _ (λ u l. omega (arith, h.0, l)) ys k), rising-append n xs ys h.1 k r)

-- Each segment leaves a part in its place, and one that is moved up
module _ (left : Segment → List Segment) (stays : (s : Segment) → Every (λ u. u.hpa.0 ≡ s.hpa.0) (left s)) where
  lefts-from : (n : ℕ) (ss : List Segment) → Every (λ t. n ≤ t.hpa.0) ss → Every (λ u. n ≤ u.hpa.0) (each left ss)
  lefts-from n [] h = tt
  lefts-from n (s ∷ ss) h =
      every_append _ (left s) (each left ss) (every_more _ _ (λ u e. omega (arith, e, h.0)) (left s) (stays s)) (lefts-from n ss h.1)

  pub lefts-rising : (ss : List Segment) → in_order ss ≡ true → Rising (each left ss)
  unfolding in_order
  lefts-rising [] o = tt
  lefts-rising (s ∷ ss) o =
      let b = both (all (λ t. s.hpa.0 ≤? t.hpa.0) ss) (in_order ss) o in
      rising-append s.hpa.0 (left s) (each left ss) (stays s) (lefts-from s.hpa.0 ss (ordered-every s.hpa.0 ss b.0)) (lefts-rising ss b.1)

module _ (left rear : Segment → List Segment) (stays : (s : Segment) → Every (λ u. u.hpa.0 ≡ s.hpa.0) (left s))
    (moves : (s : Segment) → Every (λ u. s.hpa.0 < u.hpa.0) (rear s)) where
  rears-past : (n : ℕ) (ss : List Segment) → Every (λ t. n ≤ t.hpa.0) ss → Every (λ u. n < u.hpa.0) (each rear ss)
  rears-past n [] h = tt
  rears-past n (s ∷ ss) h =
      every_append _ (rear s) (each rear ss) (every_more _ _ (λ u l. omega (arith, l, h.0)) (rear s) (moves s)) (rears-past n ss h.1)

  led : (ss : List Segment) → in_order ss ≡ true → lead_all (each (λ s. left s ++ rear s) ss) [] ≡ lead_all (each rear ss) (each left ss)
  unfolding in_order
  led [] o = refl
  led (s ∷ ss) o =
      let b = both (all (λ t. s.hpa.0 ≤? t.hpa.0) ss) (in_order ss) o in
      let later = ordered-every s.hpa.0 ss b.0 in
      let R = each rear ss in
      let L = each left ss in
      let up : Every (λ u. s.hpa.0 < u.hpa.0) (rear s ++ R) = every_append _ (rear s) R (moves s) (rears-past s.hpa.0 ss later) in
      lead_all-append (left s ++ rear s) (each (λ s. left s ++ rear s) ss) []
      ∙ lead_all-append (left s) (rear s) (lead_all (each (λ s. left s ++ rear s) ss) [])
      ∙ ap (λ l. lead_all (left s) (lead_all (rear s) l)) (led ss b.1)
      ∙ ap (lead_all (left s)) (sym (lead_all-append (rear s) R L))
      ∙ leads-first s.hpa.0 (left s) (lead_all (rear s ++ R) L) (stays s)
      (every-lead_all _ (rear s ++ R) L (every_more _ _ (λ u l. omega (arith, l)) (rear s ++ R) up) (lefts-from left stays s.hpa.0 ss later))
      ∙ sym (leads-past s.hpa.0 (rear s ++ R) (left s) L up (every_more _ _ (λ u e. omega (arith, e)) (left s) (stays s)))

  pub cut-led : (f : Segment → List Segment) → ((s : Segment) → f s ≡ left s ++ rear s) → (ss : List Segment) → in_order ss ≡ true
      → place_all (each f ss) [] ≡ lead_all (each rear ss) (each left ss)
  cut-led f h ss o = placed-led (each f ss) ∙ ap (λ l. lead_all l []) (each-ext f (λ s. left s ++ rear s) h ss) ∙ led ss o

-- One segment, touched or not: what stays in its place, what is moved up

unfoldable pub left_in : Bool → ℕ → Segment → List Segment
left_in t d s = if t then (if 1 ≤? d then front d s ∷ [] else []) else s ∷ []

unfoldable pub rear_in : Bool → ℕ → Segment → List Segment
rear_in t f s = if t then (if f <? s.size then rest f s ∷ [] else []) else []

left-rear : (t : Bool) (d f : ℕ) (s : Segment) → (if t then cut_out d f s else s ∷ []) ≡ left_in t d s ++ rear_in t f s
unfolding cut_out left_in rear_in
left-rear true d f s = refl
left-rear false d f s = refl

pub left-stays : (t : Bool) (d : ℕ) (s : Segment) → Every (λ u. u.hpa.0 ≡ s.hpa.0) (left_in t d s)
unfolding left_in front segment
left-stays false d s = (refl, tt)
left-stays true d s = go (1 ≤? d)
  where
    go : (b : Bool) → Every (λ u. u.hpa.0 ≡ s.hpa.0) (if b then front d s ∷ [] else [])
    go true = (refl, tt)
    go false = tt

-- the moved part begins f addresses up
rear-at : (t : Bool) (f : ℕ) (s : Segment) (P : Segment → Type 0) → (t ≡ true → P (rest f s)) → Every P (rear_in t f s)
unfolding rear_in
rear-at false f s P h = tt
rear-at true f s P h = go (f <? s.size)
  where
    go : (b : Bool) → Every P (if b then rest f s ∷ [] else [])
    go true = (h refl, tt)
    go false = tt

-- `unmap_range`

unfoldable pub host_left : HostAddr → HostAddr → Segment → List Segment
host_left a e s = left_in (host_touched a e s) (a.0 - s.hpa.0) s

unfoldable pub host_rear : HostAddr → HostAddr → Segment → List Segment
host_rear a e s = rear_in (host_touched a e s) (e.0 - s.hpa.0) s

-- `unmap_gpa_range`

unfoldable pub span_left : GuestAddr → GuestAddr → Segment → List Segment
span_left a e s = left_in (touched a e s) (a.0 - s.gpa.0) s

unfoldable pub span_rear : GuestAddr → GuestAddr → Segment → List Segment
span_rear a e s = rear_in (touched a e s) (e.0 - s.gpa.0) s

module _ (a e : HostAddr) where
  host-past : (s : Segment) → Every (λ u. s.hpa.0 < u.hpa.0) (host_rear a e s)
  unfolding host_rear host_touched rest segment host_up
  host-past s =
      rear-at (host_touched a e s) (e.0 - s.hpa.0) s (λ u. s.hpa.0 < u.hpa.0)
      (λ d. omega (arith, ltb-true s.hpa.0 e.0 (both (a.0 <? (host_end s).0) (s.hpa.0 <? e.0) d).1))

  -- all moved parts begin at the range's end
  pub host-at : (s : Segment) → Every (λ u. u.hpa.0 ≡ e.0) (host_rear a e s)
  unfolding host_rear host_touched rest segment host_up
  host-at s =
      rear-at (host_touched a e s) (e.0 - s.hpa.0) s (λ u. u.hpa.0 ≡ e.0)
      (λ d. omega (arith, ltb-true s.hpa.0 e.0 (both (a.0 <? (host_end s).0) (s.hpa.0 <? e.0) d).1))

  host-lefts : (s : Segment) → Every (λ u. u.hpa.0 ≡ s.hpa.0) (host_left a e s)
  unfolding host_left
  host-lefts s = left-stays (host_touched a e s) (a.0 - s.hpa.0) s

  pub host-led : (ss : List Segment) → in_order ss ≡ true
      → place_all (each (host_parts a e) ss) [] ≡ lead_all (each (host_rear a e) ss) (each (host_left a e) ss)
  unfolding host_parts host_left host_rear
  host-led = cut-led (host_left a e) (host_rear a e) host-lefts host-past (host_parts a e) (λ s. left-rear (host_touched a e s) (a.0 - s.hpa.0) (e.0 - s.hpa.0) s)

module _ (a e : GuestAddr) where
  span-past : (s : Segment) → Every (λ u. s.hpa.0 < u.hpa.0) (span_rear a e s)
  unfolding span_rear touched rest segment host_up
  span-past s =
      rear-at (touched a e s) (e.0 - s.gpa.0) s (λ u. s.hpa.0 < u.hpa.0)
      (λ d. omega (arith, ltb-true s.gpa.0 e.0 (both (a.0 <? (span_end s).0) (s.gpa.0 <? e.0) d).1))

  pub span-led : (ss : List Segment) → in_order ss ≡ true
      → place_all (each (span_parts a e) ss) [] ≡ lead_all (each (span_rear a e) ss) (each (span_left a e) ss)
  unfolding span_parts span_left span_rear
  span-led =
      cut-led (span_left a e) (span_rear a e) (λ s. left-stays (touched a e s) (a.0 - s.gpa.0) s) span-past (span_parts a e)
      (λ s. left-rear (touched a e s) (a.0 - s.gpa.0) (e.0 - s.gpa.0) s)

-- A guest range, after question 15: at most one part is moved up, since each segment that leaves one has repeat 1 and reaches
-- the range's last address
module _ (a e : GuestAddr) (l : a.0 < e.0) where
  last : GuestAddr
  last = guest (e.0 - 1)

  rear-reaches : (s : Segment) → Good s → Single a e s → length (span_rear a e s) ≤ bit (once last s)
  unfolding last span_rear rear_in touched span_whole once reaches guest
  rear-reaches s g o = go (touched a e s) refl (e.0 - s.gpa.0 <? s.size) refl
    where
      go : (t : Bool) → touched a e s ≡ t → (u : Bool) → (e.0 - s.gpa.0 <? s.size) ≡ u → length (span_rear a e s) ≤ bit (once last s)
      go false d u f = simp d (omega arith)
      go true d false f = simp (d, f) (omega arith)
      go true d true f =
          let b = both (a.0 <? (span_end s).0) (s.gpa.0 <? e.0) d in
          let j : s.gpa.0 < e.0 = ltb-true s.gpa.0 e.0 b.1 in
          let k : e.0 - s.gpa.0 < s.size = ltb-true (e.0 - s.gpa.0) s.size f in
          let m : e.0 < (span_end s).0 = size_reaches s g (omega arith) in
          let part : span_whole a e s ≡ false = simp (lt-leb (span_end s).0 e.0 m, and-false) in
          simp (d, f, in-true s.gpa.0 (span_end s).0 (e.0 - 1) (omega arith) (omega arith), eq-eqb s.repeat 1 (o d part)) (omega arith)

  rears-reach : (ss : List Segment) → AllGood ss → Singles a e ss → length (each (span_rear a e) ss) ≤ count (once last) ss
  rears-reach [] g o = omega arith
  rears-reach (s ∷ ss) g o =
      let p = singles a e s ss o in
      omega (arith, length-append (span_rear a e s) (each (span_rear a e) ss), rear-reaches s g.0 p.0, rears-reach ss g.1 p.1)

  pub one-rear : (ss : List Segment) → AllGood ss → Unshared ss → Singles a e ss → length (each (span_rear a e) ss) ≤ 1
  one-rear ss g u o = go (1 ≤? count (once last) ss) refl
    where
      go : (t : Bool) → (1 ≤? count (once last) ss) ≡ t → length (each (span_rear a e) ss) ≤ 1
      go false d = omega (arith, leb-false 1 (count (once last) ss) d, rears-reach ss g o)
      go true d = omega (arith, u last (leb-true 1 (count (once last) ss) d), once-often last ss, rears-reach ss g o)
