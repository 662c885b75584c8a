-- What the stream says of one address: it agrees with the reckoning there.
use Rattle.std.specs.Prelude.{if◌then◌else◌}
use Prim.Native.Nat.{ℕ, ◌+◌, ◌-◌, ◌*◌, ◌^◌, ◌<◌, ◌≤◌, min, max}
use mathlib.Core.Path.{◌≡◌, refl, sym, ap, ◌∙◌}
use mathlib.Core.Bool.{Bool, true, false, true≢false, and_assoc, not, ◌&&◌}
use mathlib.Core.List.{List, [], ◌∷◌, map}
use native.Mathlib.Omega.{arith}
use borrow.Author.Tests.{ltb-true, ltb-false, lt-ltb, le-leb, lt-leb, eqb-true, eqb-false, eq-eqb, ne_eqb}
use Rattle.definitions.specs.Tests.{◌<?◌, ◌≤?◌, ◌=?◌, inside, bit, host, guest, guest_up, any, count, keep, each}
use Rattle.definitions.specs.Values.{nothing, held, rights_of}
use Rattle.definitions.specs.Regions.{has, meets, regions}
use Rattle.definitions.specs.Segments.{covers, host_end}
use Rattle.definitions.specs.Stream.{shared_part, segment_yields, uncovered_in, uncovered, identity, merge, stream}
use Rattle.definitions.specs.Reckoning.{Compartment}
use Rattle.definitions.specs.Agreement.{contains, puts, aims, maps1to1, AgreesAt}
use Rattle.definitions.specs.declared.addr.HostAddr.{HostAddr}
use Rattle.definitions.specs.declared.addr.GuestAddr.{GuestAddr}
use Rattle.definitions.specs.declared.region.Values.{Values}
use Rattle.definitions.specs.declared.region.Region.{Region}
use Rattle.definitions.specs.declared.remapper.Segment.{Segment}
use Rattle.definitions.specs.declared.remapper.Mapping.{Mapping}
use Rattle.definitions.proofs.Bools.{Where, inn, low, high, where?, in-true, in-low, in-high, in-ext, in-not, count_none, if-same, and-true, and-false, count-append, count-ext, count-parts, count_map}
use Rattle.definitions.proofs.Lists.{values_at, Ordered, AllHeld, Blank}
use Rattle.definitions.proofs.RunLaws.{regions-runs, regions-values}
use Rattle.definitions.proofs.UncoveredLaws.{uncovered-runs, run-values}

-- what a test leaves out that fails anyway
count-keep : {A : Type 0} (p t : A → Bool) → ((a : A) → t a ≡ false → p a ≡ false) → (xs : List A)
    → count p (keep t xs) ≡ count p xs
count-keep p t h [] = refl
count-keep p t h (a ∷ xs) = go (t a) refl (count-keep p t h xs)
  where
    go : (b : Bool) → t a ≡ b → count p (keep t xs) ≡ count p xs → count p (keep t (a ∷ xs)) ≡ count p (a ∷ xs)
    go true e ih = simp (e, ih)
    go false e ih = simp (e, h a e) (omega arith)

-- a test that is the same for all
count-and : {A : Type 0} (b : Bool) (p : A → Bool) (xs : List A) → count (λ a. b && p a) xs ≡ bit b * count p xs
count-and true p xs = omega arith
count-and false p [] = refl
count-and false p (a ∷ xs) = omega (arith, count-and false p xs)

opposite : (a b : ℕ) → (b ≤? a) ≡ not (a <? b)
opposite a b = go (a <? b) refl
  where
    go : (t : Bool) → (a <? b) ≡ t → (b ≤? a) ≡ not (a <? b)
    go true e = rw e (lt-leb b a (ltb-true a b e))
    go false e = rw e (le-leb b a (ltb-false a b e))

-- the runs and the segments' mappings share the stream out
merge-count : (p : Mapping → Bool) (rs runs : List Region) (ss : List Segment)
    → count p (merge rs runs ss) ≡ count p (map identity runs) + count p (each (segment_yields rs) ss)
unfolding merge
merge-count p rs runs [] = omega arith
merge-count p rs runs (s ∷ ss) =
    let lo : List Region = keep (λ r. r.start.0 <? s.hpa.0) runs in
    let hi : List Region = keep (λ r. s.hpa.0 ≤? r.start.0) runs in
    let parts : count (λ r. p (identity r)) lo + count (λ r. p (identity r)) hi ≡ count (λ r. p (identity r)) runs
    = count-parts (λ r. p (identity r)) (λ r. r.start.0 <? s.hpa.0) (λ r. s.hpa.0 ≤? r.start.0)
    (λ r. opposite r.start.0 s.hpa.0) runs in
    simp (count-append, count_map) (omega (arith, parts, merge-count p rs hi ss, count_map p identity hi))

-- the region contains x, and its values pass R
unfoldable pub marks : HostAddr → (Values → Bool) → Region → Bool
marks x R r = has r x && R r.values

-- at most one region of a table contains x, and its values are x's
none_below : (x : HostAddr) (R : Values → Bool) (lo : ℕ) (rs : List Region) → Ordered lo rs → x.0 < lo → count (marks x R) rs ≡ 0
unfolding marks has
none_below x R lo [] o h = refl
none_below x R lo (r ∷ rs) o h =
    simp (in-low r.start.0 r.end.0 x.0 (omega arith))
    (omega (arith, none_below x R r.end.0 rs o.2 (omega arith)))

pub count_held : (x : HostAddr) (R : Values → Bool) (lo : ℕ) (rs : List Region) → Ordered lo rs → AllHeld rs
    → count (marks x R) rs ≡ bit (held (values_at rs x) && R (values_at rs x))
unfolding marks has values_at held nothing
count_held x R lo [] o f = refl
count_held x R lo (r ∷ rs) o f = go (where? r.start.0 r.end.0 x.0) (count_held x R r.end.0 rs o.2 f.1) f.0
  where
    go : Where r.start.0 r.end.0 x.0 → count (marks x R) rs ≡ bit (held (values_at rs x) && R (values_at rs x))
        → held r.values ≡ true
        → count (marks x R) (r ∷ rs) ≡ bit (held (values_at (r ∷ rs) x) && R (values_at (r ∷ rs) x))
    go (inn e i j) ih h = simp (e, h) (omega (arith, none_below x R r.end.0 rs o.2 (omega arith)))
    go (low e i) ih h = simp e (omega (arith, ih))
    go (high e i j) ih h = simp e (omega (arith, ih))

-- of a held region the runs contain what no segment covers
module _ (x : HostAddr) (small : x.0 < 2 ^ 64) (R : Values → Bool) (ss : List Segment) where
  count-run : (r : Region) → held r.values ≡ true
      → count (marks x R) (regions (uncovered_in ss r)) ≡ bit (marks x R r) * bit (not (any (λ s. covers s x) ss))
  unfolding marks uncovered_in held nothing
  count-run r h =
      count_held x R 0 (regions (uncovered_in ss r)) (uncovered-runs ss r).ordered (uncovered-runs ss r).full
      ∙ rw (run-values ss r h x small) (go (has r x) (not (any (λ s. covers s x) ss)) h)
    where
      go : (b c : Bool) → held r.values ≡ true
          → bit (held (if b && c then r.values else nothing) && R (if b && c then r.values else nothing)) ≡ bit (b && R r.values) * bit c
      go true true e = simp e (omega arith)
      go true false e = omega arith
      go false c e = omega arith

  count-uncovered : (rs : List Region) → AllHeld rs
      → count (marks x R) (uncovered ss rs) ≡ count (marks x R) rs * bit (not (any (λ s. covers s x) ss))
  unfolding uncovered
  count-uncovered [] f = omega arith
  count-uncovered (r ∷ rs) f = simp count-append (omega (arith, count-run r f.0, count-uncovered rs f.1))

contains-identity : (x : HostAddr) (r : Region) → contains x (identity r) ≡ has r x
unfolding contains identity has
contains-identity x r =
    in-ext r.start.0 (r.start.0 + (r.end.0 - r.start.0)) r.start.0 r.end.0 x.0 (omega arith) (omega arith)

in-shared : (a e b f x : ℕ) → inside (max a b) (max a b + (min e f - max a b)) x ≡ (inside a e x && inside b f x)
in-shared a e b f x = go (where? a e x) (where? b f x)
  where
    go : Where a e x → Where b f x → inside (max a b) (max a b + (min e f - max a b)) x ≡ (inside a e x && inside b f x)
    go (inn p i j) (inn q k l) = simp (p, q) (in-true _ _ x (omega arith) (omega arith))
    go (inn p i j) (low q k) = simp (q, and-false) (in-low _ _ x (omega arith))
    go (inn p i j) (high q k l) = simp (q, and-false) (in-high _ _ x (omega arith))
    go (low p i) w = simp p (in-not _ _ x (omega arith))
    go (high p i j) w = simp p (in-not _ _ x (omega arith))

contains-shared : (x : HostAddr) (s : Segment) (r : Region) → contains x (shared_part s r) ≡ (covers s x && has r x)
unfolding contains shared_part covers has host
contains-shared x s r = in-shared s.hpa.0 (host_end s).0 r.start.0 r.end.0 x.0

meets-true : (a e : HostAddr) (r : Region) → a.0 < r.end.0 → r.start.0 < e.0 → meets a e r ≡ true
unfolding meets
meets-true a e r p q = simp (lt-ltb _ _ p, lt-ltb _ _ q)

-- A test q of the mappings that contain x: of an identity mapping it goes by the values of the region, of a segment's
-- mapping by these and the segment.
module _ (x : HostAddr) (q : Mapping → Bool) (I : Bool) (Q : Segment → Bool) (R : Values → Bool)
    (on_run : (r : Region) → r.start.0 ≤ x.0 → q (identity r) ≡ (I && R r.values))
    (on_share : (s : Segment) (r : Region) → s.hpa.0 ≤ x.0 → r.start.0 ≤ x.0 → q (shared_part s r) ≡ (Q s && R r.values)) where
  passes : Mapping → Bool
  passes m = contains x m && q m

  run-passes : (r : Region) → passes (identity r) ≡ (I && marks x R r)
  unfolding passes marks has
  run-passes r = rw (contains-identity x r) (go I (where? r.start.0 r.end.0 x.0) (on_run r))
    where
      go : (i : Bool) → Where r.start.0 r.end.0 x.0 → (r.start.0 ≤ x.0 → q (identity r) ≡ (i && R r.values))
          → (has r x && q (identity r)) ≡ (i && (has r x && R r.values))
      go i (inn e l k) h = simp e (h l)
      go i (low e l) h = simp (e, and-false)
      go i (high e l k) h = simp (e, and-false)

  share-passes : (s : Segment) (r : Region) → passes (shared_part s r) ≡ ((covers s x && Q s) && marks x R r)
  unfolding passes marks has covers
  share-passes s r =
      rw (contains-shared x s r) (go (where? s.hpa.0 (host_end s).0 x.0) (where? r.start.0 r.end.0 x.0) (on_share s r))
    where
      go : Where s.hpa.0 (host_end s).0 x.0 → Where r.start.0 r.end.0 x.0
          → (s.hpa.0 ≤ x.0 → r.start.0 ≤ x.0 → q (shared_part s r) ≡ (Q s && R r.values))
          → ((covers s x && has r x) && q (shared_part s r)) ≡ ((covers s x && Q s) && (has r x && R r.values))
      go (inn u i j) (inn v k l) h = simp (u, v) (h i k)
      go (inn u i j) (low v k) h = simp (u, v, and-false)
      go (inn u i j) (high v k l) h = simp (u, v, and-false)
      go (low u i) w h = simp u
      go (high u i j) w h = simp u

  -- a region that the segment does not meet shares no address with it
  apart : (s : Segment) (r : Region) → meets s.hpa (host_end s) r ≡ false → passes (shared_part s r) ≡ false
  unfolding passes has covers
  apart s r e = rw (contains-shared x s r) (go (where? s.hpa.0 (host_end s).0 x.0) (where? r.start.0 r.end.0 x.0))
    where
      go : Where s.hpa.0 (host_end s).0 x.0 → Where r.start.0 r.end.0 x.0
          → ((covers s x && has r x) && q (shared_part s r)) ≡ false
      go (inn u i j) (inn v k l) = absurd (true≢false (sym (meets-true s.hpa (host_end s) r (omega arith) (omega arith)) ∙ e))
      go (inn u i j) (low v k) = simp (u, v)
      go (inn u i j) (high v k l) = simp (u, v)
      go (low u i) w = simp u
      go (high u i j) w = simp u

  count-yields : (rs : List Region) (s : Segment) → count passes (segment_yields rs s) ≡ bit (covers s x && Q s) * count (marks x R) rs
  unfolding segment_yields
  count-yields rs s =
      count_map passes (shared_part s) (keep (meets s.hpa (host_end s)) rs)
      ∙ count-keep (λ r. passes (shared_part s r)) (meets s.hpa (host_end s)) (apart s) rs
      ∙ count-ext (λ r. passes (shared_part s r)) (λ r. (covers s x && Q s) && marks x R r) (share-passes s) rs
      ∙ count-and (covers s x && Q s) (marks x R) rs

  all-yields : (rs : List Region) (ss : List Segment)
      → count passes (each (segment_yields rs) ss) ≡ count (λ s. covers s x && Q s) ss * count (marks x R) rs
  all-yields rs [] = omega arith
  all-yields rs (s ∷ ss) = simp count-append (omega (arith, count-yields rs s, all-yields rs ss))

  -- how many mappings of the stream contain x and pass the test
  pub stream-count : (lo : ℕ) (rs : List Region) (ss : List Segment) → Ordered lo rs → AllHeld rs → x.0 < 2 ^ 64
      → count (λ m. contains x m && q m) (stream rs ss)
      ≡ (if held (values_at rs x) && R (values_at rs x)
      then count (λ s. covers s x && Q s) ss + bit (I && not (any (λ s. covers s x) ss)) else 0)
  unfolding stream passes
  stream-count lo rs ss o f small =
      go (held (values_at rs x) && R (values_at rs x)) I (not (any (λ s. covers s x) ss)) (count_held x R lo rs o f)
      (merge-count passes rs (uncovered ss rs) ss ∙ simp count_map (ap (λ n. n + count passes (each (segment_yields rs) ss)) runs))
      (all-yields rs ss)
    where
      runs : count (λ r. passes (identity r)) (uncovered ss rs) ≡ bit I * (count (marks x R) rs * bit (not (any (λ s. covers s x) ss)))
      runs =
          count-ext (λ r. passes (identity r)) (λ r. I && marks x R r) run-passes (uncovered ss rs)
          ∙ count-and I (marks x R) (uncovered ss rs) ∙ ap (λ n. bit I * n) (count-uncovered x small R ss rs f)

      go : (b i c : Bool) → count (marks x R) rs ≡ bit b
          → count passes (merge rs (uncovered ss rs) ss) ≡ bit i * (count (marks x R) rs * bit c) + count passes (each (segment_yields rs) ss)
          → count passes (each (segment_yields rs) ss) ≡ count (λ s. covers s x && Q s) ss * count (marks x R) rs
          → count passes (merge rs (uncovered ss rs) ss) ≡ (if b then count (λ s. covers s x && Q s) ss + bit (i && c) else 0)
      go true true c n h k = omega (arith, rw n at h, rw n at k)
      go true false c n h k = omega (arith, rw n at h, rw n at k)
      go false i c n h k = omega (arith, rw n at h, rw n at k)

eqb-shift : (a b m : ℕ) → b ≤ m → (a + (m - b) =? m) ≡ (a =? b)
eqb-shift a b m h = go (a =? b) refl
  where
    go : (t : Bool) → (a =? b) ≡ t → (a + (m - b) =? m) ≡ (a =? b)
    go true e = rw e (eq-eqb (a + (m - b)) m (omega (arith, eqb-true a b e)))
    go false e = let ne : a ≡ b → ⊥ = eqb-false a b e in rw e (ne_eqb (a + (m - b)) m (λ p. ne (omega (arith, p))))

-- the stream of a compartment's regions agrees with its reckoning at every address
module _ (x : HostAddr) (small : x.0 < 2 ^ 64) (c : Compartment) (blank : Blank c.values) where
  stream_at : (q : Mapping → Bool) (I : Bool) (Q : Segment → Bool) (R : Values → Bool)
      → ((r : Region) → r.start.0 ≤ x.0 → q (identity r) ≡ (I && R r.values))
      → ((s : Segment) (r : Region) → s.hpa.0 ≤ x.0 → r.start.0 ≤ x.0 → q (shared_part s r) ≡ (Q s && R r.values))
      → count (λ m. contains x m && q m) (stream (regions c.values) c.segments)
      ≡ (if held (c.values x) && R (c.values x)
      then count (λ s. covers s x && Q s) c.segments + bit (I && not (any (λ s. covers s x) c.segments)) else 0)
  stream_at q I Q R on_run on_share =
      stream-count x q I Q R on_run on_share 0 (regions c.values) c.segments
      (regions-runs c.values).ordered (regions-runs c.values).full small
      ∙ simp (regions-values c.values blank x, lt-ltb x.0 (2 ^ 64) small)

  -- how many contain x
  ways : count (contains x) (stream (regions c.values) c.segments)
      ≡ (if held (c.values x) then count (λ s. covers s x) c.segments + bit (not (any (λ s. covers s x) c.segments)) else 0)
  ways = simp and-true at (stream_at (λ m. true) true (λ s. true) (λ v. true) (λ r l. refl) (λ s r k l. refl))

  -- how many put it at y, with a repeat that passes T: x is as far above a shared part's addresses as above the segment's
  aimed : held (c.values x) ≡ true → any (λ s. covers s x) c.segments ≡ true → (y : GuestAddr) (T : ℕ → Bool)
      → count (λ m. puts x y m && T m.repeat) (stream (regions c.values) c.segments)
      ≡ count (λ s. aims x y s && T s.repeat) c.segments
  unfolding puts aims shared_part identity host guest guest_up
  aimed h k y T =
      simp (and_assoc) (
      simp (h, k, and-false)
      at (stream_at (λ m. (m.gpa.0 + (x.0 - m.hpa.0) =? y.0) && T m.repeat) ((x.0 =? y.0) && T 1)
      (λ s. (s.gpa.0 + (x.0 - s.hpa.0) =? y.0) && T s.repeat) (λ v. true)
      (λ r l. simp and-true (ap (λ n. (n =? y.0) && T 1) (omega arith)))
      (λ s r i j. simp and-true (ap (λ n. (n =? y.0) && T s.repeat) (omega arith))))
      ∙ omega arith
      )

  -- where no segment covers x, only an identity mapping contains it
  plainly : any (λ s. covers s x) c.segments ≡ false
      → count (λ m. contains x m && not (maps1to1 m)) (stream (regions c.values) c.segments) ≡ 0
  unfolding maps1to1 shared_part identity host guest guest_up
  plainly k =
      let Q : Segment → Bool = λ s. not ((s.gpa.0 =? s.hpa.0) && (s.repeat =? 1)) in
      stream_at (λ m. not (maps1to1 m)) false Q (λ v. true) (λ r l. simp (eq-eqb r.start.0 r.start.0 refl))
      (λ s r i j. simp (eqb-shift s.gpa.0 s.hpa.0 (max s.hpa.0 r.start.0) (omega arith), and-true))
      ∙ simp (count_none (λ s. covers s x) Q c.segments k, if-same)

  -- no mapping with x has other rights
  rightly : count (λ m. contains x m && not (m.ops.0 =? (rights_of (c.values x)).0)) (stream (regions c.values) c.segments) ≡ 0
  unfolding shared_part identity
  rightly =
      stream_at (λ m. not (m.ops.0 =? (rights_of (c.values x)).0)) true (λ s. true) (λ v. not ((rights_of v).0 =? (rights_of (c.values x)).0))
      (λ r l. refl) (λ s r i j. refl)
      ∙ simp (eq-eqb (rights_of (c.values x)).0 (rights_of (c.values x)).0 refl, and-false)

  pub agrees : AgreesAt x c (stream (regions c.values) c.segments)
  agrees = record {
    unheld = λ h. simp h at ways;
    once = λ h k. simp (h, k) at ways ∙ omega arith;
    covered = λ h k y. simp and-true at (aimed h k y (λ n. true));
    repeated = λ h k y t. aimed h k y (λ n. n =? t);
    plain = λ h k.
        (simp (h, k) at ways ∙ omega (arith, simp and-true at (count_none (λ s. covers s x) (λ s. true) c.segments k)), plainly k);
    rights = rightly;
  }
