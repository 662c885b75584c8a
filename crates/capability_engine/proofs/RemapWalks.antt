-- The loops: what each keeps, how it starts, goes on and ends.
use Rattle.std.specs.Prelude.{None, Some as Kept, option_to_list, if◌then◌else◌}
use Prim.Native.Nat.{ℕ, suc, ◌+◌, ◌<◌, ◌≤◌}
use mathlib.Core.Path.{◌≡◌, refl, sym, ap, ◌∙◌, subst}
use mathlib.Core.List.{List, [], ◌∷◌, ◌++◌, append_assoc, append-nil}
use mathlib.Core.Bool.{Bool, true, false}
use native.Mathlib.Omega.{arith}
use lib.ListN.{length, get_or, length-append}
use borrow.Author.Tests.{le-leb, lt-leb, ltb-true, ltb-false, le-ltb}
use Rattle.definitions.specs.Tests.{◌<?◌, any, each}
use Rattle.definitions.specs.Segments.{touched, place}
use Rattle.definitions.proofs.SegmentLaws.{Good}
use Rattle.definitions.proofs.WalkLaws.{Every, every_more, Rising}
use Rattle.definitions.specs.declared.addr.GuestAddr.{GuestAddr}
use Rattle.definitions.specs.declared.remapper.Segment.{Segment}
use Rattle.capability_engine.specs.declared.remapper.Remapper.{Remapper}
use Rattle.capability_engine.specs.declared.remapper.Span.{Span}
use Rattle.capability_engine.specs.RemapHeld.{no_segment, Holds, last_or, Zip, behind, ahead}
use Rattle.capability_engine.specs.RemapAsking.{reach_of, left_of, leaves, bad_for}
use Rattle.capability_engine.specs.RemapSteps.{ZipOver, HasRoom, PutsIn, Placed, Between}
use Rattle.capability_engine.specs.RemapListing.{Some}
use Rattle.capability_engine.proofs.RemapParts.{or-false, left-listed, left-good}
use Rattle.capability_engine.proofs.RemapPlaces.{zip-at, zip_start, zip-ahead, zip_end, zip-open, zip-skip, zip-as, zip-many, zip-back, zip-holds}

abbrev pub segment-at : Remapper → ℕ → Segment
segment-at r at = get_or r.segments at no_segment

abbrev pub next_of : Remapper → ℕ → ℕ
next_of r at = get_or r.links at 0

-- ---- a walk that only reads: ts is left from slot at on

pub record Open (r : Remapper) (at : ℕ) (ts : List Segment) : Type 0 where
  pub more : List Segment
  pub are : ts ≡ segment-at r at ∷ more
  pub good : Good (segment-at r at)
  pub on : Some r (next_of r at) more

pub some-start : (r : Remapper) (ss : List Segment) → Holds r ss → Some r r.head ss
some-start r ss h = record { prev = 64; done = []; zip = zip_start r ss h }

module _ (r : Remapper) (at : ℕ) (ts : List Segment) (w : Some r at ts) where
  pub some_end : 64 ≤ at → ts ≡ []
  some_end l = zip_end r w.prev at w.done ts w.zip l

  pub some-open : at < 64 → Open r at ts
  some-open l =
      let o = zip-open r w.prev at w.done ts w.zip l in
      let z : Zip r w.prev at w.done (segment-at r at ∷ o.0) = rw o.1 at w.zip in
      record {
        more = o.0;
        are = o.1;
        good = z.good_left.0;
        on = record { prev = at; done = w.done ++ (segment-at r at ∷ []); zip = zip-skip r w.prev at w.done o.0 (segment-at r at) z };
      }

  pub some-less : at < 64 → ahead r.links (next_of r at) < ahead r.links at
  some-less l =
      let o = some-open l in
      omega (
        arith,
        zip-ahead r w.prev at w.done ts w.zip,
        zip-ahead r o.on.prev (next_of r at) o.on.done o.more o.on.zip,
        ap length o.are,
      )

  -- a link names a slot, or none
  pub some_next : at < 64 → next_of r at ≤ 64
  some_next l = let o = some-open l in zip-at r o.on.prev (next_of r at) o.on.done o.more o.on.zip

-- ---- is one touched?

abbrev pub Meets : Remapper → GuestAddr → GuestAddr → ℕ → List Segment → Type 0
Meets r a e at ss = (ts : List Segment) × Some r at ts × (any (touched a e) ts ≡ any (touched a e) ss)

pub meets-start : (r : Remapper) (a e : GuestAddr) (ss : List Segment) → Holds r ss → Meets r a e r.head ss
meets-start r a e ss h = (ss, some-start r ss h, refl)

module _ (r : Remapper) (a e : GuestAddr) (at : ℕ) (ss : List Segment) (m : Meets r a e at ss) where
  pub meets-end : 64 ≤ at → false ≡ any (touched a e) ss
  meets-end l = ap (any (touched a e)) (sym (some_end r at m.0 m.1 l)) ∙ m.2

  pub meets-hit : at < 64 → touched a e (segment-at r at) ≡ true → true ≡ any (touched a e) ss
  meets-hit l h = let o = some-open r at m.0 m.1 l in sym (ap (any (touched a e)) o.are ∙ rw h) ∙ m.2

  pub meets_on : at < 64 → touched a e (segment-at r at) ≡ false → Meets r a e (next_of r at) ss
  meets_on l h = let o = some-open r at m.0 m.1 l in (o.more, o.on, sym (ap (any (touched a e)) o.are ∙ rw h) ∙ m.2)

-- ---- where a new one goes

pub record Puts (r : Remapper) (s : Segment) (prev at : ℕ) (ss : List Segment) : Type 0 where
  pub done : List Segment
  pub left : List Segment
  pub zip : Zip r prev at done left
  pub goal : done ++ place s left ≡ place s ss
  pub count : length done + length left ≡ length ss

pub puts-start : (r : Remapper) (s : Segment) (ss : List Segment) → Holds r ss → Puts r s 64 r.head ss
puts-start r s ss h = record { done = []; left = ss; zip = zip_start r ss h; goal = refl; count = omega arith }

module _ (r : Remapper) (s : Segment) (prev at : ℕ) (ss : List Segment) (w : Puts r s prev at ss) where
  pub puts-less : at < 64 → ahead r.links (next_of r at) < ahead r.links at
  puts-less l = some-less r at w.left (record { prev = prev; done = w.done; zip = w.zip }) l

  pub puts-on : at < 64 → (segment-at r at).hpa.0 ≤ s.hpa.0 → Puts r s at (next_of r at) ss
  unfolding place
  puts-on l h =
      let o = zip-open r prev at w.done w.left w.zip l in
      let t : Segment = segment-at r at in
      let z : Zip r prev at w.done (t ∷ o.0) = rw o.1 at w.zip in
      record {
        done = w.done ++ (t ∷ []);
        left = o.0;
        zip = zip-skip r prev at w.done o.0 t z;
        goal = append_assoc w.done (t ∷ []) (place s o.0)
            ∙ sym (ap (λ q. w.done ++ place s q) o.1 ∙ rw (le-leb t.hpa.0 s.hpa.0 h))
            ∙ w.goal;
        count = omega (arith, w.count, ap length o.1, length-append w.done (t ∷ []));
      }

  pub puts-next : at < 64 → next_of r at ≤ 64
  puts-next l = some_next r at w.left (record { prev = prev; done = w.done; zip = w.zip }) l

  -- here
  pub puts-here : at < 64 → s.hpa.0 < (segment-at r at).hpa.0 → Placed r s prev ss
  unfolding place
  puts-here l h =
      let o = zip-open r prev at w.done w.left w.zip l in
      record {
        at = at;
        done = w.done;
        left = w.left;
        zip = w.zip;
        goal = sym (ap (λ q. w.done ++ place s q) o.1 ∙ (rw (lt-leb (segment-at r at).hpa.0 s.hpa.0 h)) ∙ ap (λ q. w.done ++ (s ∷ q)) (sym o.1))
            ∙ w.goal;
        count = w.count;
      }

  pub puts-end : 64 ≤ at → Placed r s prev ss
  unfolding place
  puts-end l =
      let e = zip_end r prev at w.done w.left w.zip l in
      record {
        at = at;
        done = w.done;
        left = w.left;
        zip = w.zip;
        goal = ap (λ q. w.done ++ (s ∷ q)) e ∙ sym (ap (λ q. w.done ++ place s q) e) ∙ w.goal;
        count = w.count;
      }

-- the new one goes in there
module _ (r : Remapper) (s : Segment) (prev : ℕ) (ss : List Segment) (w : Placed r s prev ss) (u : r.list.count ≡ length ss) (few : r.list.count < 64) where
  placed-few : length w.done + length w.left < 64
  placed-few = omega (arith, w.count)

  pub placed-room : HasRoom r prev
  placed-room = record { at = w.at; done = w.done; left = w.left; zip = w.zip; few = placed-few }

  pub placed-holds : (out : Remapper) (x : ℕ) → PutsIn r s prev out x → Holds out (place s ss)
  placed-holds out x f =
      rw (append_assoc w.done (s ∷ []) w.left ∙ w.goal) at (zip-holds out x w.at (w.done ++ (s ∷ [])) w.left (f w.at w.done w.left w.zip placed-few).0)

-- ---- each becomes what stays of it in its place, and the last slot below a host address is noted

-- the last of some slots with a segment below n, or d
abbrev pub last_below : ℕ → List ℕ → List Segment → ℕ → ℕ
last_below n [] ts d = d
last_below n (x ∷ xs) [] d = d
last_below n (x ∷ xs) (t ∷ ts) d = last_below n xs ts (if t.hpa.0 <? n then x else d)

pub below-snoc : (n : ℕ) (xs : List ℕ) (ts : List Segment) (d x : ℕ) (t : Segment) → length xs ≡ length ts
    → last_below n (xs ++ (x ∷ [])) (ts ++ (t ∷ [])) d ≡ (if t.hpa.0 <? n then x else last_below n xs ts d)
below-snoc n [] [] d x t e = refl
below-snoc n [] (u ∷ ts) d x t e = absurd (omega arith)
below-snoc n (y ∷ xs) [] d x t e = absurd (omega arith)
below-snoc n (y ∷ xs) (u ∷ ts) d x t e = below-snoc n xs ts (if u.hpa.0 <? n then y else d) x t (omega arith)

none_below : (n : ℕ) (xs : List ℕ) (ts : List Segment) (d : ℕ) → Every (λ t. n ≤ t.hpa.0) ts → last_below n xs ts d ≡ d
none_below n [] ts d h = refl
none_below n (x ∷ xs) [] d h = refl
none_below n (x ∷ xs) (t ∷ ts) d h = rw (le-ltb t.hpa.0 n h.0) (none_below n xs ts d h.1)

-- of a list in order it parts those below n from the others
record Parted (n : ℕ) (xs : List ℕ) (ts : List Segment) (d : ℕ) : Type 0 where
  xs-low : List ℕ
  xs-high : List ℕ
  low : List Segment
  high : List Segment
  slots : xs ≡ xs-low ++ xs-high
  are : ts ≡ low ++ high
  many : length xs-low ≡ length low
  last : last_below n xs ts d ≡ last_or d xs-low
  below : Every (λ t. t.hpa.0 < n) low
  above : Every (λ t. n ≤ t.hpa.0) high

parted : (n : ℕ) (xs : List ℕ) (ts : List Segment) (d : ℕ) → length xs ≡ length ts → Rising ts → Parted n xs ts d
parted n [] [] d e o =
    record { xs-low = []; xs-high = []; low = []; high = []; slots = refl; are = refl; many = refl; last = refl; below = tt; above = tt }
parted n [] (t ∷ ts) d e o = absurd (omega arith)
parted n (x ∷ xs) [] d e o = absurd (omega arith)
parted n (x ∷ xs) (t ∷ ts) d e o = go (t.hpa.0 <? n) refl o.0 (parted n xs ts x (omega arith) o.1)
  where
    go : (c : Bool) → (t.hpa.0 <? n) ≡ c → Every (λ u. t.hpa.0 ≤ u.hpa.0) ts → Parted n xs ts x → Parted n (x ∷ xs) (t ∷ ts) d
    go true q h p =
        record {
          xs-low = x ∷ p.xs-low;
          xs-high = p.xs-high;
          low = t ∷ p.low;
          high = p.high;
          slots = ap (λ l. x ∷ l) p.slots;
          are = ap (λ l. t ∷ l) p.are;
          many = ap suc p.many;
          last = rw q p.last;
          below = (ltb-true t.hpa.0 n q, p.below);
          above = p.above;
        }
    go false q h p =
        let m : n ≤ t.hpa.0 = ltb-false t.hpa.0 n q in
        let k : Every (λ u. n ≤ u.hpa.0) ts = every_more _ _ (λ u l. omega (arith, l)) ts h in
        record {
          xs-low = [];
          xs-high = x ∷ xs;
          low = [];
          high = t ∷ ts;
          slots = refl;
          are = refl;
          many = refl;
          last = rw q (none_below n xs ts d k);
          below = tt;
          above = (m, k);
        }

pub record Trims (r : Remapper) (p : Span) (n prev last at : ℕ) (ss : List Segment) : Type 0 where
  pub done : List Segment
  pub left : List Segment
  pub zip : Zip r prev at done left
  pub goal : done ++ each (left_of p) left ≡ each (left_of p) ss
  pub ok : any (bad_for p) left ≡ false
  pub noted : last ≡ last_below n zip.passed done 64

pub record Cut (r : Remapper) (p : Span) (n prev last at : ℕ) (ss : List Segment) (w : Trims r p n prev last at ss) : Type 0 where
  pub more : List Segment
  pub are : w.left ≡ segment-at r at ∷ more
  pub zip : Zip r prev at w.done (segment-at r at ∷ more)
  pub same : zip.passed ≡ w.zip.passed
  pub good : Good (segment-at r at)
  pub ok : bad_for p (segment-at r at) ≡ false
  pub ok-more : any (bad_for p) more ≡ false
  pub goal : w.done ++ (option_to_list (leaves (reach_of p (segment-at r at)) (segment-at r at)) ++ each (left_of p) more) ≡ each (left_of p) ss

pub trims-start : (r : Remapper) (p : Span) (n : ℕ) (ss : List Segment) → Holds r ss → any (bad_for p) ss ≡ false → Trims r p n 64 64 r.head ss
unfolding zip_start
trims-start r p n ss h ok = record { done = []; left = ss; zip = zip_start r ss h; goal = refl; ok = ok; noted = refl }

pub between : (r : Remapper) (n prev last at : ℕ) (done ts : List Segment) (w : Zip r prev at done ts) → ts ≡ [] → last ≡ last_below n w.passed done 64 → Rising done
    → Between r n last done
between r n prev last at done ts w e q o =
    let b = parted n w.passed done 64 (zip-many r prev at done ts w) o in
    let z : Zip r (last_or 64 b.xs-low) (behind r.links r.head (last_or 64 b.xs-low)) b.low (b.high ++ ts) =
    zip-back r prev at done ts w b.xs-low b.xs-high b.low b.high b.slots b.are b.many in
    let f : b.high ++ ts ≡ b.high = ap (λ v. b.high ++ v) e ∙ append-nil b.high in
    record {
      low = b.low;
      high = b.high;
      zip = subst (λ v. Zip r v (behind r.links r.head v) b.low b.high) (sym (q ∙ b.last)) (rw f at z);
      are = b.are;
      below = b.below;
      above = b.above;
    }

module _ (r : Remapper) (p : Span) (n prev last at : ℕ) (ss : List Segment) (w : Trims r p n prev last at ss) where
  pub trims-cut : at < 64 → Cut r p n prev last at ss w
  unfolding zip-as
  trims-cut l =
      let o = zip-open r prev at w.done w.left w.zip l in
      let z : Zip r prev at w.done (segment-at r at ∷ o.0) = zip-as r prev at w.done w.left (segment-at r at ∷ o.0) w.zip o.1 in
      let b = or-false (bad_for p (segment-at r at)) (any (bad_for p) o.0) (sym (ap (any (bad_for p)) o.1) ∙ w.ok) in
      record {
        more = o.0;
        are = o.1;
        zip = z;
        same = refl;
        good = z.good_left.0;
        ok = b.0;
        ok-more = b.1;
        goal = ap (λ q. w.done ++ (q ++ each (left_of p) o.0)) (sym (left-listed p (segment-at r at)))
            ∙ sym (ap (λ q. w.done ++ each (left_of p) q) o.1) ∙ w.goal;
      }

  pub trims-next : at < 64 → next_of r at ≤ 64
  trims-next l = some_next r at w.left (record { prev = prev; done = w.done; zip = w.zip }) l

  pub trims-less : (r2 : Remapper) (prev2 : ℕ) (done2 : List Segment) (l : at < 64) → Zip r2 prev2 (next_of r at) done2 (trims-cut l).more
      → ahead r2.links (next_of r at) < ahead r.links at
  trims-less r2 prev2 done2 l z =
      omega (
        arith,
        zip-ahead r prev at w.done w.left w.zip,
        zip-ahead r2 prev2 (next_of r at) done2 (trims-cut l).more z,
        ap length (trims-cut l).are,
      )

  pub trims-end : 64 ≤ at → Rising (each (left_of p) ss) → Between r n last (each (left_of p) ss)
  trims-end l o =
      let e : w.left ≡ [] = zip_end r prev at w.done w.left w.zip l in
      let q : w.done ≡ each (left_of p) ss = sym (append-nil w.done) ∙ sym (ap (λ v. w.done ++ each (left_of p) v) e) ∙ w.goal in
      rw q at (between r n prev last at w.done w.left w.zip e w.noted (rw q o))

  pub trims-gone : (r2 : Remapper) (l : at < 64) → leaves (reach_of p (segment-at r at)) (segment-at r at) ≡ None
      → ZipOver r2 (trims-cut l).zip.passed prev (next_of r at) w.done (trims-cut l).more → Trims r2 p n prev last (next_of r at) ss
  trims-gone r2 l e z =
      let c = trims-cut l in
      record {
        done = w.done;
        left = c.more;
        zip = z.0;
        goal = sym (ap (λ v. w.done ++ (option_to_list v ++ each (left_of p) c.more)) e) ∙ c.goal;
        ok = c.ok-more;
        noted = w.noted ∙ ap (λ v. last_below n v w.done 64) (sym (z.1 ∙ c.same));
      }

  pub trims-kept : (r2 : Remapper) (t : Segment) (last2 : ℕ) (l : at < 64) → leaves (reach_of p (segment-at r at)) (segment-at r at) ≡ Kept t
      → last2 ≡ (if t.hpa.0 <? n then at else last)
      → ZipOver r2 ((trims-cut l).zip.passed ++ (at ∷ [])) at (next_of r at) (w.done ++ (t ∷ [])) (trims-cut l).more → Trims r2 p n at last2 (next_of r at) ss
  trims-kept r2 t last2 l e q z =
      let c = trims-cut l in
      let m : length w.zip.passed ≡ length w.done = zip-many r prev at w.done w.left w.zip in
      record {
        done = w.done ++ (t ∷ []);
        left = c.more;
        zip = z.0;
        goal = append_assoc w.done (t ∷ []) (each (left_of p) c.more) ∙ sym (ap (λ v. w.done ++ (option_to_list v ++ each (left_of p) c.more)) e) ∙ c.goal;
        ok = c.ok-more;
        noted = q ∙ ap (λ v. if t.hpa.0 <? n then at else v) w.noted ∙ sym (below-snoc n w.zip.passed w.done 64 at t m)
            ∙ ap (λ v. last_below n v (w.done ++ (t ∷ [])) 64) (sym (z.1 ∙ ap (λ v. v ++ (at ∷ [])) c.same));
      }

  pub trims-good : (t : Segment) (l : at < 64) → leaves (reach_of p (segment-at r at)) (segment-at r at) ≡ Kept t → Good t
  trims-good t l e = let c = trims-cut l in left-good p (segment-at r at) c.good c.ok t e
