-- What a cut leaves of a list: good segments in host order that reach no guest address more, and, as a walk along a linked list
-- finds them: what is left in its place, with the parts that are moved up put in before their equals.
use Prim.Native.Nat.{ℕ, ◌+◌, ◌-◌, ◌<◌, ◌≤◌}
use mathlib.Core.Path.{◌≡◌, refl, ◌∙◌}
use mathlib.Core.Bool.{Bool, true, false}
use mathlib.Core.List.{List, [], ◌∷◌}
use native.Mathlib.Omega.{arith}
use borrow.Author.Tests.{ltb-true, leb-true}
use Rattle.definitions.specs.Tests.{◌<?◌, ◌≤?◌, host_up, each}
use Rattle.definitions.specs.Segments.{host_end, span_end, in_order, place, front, rest, cut_out, host_touched, host_parts, touched, span_whole, span_parts, place_all}
use Rattle.definitions.specs.declared.addr.HostAddr.{HostAddr}
use Rattle.definitions.specs.declared.addr.GuestAddr.{GuestAddr}
use Rattle.definitions.specs.declared.remapper.Segment.{Segment}
use Rattle.definitions.proofs.Bools.{both}
use Rattle.definitions.proofs.SegmentLaws.{Good, AllGood, front-good, rest-good, all-good-append, place_all-good, place-order, Single, single-end, Singles, singles}
use Rattle.definitions.proofs.GuestLaws.{Within, within-append, within_none, within_same, within-gone, within-front, within-rest, within_both, within_all, count-place_all}

-- One segment

-- what a cut leaves: the segment, nothing, a part before, a part behind, or both
pub data Parts (s : Segment) : List Segment → Type 0 where
  kept : Parts s (s ∷ [])
  gone : Parts s []
  fore : (d : ℕ) → 1 ≤ d → d ≤ s.size → Parts s (front d s ∷ [])
  aft : (f : ℕ) → 1 ≤ f → f < s.size → Parts s (rest f s ∷ [])
  two : (d f : ℕ) → 1 ≤ d → d ≤ f → f < s.size → Parts s (front d s ∷ rest f s ∷ [])

cut_parts : (d f : ℕ) (s : Segment) → d ≤ f → d ≤ s.size → 1 ≤ f → Parts s (cut_out d f s)
unfolding cut_out
cut_parts d f s p q r = go (1 ≤? d) refl (f <? s.size) refl
  where
    go : (t : Bool) → (1 ≤? d) ≡ t → (u : Bool) → (f <? s.size) ≡ u → Parts s (cut_out d f s)
    go true h true k = simp (h, k) (two d f (leb-true 1 d h) p (ltb-true f s.size k))
    go true h false k = simp (h, k) (fore d (leb-true 1 d h) q)
    go false h true k = simp (h, k) (aft f r (ltb-true f s.size k))
    go false h false k = simp (h, k) gone

pub parts-good : (s : Segment) (us : List Segment) → Good s → Parts s us → AllGood us
parts-good s _ g kept = (g, tt)
parts-good s _ g gone = tt
parts-good s _ g (fore d p q) = (front-good d s g p q, tt)
parts-good s _ g (aft f p q) = (rest-good f s g q, tt)
parts-good s _ g (two d f p q r) = (front-good d s g p (omega arith), (rest-good f s g r, tt))

pub parts_within : (s : Segment) (us : List Segment) → Good s → Parts s us → Within (s ∷ []) us
parts_within s _ g kept = within_same s
parts_within s _ g gone = within-gone s
parts_within s _ g (fore d p q) = within-front s g d q
parts_within s _ g (aft f p q) = within-rest s g f (omega arith)
parts_within s _ g (two d f p q r) = within_both s g d f q (omega arith)

-- `unmap_range`
pub host-parts : (a e : HostAddr) (s : Segment) → a.0 ≤ e.0 → Parts s (host_parts a e s)
unfolding host_parts host_touched host_end host_up
host-parts a e s q = go (host_touched a e s) refl
  where
    go : (t : Bool) → host_touched a e s ≡ t → Parts s (host_parts a e s)
    go true d =
        let b = both (a.0 <? s.hpa.0 + s.size) (s.hpa.0 <? e.0) d in
        let i : a.0 < s.hpa.0 + s.size = ltb-true a.0 (s.hpa.0 + s.size) b.0 in
        let j : s.hpa.0 < e.0 = ltb-true s.hpa.0 e.0 b.1 in
        simp d (cut_parts (a.0 - s.hpa.0) (e.0 - s.hpa.0) s (omega arith) (omega arith) (omega arith))
    go false d = simp d kept

-- `unmap_gpa_range`, after question 15
pub span-parts : (a e : GuestAddr) (s : Segment) → a.0 ≤ e.0 → Good s → Single a e s → Parts s (span_parts a e s)
unfolding span_parts touched span_whole
span-parts a e s q g o = go (touched a e s) refl (span_whole a e s) refl
  where
    go : (t : Bool) → touched a e s ≡ t → (w : Bool) → span_whole a e s ≡ w → Parts s (span_parts a e s)
    go false d w f = simp d kept
    go true d true f =
        let b = both (a.0 <? (span_end s).0) (s.gpa.0 <? e.0) d in
        let j : s.gpa.0 < e.0 = ltb-true s.gpa.0 e.0 b.1 in
        let c = both (a.0 ≤? s.gpa.0) ((span_end s).0 ≤? e.0) f in
        let i : a.0 ≤ s.gpa.0 = leb-true a.0 s.gpa.0 c.0 in
        simp d (cut_parts (a.0 - s.gpa.0) (e.0 - s.gpa.0) s (omega arith) (omega arith) (omega arith))
    go true d false f =
        let b = both (a.0 <? (span_end s).0) (s.gpa.0 <? e.0) d in
        let end = single-end s (o d f) in
        let i : a.0 < (span_end s).0 = ltb-true a.0 (span_end s).0 b.0 in
        let j : s.gpa.0 < e.0 = ltb-true s.gpa.0 e.0 b.1 in
        simp d (cut_parts (a.0 - s.gpa.0) (e.0 - s.gpa.0) s (omega arith) (omega arith) (omega arith))

-- Lists

-- f leaves parts of each
abbrev pub EachParts : (Segment → List Segment) → List Segment → Type 0
EachParts f [] = Unit {0}
EachParts f (s ∷ ss) = Parts s (f s) × EachParts f ss

pub host-each : (a e : HostAddr) (ss : List Segment) → a.0 ≤ e.0 → EachParts (host_parts a e) ss
host-each a e [] q = tt
host-each a e (s ∷ ss) q = (host-parts a e s q, host-each a e ss q)

pub span-each : (a e : GuestAddr) (ss : List Segment) → a.0 ≤ e.0 → AllGood ss → Singles a e ss → EachParts (span_parts a e) ss
span-each a e [] q g o = tt
span-each a e (s ∷ ss) q g o =
    let p = singles a e s ss o in (span-parts a e s q g.0 p.0, span-each a e ss q g.1 p.1)

-- placed one after another they are in order
pub place_all-order : (ss ts : List Segment) → in_order ts ≡ true → in_order (place_all ss ts) ≡ true
unfolding place_all
place_all-order [] ts h = h
place_all-order (s ∷ ss) ts h = place_all-order ss (place s ts) (place-order s ts h)

module _ (f : Segment → List Segment) where
  each-good : (ss : List Segment) → AllGood ss → EachParts f ss → AllGood (each f ss)
  each-good [] g p = tt
  each-good (s ∷ ss) g p = all-good-append (f s) (each f ss) (parts-good s (f s) g.0 p.0) (each-good ss g.1 p.1)

  each_within : (ss : List Segment) → AllGood ss → EachParts f ss → Within ss (each f ss)
  each_within [] g p = within_none
  each_within (s ∷ ss) g p = within-append (s ∷ []) (f s) ss (each f ss) (parts_within s (f s) g.0 p.0) (each_within ss g.1 p.1)

  -- what a cut leaves is good, in order, and reaches no guest address more
  pub cut-good : (ss : List Segment) → AllGood ss → EachParts f ss → AllGood (place_all (each f ss) [])
  cut-good ss g p = place_all-good (each f ss) [] (each-good ss g p) tt

  pub cut-order : (ss : List Segment) → in_order (place_all (each f ss) []) ≡ true
  unfolding in_order
  cut-order ss = place_all-order (each f ss) [] refl

  pub cut-within : (ss : List Segment) → AllGood ss → EachParts f ss → Within ss (place_all (each f ss) [])
  cut-within ss g p =
      within_all ss (each f ss) _ (λ q. count-place_all q (each f ss) [] ∙ omega arith) (each_within ss g p)
