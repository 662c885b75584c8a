-- The definition's stream is the flow from address 0 on. Assumes nothing.
use Rattle.std.specs.Prelude.{if◌then◌else◌}
use Prim.Native.Nat.{ℕ, ◌+◌, ◌^◌, ◌≤◌, ◌<◌, min, max}
use mathlib.Core.Path.{◌≡◌, refl, sym, ap, ap₂, ◌∙◌}
use mathlib.Core.Bool.{Bool, true, false}
use mathlib.Core.List.{List, [], ◌∷◌, ◌++◌, map, append-nil, append_assoc}
use native.Mathlib.Omega.{arith}
use borrow.Author.Tests.{ltb-true, ltb-false, leb-true, lt-ltb, le-ltb, le-leb, lt-leb}
use Rattle.definitions.proofs.Bools.{both}
use Rattle.definitions.specs.Tests.{◌<?◌, ◌≤?◌, host, host_up, keep, each, all}
use Rattle.definitions.specs.Regions.{region}
use Rattle.definitions.proofs.Lists.{Ordered, AllHeld, below, above, without, left_over}
use Rattle.definitions.proofs.RunLaws.{EndBy}
use Rattle.definitions.proofs.UncoveredLaws.{Sized, uncovered-is}
use Rattle.definitions.proofs.SegmentLaws.{AllGood}
use Rattle.definitions.specs.Segments.{host_end, in_order}
use Rattle.definitions.specs.Stream.{segment_yields, identity, merge, stream}
use Rattle.definitions.specs.declared.addr.HostAddr.{HostAddr}
use Rattle.definitions.specs.declared.region.Region.{Region}
use Rattle.definitions.specs.declared.remapper.Segment.{Segment}
use Rattle.capability_engine.specs.StreamFlow.{part, flow, Rising}
use Rattle.capability_engine.proofs.StreamLists.{each_append, each-each, keep_append, beside}

-- not empty, and below h; from h on
abbrev AllLow : ℕ → List Region → Type 0
AllLow h [] = Unit {0}
AllLow h (r ∷ rs) = (r.start.0 < r.end.0) × (r.end.0 ≤ h) × AllLow h rs

abbrev AllHigh : ℕ → List Region → Type 0
AllHigh h [] = Unit {0}
AllHigh h (r ∷ rs) = (h ≤ r.start.0) × AllHigh h rs

pub rising-from : {h k : ℕ} (ss : List Segment) → h ≤ k → Rising k ss → Rising h ss
rising-from [] l g = tt
rising-from (s ∷ ss) l g = (omega arith, g.1)

same-region : (r : Region) (a e : HostAddr) → a.0 ≡ r.start.0 → e.0 ≡ r.end.0 → region a e r.values ≡ r
unfolding region
same-region r a e p q = λ i. record { start = record { 0 = p i }; end = record { 0 = q i }; values = r.values }

-- ---- what lies below a segment, and what lies from its end on

below-low : (h : ℕ) (r : Region) → AllLow h (below h r)
unfolding below region host
below-low h r = go (r.start.0 <? min h r.end.0) refl
  where
    go : (b : Bool) → (r.start.0 <? min h r.end.0) ≡ b → AllLow h (below h r)
    go true e = simp e (ltb-true _ _ e, omega arith, tt)
    go false e = simp e tt

high-if : (h : ℕ) (b : Bool) (r : Region) → h ≤ r.start.0 → AllHigh h (if b then r ∷ [] else [])
high-if h true r l = (l, tt)
high-if h false r l = tt

above-high : (h e : ℕ) (r : Region) → h ≤ max e r.start.0 → AllHigh h (above e r)
unfolding above region host
above-high h e r l = high-if h (max e r.start.0 <? r.end.0) (region (host (max e r.start.0)) r.end r.values) l

below-high : (h x : ℕ) (r : Region) → h ≤ r.start.0 → AllHigh h (below x r)
unfolding below region
below-high h x r l = high-if h (r.start.0 <? min x r.end.0) (region r.start (host (min x r.end.0)) r.values) l

high-append : (h : ℕ) (xs ys : List Region) → AllHigh h xs → AllHigh h ys → AllHigh h (xs ++ ys)
high-append h [] ys g k = k
high-append h (r ∷ xs) ys g k = (g.0, high-append h xs ys g.1 k)

each-high : (h : ℕ) (s : Segment) (xs : List Region) → AllHigh h xs → AllHigh h (each (without s) xs)
unfolding without
each-high h s [] g = tt
each-high h s (r ∷ xs) g =
    high-append h (without s r) (each (without s) xs)
    (high-append h (below s.hpa.0 r) (above (host_end s).0 r) (below-high h s.hpa.0 r g.0) (above-high h (host_end s).0 r (omega arith)))
    (each-high h s xs g.1)

left-high : (h : ℕ) (ss : List Segment) (xs : List Region) → AllHigh h xs → AllHigh h (left_over ss xs)
unfolding left_over
left-high h [] xs g = g
left-high h (s ∷ ss) xs g = left-high h ss (each (without s) xs) (each-high h s xs g)

left-append : (ss : List Segment) (xs ys : List Region) → left_over ss (xs ++ ys) ≡ left_over ss xs ++ left_over ss ys
unfolding left_over
left-append [] xs ys = refl
left-append (s ∷ ss) xs ys =
    ap (left_over ss) (each_append (without s) xs ys) ∙ left-append ss (each (without s) xs) (each (without s) ys)

left-nil : (ss : List Segment) → left_over ss [] ≡ []
unfolding left_over
left-nil [] = refl
left-nil (s ∷ ss) = left-nil ss

without-low : (h : ℕ) (s : Segment) (r : Region) → r.start.0 < r.end.0 → r.end.0 ≤ h → h ≤ s.hpa.0 → without s r ≡ r ∷ []
unfolding without below above host_end host_up host
without-low h s r p q l =
    simp (lt-ltb r.start.0 (min s.hpa.0 r.end.0) (omega arith), le-ltb (max (s.hpa.0 + s.size) r.start.0) r.end.0 (omega arith))
    (ap (λ (x : Region). x ∷ []) (same-region r r.start (host (min s.hpa.0 r.end.0)) refl (omega arith)))

each-low : (h : ℕ) (s : Segment) (xs : List Region) → AllLow h xs → h ≤ s.hpa.0 → each (without s) xs ≡ xs
each-low h s [] g l = refl
each-low h s (r ∷ xs) g l = beside (without-low h s r g.0 g.1 l) (each-low h s xs g.2 l)

left-low : (h : ℕ) (ss : List Segment) (xs : List Region) → AllLow h xs → Rising h ss → left_over ss xs ≡ xs
unfolding left_over
left-low h [] xs g k = refl
left-low h (s ∷ ss) xs g k =
    ap (left_over ss) (each-low h s xs g k.0) ∙ left-low h ss xs g (rising-from ss k.0 k.1)

-- ---- what the two tests of the merge keep

module _ (h : ℕ) where
  low-low : (xs : List Region) → AllLow h xs → keep (λ r. r.start.0 <? h) xs ≡ xs
  low-low [] g = refl
  low-low (r ∷ xs) g = simp (lt-ltb r.start.0 h (omega arith)) (ap (λ (l : List Region). r ∷ l) (low-low xs g.2))

  low-high : (xs : List Region) → AllHigh h xs → keep (λ r. r.start.0 <? h) xs ≡ []
  low-high [] g = refl
  low-high (r ∷ xs) g = simp (le-ltb r.start.0 h (omega arith)) (low-high xs g.1)

  high-low : (xs : List Region) → AllLow h xs → keep (λ r. h ≤? r.start.0) xs ≡ []
  high-low [] g = refl
  high-low (r ∷ xs) g = simp (lt-leb h r.start.0 (omega arith)) (high-low xs g.2)

  high-high : (xs : List Region) → AllHigh h xs → keep (λ r. h ≤? r.start.0) xs ≡ xs
  high-high [] g = refl
  high-high (r ∷ xs) g = simp (le-leb h r.start.0 (omega arith)) (ap (λ (l : List Region). r ∷ l) (high-high xs g.1))

-- a segment, and those after it
module _ (s : Segment) (ss : List Segment) (up : Rising s.hpa.0 ss) where
  one : (q : Region) → left_over ss (without s q) ≡ below s.hpa.0 q ++ left_over ss (above (host_end s).0 q)
  unfolding without
  one q =
      left-append ss (below s.hpa.0 q) (above (host_end s).0 q)
      ∙ ap (λ (l : List Region). l ++ left_over ss (above (host_end s).0 q)) (left-low s.hpa.0 ss (below s.hpa.0 q) (below-low s.hpa.0 q) up)

  more : (q : Region) (qs : List Region)
      → left_over ss (each (without s) (q ∷ qs)) ≡ (below s.hpa.0 q ++ left_over ss (above (host_end s).0 q)) ++ left_over ss (each (without s) qs)
  more q qs = left-append ss (without s q) (each (without s) qs) ∙ ap (λ (l : List Region). l ++ left_over ss (each (without s) qs)) (one q)

  high : (q : Region) → AllHigh s.hpa.0 (left_over ss (above (host_end s).0 q))
  unfolding host_end host_up
  high q = left-high s.hpa.0 ss (above (host_end s).0 q) (above-high s.hpa.0 (host_end s).0 q (omega arith))

  split-low : (qs : List Region) → keep (λ r. r.start.0 <? s.hpa.0) (left_over ss (each (without s) qs)) ≡ each (below s.hpa.0) qs
  split-low [] = ap (keep (λ (r : Region). r.start.0 <? s.hpa.0)) (left-nil ss)
  split-low (q ∷ qs) =
      let p : Region → Bool = λ r. r.start.0 <? s.hpa.0 in
      ap (keep p) (more q qs)
      ∙ keep_append p (below s.hpa.0 q ++ left_over ss (above (host_end s).0 q)) (left_over ss (each (without s) qs))
      ∙ beside
      (keep_append p (below s.hpa.0 q) (left_over ss (above (host_end s).0 q))
      ∙ beside (low-low s.hpa.0 (below s.hpa.0 q) (below-low s.hpa.0 q)) (low-high s.hpa.0 (left_over ss (above (host_end s).0 q)) (high q))
      ∙ append-nil (below s.hpa.0 q))
      (split-low qs)

  split-high : (qs : List Region) → keep (λ r. s.hpa.0 ≤? r.start.0) (left_over ss (each (without s) qs)) ≡ left_over ss (each (above (host_end s).0) qs)
  split-high [] = ap (keep (λ (r : Region). s.hpa.0 ≤? r.start.0)) (left-nil ss) ∙ sym (left-nil ss)
  split-high (q ∷ qs) =
      let p : Region → Bool = λ r. s.hpa.0 ≤? r.start.0 in
      ap (keep p) (more q qs)
      ∙ keep_append p (below s.hpa.0 q ++ left_over ss (above (host_end s).0 q)) (left_over ss (each (without s) qs))
      ∙ beside
      (keep_append p (below s.hpa.0 q) (left_over ss (above (host_end s).0 q))
      ∙ beside (high-low s.hpa.0 (below s.hpa.0 q) (below-low s.hpa.0 q)) (high-high s.hpa.0 (left_over ss (above (host_end s).0 q)) (high q)))
      (split-high qs)
      ∙ sym (left-append ss (above (host_end s).0 q) (each (above (host_end s).0) qs))

-- ---- parts of parts

above-above : (m e : ℕ) (r : Region) → each (above e) (above m r) ≡ above (max m e) r
unfolding above region host
above-above m e r = go (max m r.start.0 <? r.end.0) refl
  where
    go : (b : Bool) → (max m r.start.0 <? r.end.0) ≡ b → each (above e) (above m r) ≡ above (max m e) r
    go true d =
        let q : max e (max m r.start.0) ≡ max (max m e) r.start.0 = omega arith in
        simp d (rw q (append-nil (above (max m e) r)))
    go false d = simp (d, le-ltb (max (max m e) r.start.0) r.end.0 (omega (arith, ltb-false (max m r.start.0) r.end.0 d)))

below-above : (lo h : ℕ) (r : Region) → each (below h) (above lo r) ≡ part lo h r
unfolding above below part region host
below-above lo h r = go (max lo r.start.0 <? r.end.0) refl
  where
    go : (b : Bool) → (max lo r.start.0 <? r.end.0) ≡ b → each (below h) (above lo r) ≡ part lo h r
    go true d = simp d (append-nil (part lo h r))
    go false d = simp (d, le-ltb (max lo r.start.0) (min h r.end.0) (omega (arith, ltb-false (max lo r.start.0) r.end.0 d)))

-- ---- the merge

pub flow-merge : (m lo : ℕ) (rs : List Region) (ss : List Segment) → Rising lo ss → merge rs (left_over ss (each (above m) rs)) ss ≡ flow m rs ss
unfolding merge left_over flow
flow-merge m lo rs [] g = refl
flow-merge m lo rs (s ∷ ss) g =
    let qs : List Region = each (above m) rs in
    let e : ℕ = (host_end s).0 in
    let a : map identity (keep (λ r. r.start.0 <? s.hpa.0) (left_over ss (each (without s) qs))) ≡ map identity (each (part m s.hpa.0) rs)
    = ap (map identity) (split-low s ss g.1 qs ∙ each-each (above m) (below s.hpa.0) (part m s.hpa.0) (below-above m s.hpa.0) rs) in
    let b : merge rs (keep (λ r. s.hpa.0 ≤? r.start.0) (left_over ss (each (without s) qs))) ss ≡ flow (max m e) rs ss
    = ap (λ (l : List Region). merge rs l ss)
    (split-high s ss g.1 qs ∙ ap (left_over ss) (each-each (above m) (above e) (above (max m e)) (above-above m e) rs))
    ∙ flow-merge (max m e) s.hpa.0 rs ss g.1 in
    beside (beside a refl) b ∙ append_assoc (map identity (each (part m s.hpa.0) rs)) (segment_yields rs s) (flow (max m e) rs ss)

above-all : (lo : ℕ) (rs : List Region) → Ordered lo rs → each (above 0) rs ≡ rs
unfolding above host
above-all lo [] g = refl
above-all lo (r ∷ rs) g =
    simp (lt-ltb (max 0 r.start.0) r.end.0 (omega arith))
    (ap₂ (λ (x : Region) (l : List Region). x ∷ l) (same-region r (host (max 0 r.start.0)) r.end (omega arith) refl) (above-all r.end.0 rs g.2))

-- the definition's stream
good-sized : (ss : List Segment) → AllGood ss → Sized ss
good-sized [] g = tt
good-sized (s ∷ ss) g = (g.0.some, good-sized ss g.1)

pub stream-flow : (lo : ℕ) (rs : List Region) (ss : List Segment) → Ordered lo rs → AllHeld rs → EndBy (2 ^ 64) rs → AllGood ss → Rising 0 ss
    → stream rs ss ≡ flow 0 rs ss
unfolding stream
stream-flow lo rs ss g f e a k =
    ap (λ (l : List Region). merge rs l ss) (uncovered-is ss (good-sized ss a) lo rs g f e ∙ ap (left_over ss) (sym (above-all lo rs g)))
    ∙ flow-merge 0 0 rs ss k

-- the definition's order
rising-all : (s : Segment) (ss : List Segment) → all (λ t. s.hpa.0 ≤? t.hpa.0) ss ≡ true → in_order ss ≡ true → Rising s.hpa.0 ss
unfolding in_order
rising-all s [] a e = tt
rising-all s (t ∷ ts) a e =
    let f = both (s.hpa.0 ≤? t.hpa.0) (all (λ u. s.hpa.0 ≤? u.hpa.0) ts) a in
    let g = both (all (λ u. t.hpa.0 ≤? u.hpa.0) ts) (in_order ts) e in
    (leb-true _ _ f.0, rising-all t ts g.0 g.1)

pub rising-order : (ss : List Segment) → in_order ss ≡ true → Rising 0 ss
unfolding in_order
rising-order [] e = tt
rising-order (s ∷ ss) e =
    let g = both (all (λ u. s.hpa.0 ≤? u.hpa.0) ss) (in_order ss) e in
    (omega arith, rising-all s ss g.0 g.1)
