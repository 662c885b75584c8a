-- One step of the flow. Assumes nothing.
use Rattle.std.specs.Prelude.{if◌then◌else◌}
use Prim.Native.Nat.{ℕ, ◌+◌, ◌*◌, ◌≤◌, ◌<◌, min, max}
use mathlib.Core.Path.{◌≡◌, refl, sym, ap, ◌∙◌}
use mathlib.Core.Bool.{Bool, true, false}
use mathlib.Core.List.{List, [], ◌∷◌, ◌++◌, map, append-nil, append_assoc}
use native.Mathlib.Omega.{arith}
use lib.ListN.{length, length-append, length-map}
use borrow.Author.Tests.{lt-ltb, le-ltb}
use Rattle.definitions.specs.Tests.{◌<?◌, bit, host, host_up, each}
use Rattle.definitions.proofs.Bools.{and-false}
use Rattle.definitions.proofs.RegionLaws.{ordered-from}
use Rattle.definitions.specs.Regions.{region, meets}
use Rattle.definitions.proofs.Lists.{Ordered, above}
use Rattle.definitions.specs.Segments.{host_end}
use Rattle.definitions.specs.Stream.{segment_yields, shared_part, identity}
use Rattle.definitions.specs.declared.region.Region.{Region}
use Rattle.definitions.specs.declared.remapper.Segment.{Segment}
use Rattle.definitions.specs.declared.remapper.Mapping.{Mapping}
use Rattle.capability_engine.specs.StreamFlow.{part, flow, Rising, lies}
use Rattle.capability_engine.proofs.StreamLists.{map-append, beside}
use Rattle.capability_engine.proofs.StreamMerged.{rising-from}

-- ---- what a segment yields

pub yields-head : (s : Segment) (r : Region) (rs : List Region) → s.hpa.0 < r.end.0 → r.start.0 < (host_end s).0
    → segment_yields (r ∷ rs) s ≡ shared_part s r ∷ segment_yields rs s
unfolding segment_yields meets
yields-head s r rs p q = simp (lt-ltb s.hpa.0 r.end.0 p, lt-ltb r.start.0 (host_end s).0 q)

pub yields-dead : (s : Segment) (r : Region) (rs : List Region) → r.end.0 ≤ s.hpa.0 → segment_yields (r ∷ rs) s ≡ segment_yields rs s
unfolding segment_yields meets
yields-dead s r rs p = simp (le-ltb s.hpa.0 r.end.0 p)

pub yields_none : (s : Segment) (x : ℕ) (rs : List Region) → (host_end s).0 ≤ x → Ordered x rs → segment_yields rs s ≡ []
unfolding segment_yields meets
yields_none s x [] l g = refl
yields_none s x (r ∷ rs) l g =
    simp (le-ltb r.start.0 (host_end s).0 (omega arith), and-false) (yields_none s r.end.0 rs (omega arith) g.2)

-- ---- parts

pub part_none : (lo hi : ℕ) (r : Region) → min hi r.end.0 ≤ max lo r.start.0 → part lo hi r ≡ []
unfolding part
part_none lo hi r l = simp (le-ltb (max lo r.start.0) (min hi r.end.0) l)

pub part-some : (lo hi : ℕ) (r : Region) → max lo r.start.0 < min hi r.end.0 → part lo hi r ≡ region (host (max lo r.start.0)) (host (min hi r.end.0)) r.values ∷ []
unfolding part
part-some lo hi r l = simp (lt-ltb (max lo r.start.0) (min hi r.end.0) l)

pub parts_none : (lo hi x : ℕ) (rs : List Region) → hi ≤ x → Ordered x rs → each (part lo hi) rs ≡ []
parts_none lo hi x [] l g = refl
parts_none lo hi x (r ∷ rs) l g = beside (part_none lo hi r (omega arith)) (parts_none lo hi r.end.0 rs (omega arith) g.2)

-- the part up to an address at or above the record's end
pub part-above : (lo hi : ℕ) (r : Region) → r.end.0 ≤ hi → part lo hi r ≡ above lo r
unfolding part above host
part-above lo hi r l = let q : min hi r.end.0 ≡ r.end.0 = omega arith in rw q

pub above-none : (lo : ℕ) (r : Region) → r.end.0 ≤ max lo r.start.0 → above lo r ≡ []
unfolding above
above-none lo r l = simp (le-ltb (max lo r.start.0) r.end.0 l)

pub above-some : (lo : ℕ) (r : Region) → max lo r.start.0 < r.end.0 → above lo r ≡ region (host (max lo r.start.0)) r.end r.values ∷ []
unfolding above
above-some lo r l = simp (lt-ltb (max lo r.start.0) r.end.0 l)

-- ---- the flow

pub flow-none : (lo : ℕ) (ss : List Segment) → flow lo [] ss ≡ []
unfolding flow segment_yields
flow-none lo [] = refl
flow-none lo (s ∷ ss) = flow-none (max lo (host_end s).0) ss

-- a record below lo, and below the segments, is passed
flow-dead : (lo : ℕ) (r : Region) (rs : List Region) (ss : List Segment) → r.end.0 ≤ lo → Rising r.end.0 ss → flow lo (r ∷ rs) ss ≡ flow lo rs ss
unfolding flow
flow-dead lo r rs [] l g = ap (λ (q : List Region). map identity (q ++ each (above lo) rs)) (above-none lo r (omega arith))
flow-dead lo r rs (s ∷ ss) l g =
    beside (ap (λ (q : List Region). map identity (q ++ each (part lo s.hpa.0) rs)) (part_none lo s.hpa.0 r (omega arith)))
    (beside (yields-dead s r rs g.0) (flow-dead (max lo (host_end s).0) r rs ss (omega arith) (rising-from ss g.0 g.1)))

-- a record below the segments: what is left of it, and the rest
pub flow-pass : (lo : ℕ) (r : Region) (rs : List Region) (ss : List Segment) → Rising r.end.0 ss
    → flow lo (r ∷ rs) ss ≡ map identity (above lo r) ++ flow lo rs ss
unfolding flow host_end host_up
flow-pass lo r rs [] g = map-append identity (above lo r) (each (above lo) rs)
flow-pass lo r rs (s ∷ ss) g =
    beside
    (map-append identity (part lo s.hpa.0 r) (each (part lo s.hpa.0) rs)
    ∙ ap (λ (q : List Region). map identity q ++ map identity (each (part lo s.hpa.0) rs)) (part-above lo s.hpa.0 r g.0))
    (beside (yields-dead s r rs g.0) (flow-dead (max lo (host_end s).0) r rs ss (omega arith) (rising-from ss g.0 g.1)))
    ∙ append_assoc (map identity (above lo r)) (map identity (each (part lo s.hpa.0) rs)) (segment_yields rs s ++ flow (max lo (host_end s).0) rs ss)

-- two ways to take parts that agree on every record from x on
each_same : (f g : Region → List Region) (x : ℕ) → ((r : Region) → x ≤ r.start.0 → f r ≡ g r) → (rs : List Region) → Ordered x rs
    → each f rs ≡ each g rs
each_same f g x e [] o = refl
each_same f g x e (r ∷ rs) o =
    beside (e r o.0) (each_same f g x e rs (ordered-from r.end.0 x rs (omega arith) o.2))

above_same : (lo lo' : ℕ) (r : Region) → max lo r.start.0 ≡ max lo' r.start.0 → above lo r ≡ above lo' r
unfolding above
above_same lo lo' r q = rw q

part_same : (lo lo' hi : ℕ) (r : Region) → max lo r.start.0 ≡ max lo' r.start.0 → part lo hi r ≡ part lo' hi r
unfolding part
part_same lo lo' hi r q = rw q

-- below the records any two addresses are as good
pub flow-same : (x lo lo' : ℕ) (rs : List Region) (ss : List Segment) → Ordered x rs → max x lo ≡ max x lo' → flow lo rs ss ≡ flow lo' rs ss
unfolding flow
flow-same x lo lo' rs [] g e =
    ap (map identity) (each_same (above lo) (above lo') x (λ r l. above_same lo lo' r (omega arith)) rs g)
flow-same x lo lo' rs (s ∷ ss) g e =
    let h : ℕ = s.hpa.0 in
    beside (ap (map identity) (each_same (part lo h) (part lo' h) x (λ r l. part_same lo lo' h r (omega arith)) rs g))
    (ap (λ (l : List Mapping). segment_yields rs s ++ l) (flow-same x (max lo (host_end s).0) (max lo' (host_end s).0) rs ss g (omega arith)))

-- the segment comes first
pub flow-begin : (lo : ℕ) (r : Region) (rs : List Region) (s : Segment) (ss : List Segment) → Ordered r.end.0 rs → s.hpa.0 ≤ max lo r.start.0 → s.hpa.0 ≤ r.end.0
    → flow lo (r ∷ rs) (s ∷ ss) ≡ segment_yields (r ∷ rs) s ++ flow (max lo (host_end s).0) (r ∷ rs) ss
unfolding flow
flow-begin lo r rs s ss g l k =
    ap (λ (q : List Region). map identity q ++ (segment_yields (r ∷ rs) s ++ flow (max lo (host_end s).0) (r ∷ rs) ss))
    (beside (part_none lo s.hpa.0 r (omega arith)) (parts_none lo s.hpa.0 r.end.0 rs k g))

-- a part of the record comes first, and the segment next
pub flow-part : (lo : ℕ) (r : Region) (rs : List Region) (s : Segment) (ss : List Segment) → Ordered r.end.0 rs → s.hpa.0 < r.end.0
    → flow lo (r ∷ rs) (s ∷ ss) ≡ map identity (part lo s.hpa.0 r) ++ flow (max s.hpa.0 lo) (r ∷ rs) (s ∷ ss)
unfolding flow host_end host_up
flow-part lo r rs s ss g l =
    let h : ℕ = s.hpa.0 in
    let q : max lo (host_end s).0 ≡ max (max h lo) (host_end s).0 = omega arith in
    let a : each (part lo h) (r ∷ rs) ≡ part lo h r = ap (λ (z : List Region). part lo h r ++ z) (parts_none lo h r.end.0 rs (omega arith) g) ∙ append-nil (part lo h r) in
    let b : each (part (max h lo) h) (r ∷ rs) ≡ [] = beside (part_none (max h lo) h r (omega arith)) (parts_none (max h lo) h r.end.0 rs (omega arith) g) in
    beside (ap (map identity) a)
    (ap (λ (z : ℕ). segment_yields (r ∷ rs) s ++ flow z (r ∷ rs) ss) q
    ∙ ap (λ (z : List Region). map identity z ++ (segment_yields (r ∷ rs) s ++ flow (max (max h lo) (host_end s).0) (r ∷ rs) ss)) (sym b))

-- ---- how long it is

one-most : (b : Bool) (r : Region) → length (if b then r ∷ [] else []) ≤ 1
one-most true r = omega arith
one-most false r = omega arith

each-length : (f : Region → List Region) → ((r : Region) → length (f r) ≤ 1) → (rs : List Region) → length (each f rs) ≤ length rs
each-length f h [] = omega arith
each-length f h (r ∷ rs) = omega (arith, length-append (f r) (each f rs), h r, each-length f h rs)

part-most : (lo hi : ℕ) (r : Region) → length (part lo hi r) ≤ 1
unfolding part
part-most lo hi r = one-most (max lo r.start.0 <? min hi r.end.0) _

above_most : (lo : ℕ) (r : Region) → length (above lo r) ≤ 1
unfolding above
above_most lo r = one-most (max lo r.start.0 <? r.end.0) _

pub yields-length : (s : Segment) (rs : List Region) → length (segment_yields rs s) ≤ length rs
unfolding segment_yields
yields-length s [] = omega arith
yields-length s (r ∷ rs) = go (meets s.hpa (host_end s) r) refl (yields-length s rs)
  where
    go : (b : Bool) → meets s.hpa (host_end s) r ≡ b → length (segment_yields rs s) ≤ length rs → length (segment_yields (r ∷ rs) s) ≤ length (r ∷ rs)
    go true e ih = simp e (omega arith)
    go false e ih = simp e (omega arith)

-- with at most 1,024 records
pub flow-length : (lo : ℕ) (rs : List Region) (ss : List Segment) → length rs ≤ 1024 → length (flow lo rs ss) ≤ 1024 + 2048 * length ss
unfolding flow
flow-length lo rs [] l = rw (length-map (each (above lo) rs) identity) (omega (arith, each-length (above lo) (above_most lo) rs))
flow-length lo rs (s ∷ ss) l =
    simp (length-append, length-map)
    (omega (arith, each-length (part lo s.hpa.0) (part-most lo s.hpa.0) rs, yields-length s rs, flow-length (max lo (host_end s).0) rs ss l))

-- ---- the measure

pub lies-most : (at : ℕ) (rs : List Region) (ss : List Segment) → lies at rs ss ≤ 1
lies-most at [] ss = omega arith
lies-most at (r ∷ rs) [] = omega arith
lies-most at (r ∷ rs) (s ∷ ss) = go (max at r.start.0 <? s.hpa.0)
  where
    go : (b : Bool) → bit b ≤ 1
    go true = omega arith
    go false = omega arith
