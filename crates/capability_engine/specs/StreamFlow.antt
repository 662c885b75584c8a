-- The stream from an address on, by the segments. Assumes nothing.
use Rattle.std.specs.Prelude.{ℕ, ◌+◌, ◌*◌, ◌≤◌, ◌<◌, min, max, List, [], ◌∷◌, ◌++◌, map, length, if◌then◌else◌}
use Rattle.definitions.specs.Tests.{◌<?◌, bit, host, each}
use Rattle.definitions.specs.Regions.{region}
use Rattle.definitions.specs.Segments.{host_end}
use Rattle.definitions.specs.Stream.{segment_yields, identity}
use Rattle.definitions.proofs.Lists.{above}
use Rattle.definitions.specs.declared.region.Region.{Region}
use Rattle.definitions.specs.declared.remapper.Segment.{Segment}
use Rattle.definitions.specs.declared.remapper.Mapping.{Mapping}

-- the part of a record in [lo, hi), if it is not empty
unfoldable pub part : ℕ → ℕ → Region → List Region
part lo hi r =
    if max lo r.start.0 <? min hi r.end.0
    then region (host (max lo r.start.0)) (host (min hi r.end.0)) r.values ∷ [] else []

-- what comes where the addresses below lo are dealt with: up to the first segment the parts of records from lo on,
-- then what the segment yields, and then what comes from its end on
unfoldable pub flow : ℕ → List Region → List Segment → List Mapping
flow lo rs [] = map identity (each (above lo) rs)
flow lo rs (s ∷ ss) =
    map identity (each (part lo s.hpa.0) rs) ++ (segment_yields rs s ++ flow (max lo (host_end s).0) rs ss)

-- the segments begin at lo or above, in order
abbrev pub Rising : ℕ → List Segment → Type 0
Rising lo [] = Unit {0}
Rising lo (s ∷ ss) = (lo ≤ s.hpa.0) × Rising s.hpa.0 ss

-- the first record ends above x
abbrev pub Past : ℕ → List Region → Type 0
Past x [] = Unit {0}
Past x (r ∷ rs) = x < r.end.0

-- 1 while a part of the first record lies before the first segment
abbrev pub lies : ℕ → List Region → List Segment → ℕ
lies at [] ss = 0
lies at (r ∷ rs) [] = 0
lies at (r ∷ rs) (s ∷ ss) = bit (max at r.start.0 <? s.hpa.0)

-- twice the records and the segments left, plus one while a part of a record lies before the next segment
abbrev pub left : ℕ → List Region → List Segment → ℕ
left at rs ss = 2 * (length rs + length ss) + lies at rs ss
