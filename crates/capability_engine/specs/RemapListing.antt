-- The segments one by one, by a cursor, and all of them as numbers, four for each.
use Rattle.std.specs.Prelude.{ℕ, ◌≡◌, List, [], ◌∷◌, length, Option, None, Some as Found}
use Rattle.definitions.specs.declared.remapper.Segment.{Segment}
use Rattle.capability_engine.specs.declared.remapper.Remapper.{Remapper}
use Rattle.capability_engine.specs.declared.remapper.RemapperSegmentIterator.{RemapperSegmentIterator}
use Rattle.capability_engine.specs.RemapHeld.{Holds, Zip}
use Rattle.capability_engine.specs.SegmentWords.{segments_from}

-- the segments ts are left from slot at on
pub record Some (r : Remapper) (at : ℕ) (ts : List Segment) : Type 0 where
  pub prev : ℕ
  pub done : List Segment
  pub zip : Zip r prev at done ts

-- the cursor has the segments ts before it
abbrev pub Ahead : Remapper → RemapperSegmentIterator → List Segment → Type 0
Ahead r c ts = Some r c.next_segment ts

-- it has some before it
abbrev pub IsAhead : Remapper → RemapperSegmentIterator → Type 0
IsAhead r c = (ts : List Segment) × Ahead r c ts

-- a new cursor has all segments before it
abbrev pub Starts : Remapper → RemapperSegmentIterator → Type 0
Starts r c = (ss : List Segment) → Holds r ss → Ahead r c ss

-- what a step comes to, with these segments before the cursor
abbrev pub Comes : Remapper → List Segment → Option (Segment × RemapperSegmentIterator) → Type 0
Comes r [] n = n ≡ None
Comes r (s ∷ ts) n = (d : RemapperSegmentIterator) × (n ≡ Found (s, d)) × Ahead r d ts

-- a step comes to the first of them
abbrev pub Steps : Remapper → RemapperSegmentIterator → Option (Segment × RemapperSegmentIterator) → Type 0
Steps r c n = (ts : List Segment) → Ahead r c ts → Comes r ts n

-- the slice holds the segments, in order, and its length is as it was
pub record Copied (ss : List Segment) (before after : List ℕ) (n : ℕ) : Type 0 where
  pub many : n ≡ length ss
  pub same : segments_from after 0 n ≡ ss
  pub size : length after ≡ length before
