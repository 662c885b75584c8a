-- What a cursor stands for, and what a turn of it does. Assumes nothing.
use Rattle.std.specs.Prelude.{ℕ, ◌+◌, ◌-◌, ◌*◌, ◌^◌, ◌≤◌, ◌<◌, min, max, ◌≡◌, Bool, true, ◌&&◌, Option, None, Some, ◌⊎◌, List, [], ◌∷◌, ◌++◌, length, if◌then◌else◌}
use Rattle.definitions.specs.Tests.{◌<?◌, ◌=?◌, host}
use Rattle.definitions.specs.Regions.{region}
use Rattle.definitions.specs.Segments.{host_end, in_order}
use Rattle.definitions.specs.Stream.{segment_yields, identity}
use Rattle.definitions.proofs.Lists.{Ordered, AllHeld}
use Rattle.definitions.proofs.RunLaws.{EndBy}
use Rattle.definitions.proofs.SegmentLaws.{AllGood}
use Rattle.definitions.specs.declared.addr.HostAddr.{HostAddr}
use Rattle.definitions.specs.declared.region.Region.{Region}
use Rattle.definitions.specs.declared.remapper.Segment.{Segment}
use Rattle.definitions.specs.declared.remapper.Mapping.{Mapping}
use Rattle.capability_engine.specs.PoolWords.{region_at, pool_len}
use Rattle.capability_engine.specs.PoolChain.{slots, Listed, stored_at}
use Rattle.capability_engine.specs.SegmentWords.{segment_at, segments_from}
use Rattle.capability_engine.specs.StreamFlow.{flow, Rising, Past, left}
use Rattle.capability_engine.specs.declared.stream.RemapCursor.{RemapCursor}
use Rattle.capability_engine.specs.declared.stream.Turn.{Turn}
use Rattle.capability_engine.specs.declared.stream.Turn.TheVariants.{Yields, Skips, Ends}

-- the slices: room for the records, and n segments that fit, in order
pub record Table (ws sg : List ℕ) (n : ℕ) : Type 0 where
  pub words : length ws ≡ pool_len
  pub few : n ≤ 64
  pub room : 4 * n ≤ length sg
  pub good : AllGood (segments_from sg 0 n)
  pub order : in_order (segments_from sg 0 n) ≡ true

-- the chain from a slot on ends, and its records are in order
pub record Sound (nx ws : List ℕ) (h : ℕ) : Type 0 where
  pub listed : Listed nx h (slots nx h)
  pub ordered : Ordered 0 (stored_at nx ws h)

-- the records of a compartment: besides, all are held, and end in the address space
pub record Whole (nx ws : List ℕ) (h : ℕ) : Type 0 where
  pub sound : Sound nx ws h
  pub full : AllHeld (stored_at nx ws h)
  pub ends : EndBy (2 ^ 64) (stored_at nx ws h)

-- a segment that ends at e meets a record
pub record Met (s : Segment) (e : HostAddr) (r : Region) : Type 0 where
  pub ends : e.0 ≡ (host_end s).0
  pub guest : s.gpa.0 + s.size < 2 ^ 64
  pub below : s.hpa.0 < r.end.0
  pub above : r.start.0 < e.0
  pub some : r.start.0 < r.end.0
  pub full : 1 ≤ s.size

-- has the segment begun last a record more
unfoldable pub goes_on : List ℕ → RemapCursor → Bool
goes_on ws c = (c.ongoing <? 1024) && ((region_at ws c.ongoing).start.0 <? c.end.0)

-- the segment begun last
abbrev pub begun : List ℕ → RemapCursor → Segment
begun sg c = segment_at sg (c.segment - 1)

-- the segments to come
abbrev pub rest : List ℕ → ℕ → RemapCursor → List Segment
rest sg n c = segments_from sg c.segment (n - c.segment)

-- the mappings still to come
unfoldable pub remaining : List ℕ → List ℕ → List ℕ → ℕ → RemapCursor → List Mapping
remaining nx ws sg n c =
    segment_yields (stored_at nx ws c.ongoing) (begun sg c)
    ++ flow (max c.at.0 c.covered.0) (stored_at nx ws c.region) (rest sg n c)

-- a cursor of these slices
pub record Ready (nx ws sg : List ℕ) (n : ℕ) (c : RemapCursor) : Type 0 where
  pub whole : Sound nx ws c.region
  pub past : Past c.at.0 (stored_at nx ws c.region)
  pub ahead : Rising c.at.0 (rest sg n c)
  pub bound : c.segment ≤ n
  pub on : Sound nx ws c.ongoing
  pub meets : Past (begun sg c).hpa.0 (stored_at nx ws c.ongoing)
  pub owner : c.ongoing < 1024 → (1 ≤ c.segment) × (c.end.0 ≡ (host_end (begun sg c)).0)

-- the number that falls where a step calls itself
unfoldable pub to_go : List ℕ → List ℕ → List ℕ → ℕ → RemapCursor → ℕ
to_go nx ws sg n c = left c.at.0 (stored_at nx ws c.region) (rest sg n c)

-- a segment is begun at the record that is not passed yet: its end is added up here
abbrev pub begins : RemapCursor → Segment → RemapCursor
begins c s = record {
  region = c.region;
  at = s.hpa;
  covered = record { 0 = max c.covered.0 (s.hpa.0 + s.size) };
  segment = c.segment + 1;
  ongoing = c.region;
  end = record { 0 = s.hpa.0 + s.size };
}

-- none is begun: the end that was added up last is kept
pub record Kept (c d : RemapCursor) : Type 0 where
  pub segment : d.segment ≡ c.segment
  pub end : d.end ≡ c.end

-- what a turn answers at c. Where it yields, the number above does not grow: so the turns of all steps together are at
-- most as many as the mappings, and twice the records and the segments, and one.
-- Document 02, order 2: "one page read is to add up each segment's host end at most once". A turn that yields adds up none;
-- one that skips adds up the next segment's end, or none.
abbrev pub Turned : List ℕ → List ℕ → List ℕ → ℕ → RemapCursor → Turn → Type 0
Turned nx ws sg n c Ends = remaining nx ws sg n c ≡ []
Turned nx ws sg n c (Yields m d) =
    (remaining nx ws sg n c ≡ m ∷ remaining nx ws sg n d) × Ready nx ws sg n d × (to_go nx ws sg n d ≤ to_go nx ws sg n c) × Kept c d
Turned nx ws sg n c (Skips d) =
    (remaining nx ws sg n c ≡ remaining nx ws sg n d) × Ready nx ws sg n d × (to_go nx ws sg n d < to_go nx ws sg n c)
    × (Kept c d ⊎ (d ≡ begins c (segment_at sg c.segment)))

-- the next mapping with the cursor behind it, or the end
abbrev pub Step : Type 0
Step = Option (Mapping × RemapCursor)

-- what a step answers at c
abbrev pub Says : List ℕ → List ℕ → List ℕ → ℕ → RemapCursor → Step → Type 0
Says nx ws sg n c None = remaining nx ws sg n c ≡ []
Says nx ws sg n c (Some y) =
    (remaining nx ws sg n c ≡ y.0 ∷ remaining nx ws sg n y.1) × Ready nx ws sg n y.1 × (to_go nx ws sg n y.1 ≤ to_go nx ws sg n c)

-- before the first mapping of the records from a slot on
abbrev pub at_start : ℕ → RemapCursor
at_start h = record {
  region = h;
  at = record { 0 = 0 };
  covered = record { 0 = 0 };
  segment = 0;
  ongoing = 1024;
  end = record { 0 = 0 };
}

-- the turns, by value: the part [from, to) of a record comes, if there is one
unfoldable pub runs : ℕ → ℕ → Region → RemapCursor → Turn
runs from to r d =
    if from <? to then Yields (identity (region (host from) (host to) r.values)) d else Skips d

-- from where on a record is neither passed nor covered
abbrev pub open_from : RemapCursor → Region → ℕ
open_from c r = max (max c.at.0 r.start.0) c.covered.0

-- the record is passed
abbrev pub passed : RemapCursor → Region → ℕ → RemapCursor
passed c r nxt = record {
  region = nxt;
  at = r.end;
  covered = c.covered;
  segment = c.segment;
  ongoing = 1024;
  end = c.end;
}

-- the record is passed up to an address
abbrev pub passed_to : RemapCursor → Region → ℕ → ℕ → RemapCursor
passed_to c r to nxt = record {
  region = if to =? r.end.0 then nxt else c.region;
  at = record { 0 = to };
  covered = c.covered;
  segment = c.segment;
  ongoing = 1024;
  end = c.end;
}

abbrev pub last_turn : RemapCursor → Region → ℕ → Turn
last_turn c r nxt = runs (open_from c r) r.end.0 r (passed c r nxt)

abbrev pub first_turn : RemapCursor → Region → HostAddr → ℕ → Turn
first_turn c r h nxt = runs (open_from c r) (min r.end.0 h.0) r (passed_to c r (min r.end.0 h.0) nxt)
