-- The segments as numbers in list order. Assumes nothing.
use Rattle.std.specs.Prelude.{ℕ, zero, suc, ◌+◌, ◌*◌, List, [], ◌∷◌, get_or}
use Rattle.definitions.specs.declared.remapper.Segment.{Segment}

-- a segment lies in four numbers
abbrev pub segment_at : List ℕ → ℕ → Segment
segment_at sg i = record {
  hpa = record { 0 = get_or sg (4 * i) 0 };
  gpa = record { 0 = get_or sg (4 * i + 1) 0 };
  size = get_or sg (4 * i + 2) 0;
  repeat = get_or sg (4 * i + 3) 0;
}

-- k segments from number i on
abbrev pub segments_from : List ℕ → ℕ → ℕ → List Segment
segments_from sg i zero = []
segments_from sg i (suc k) = segment_at sg i ∷ segments_from sg (suc i) k
