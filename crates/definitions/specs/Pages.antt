-- Document 01, "The stream (`remap`)" and "The reckoning": pages of groups of numbers, of any width.
use Rattle.std.specs.Prelude.{ℕ, ◌+◌, ◌*◌, ◌/◌, ◌≡◌, List, [], ◌∷◌, ◌++◌, map, length, take, drop}
use Rattle.definitions.specs.Tests.{each}
use Rattle.definitions.specs.Rights.{RIGHTS, count_of}
use Rattle.definitions.specs.declared.region.MemoryPermission.{MemoryPermission}
use Rattle.definitions.specs.declared.region.Region.{Region}
use Rattle.definitions.specs.declared.remapper.Mapping.{Mapping}
use Rattle.definitions.specs.declared.remapper.Segment.{Segment}

-- groups of five numbers (hpa, gpa, size, repeat, rights); of a permission start, end, rights
unfoldable pub mapping_group : Mapping → List ℕ
mapping_group m = m.hpa.0 ∷ m.gpa.0 ∷ m.size ∷ m.repeat ∷ m.ops.0 ∷ []

unfoldable pub permission_group : MemoryPermission → List ℕ
permission_group p = p.start.0 ∷ p.end.0 ∷ p.ops.0 ∷ []

-- of a stored region its range, holders and a count for each right; of a stored segment its four numbers
abbrev pub region_group : Region → List ℕ
region_group r = r.start.0 ∷ r.end.0 ∷ r.values.refcount ∷ map (λ t. count_of t r.values) RIGHTS

-- how many numbers a stored region's group has: a sixth count in every record (document 02, order 10) makes it nine, which
-- proofs/PageLaws.antt holds to the rights (`record-long`)
abbrev pub record_len : ℕ
record_len = 9

unfoldable pub segment_group : Segment → List ℕ
segment_group s = s.hpa.0 ∷ s.gpa.0 ∷ s.size ∷ s.repeat ∷ []

-- A page read from group k fills as many whole groups as the lent slice and the list allow, and answers how many.
unfoldable pub page : ℕ → List (List ℕ) → ℕ → ℕ → List (List ℕ)
page width groups k room = take (room / width) (drop k groups)

-- The rest of the slice is untouched.
unfoldable pub filled : ℕ → List (List ℕ) → ℕ → List ℕ → List ℕ
filled width groups k slice =
    let read = page width groups k (length slice) in
    each (λ group. group) read ++ drop (width * length read) slice

-- what a page read promises: its answer, and the slice
pub record Filled (width : ℕ) (groups : List (List ℕ)) (k : ℕ) (before after : List ℕ) (answer : ℕ) : Type 0 where
  pub many : answer ≡ length (page width groups k (length before))
  pub slice : after ≡ filled width groups k before

-- Pages start at 0, then at the sum of their answers: the groups that slices of these lengths take, from group k on, and
-- where the last of them ends
unfoldable pub pages_from : ℕ → List (List ℕ) → ℕ → List ℕ → List (List ℕ)
pages_from width groups k [] = []
pages_from width groups k (room ∷ rooms) =
    page width groups k room ++ pages_from width groups (k + length (page width groups k room)) rooms

unfoldable pub pages_end : ℕ → List (List ℕ) → ℕ → List ℕ → ℕ
pages_end width groups k [] = k
pages_end width groups k (room ∷ rooms) = pages_end width groups (k + length (page width groups k room)) rooms
