-- How a remapper holds a list of segments.
use Rattle.std.specs.Prelude.{ℕ, zero, suc, ◌+◌, ◌≡◌, List, [], ◌∷◌, ◌++◌, true, cond, ltb, eqb, length, get_or, set}
use Rattle.free_list.specs.Stack.{FreeListCall, after}
use Rattle.free_list.specs.Grown.{Grown}
use Rattle.definitions.specs.Segments.{in_order}
use Rattle.definitions.proofs.SegmentLaws.{AllGood}
use Rattle.definitions.proofs.GuestLaws.{Unshared}
use Rattle.definitions.specs.declared.remapper.Segment.{Segment}
use Rattle.capability_engine.specs.declared.remapper.Remapper.{Remapper}

-- from h the links go through xs, and end at e
abbrev pub Chain : List ℕ → ℕ → List ℕ → ℕ → Type 0
Chain links h [] e = h ≡ e
Chain links h (x ∷ xs) e = (h ≡ x) × Chain links (get_or links x 0) xs e

-- how often z stands in a list
abbrev pub hit : ℕ → ℕ → ℕ
hit z x = cond (eqb z x) 1 0

abbrev pub occ : ℕ → List ℕ → ℕ
occ z [] = 0
occ z (x ∷ s) = hit z x + occ z s

abbrev pub no_segment : Segment
no_segment = record { hpa = record { 0 = 0 }; gpa = record { 0 = 0 }; size = 0; repeat = 0 }

-- the segments at these slots
abbrev pub segs_at : List Segment → List ℕ → List Segment
segs_at segments [] = []
segs_at segments (x ∷ xs) = get_or segments x no_segment ∷ segs_at segments xs

-- the slots in use, in list order, are xs: each slot is once in xs or once on the free list
pub record Owns (r : Remapper) (xs : List ℕ) : Type 0 where
  pub wide : length r.segments ≡ 64
  pub size : length r.links ≡ 64
  pub chain : Chain r.links r.head xs 64
  pub calls : List FreeListCall
  pub grown : Grown 64 r.free r.list calls
  pub parts : (z : ℕ) → occ z xs + occ z (after 64 calls) ≡ cond (ltb z 64) 1 0
  pub room : length xs ≡ r.list.count

-- the remapper holds the list ss: THE REPRESENTATION
pub record Holds (r : Remapper) (ss : List Segment) : Type 0 where
  pub slots : List ℕ
  pub owns : Owns r slots
  pub read : segs_at r.segments slots ≡ ss
  pub good : AllGood ss

abbrev pub IsHeld : Remapper → Type 0
IsHeld r = (ss : List Segment) × Holds r ss

-- and the list is as calls leave it: in host order, and where a segment with repeat 1 reaches a guest address, no other does
pub record Sound (r : Remapper) (ss : List Segment) : Type 0 where
  pub held : Holds r ss
  pub order : in_order ss ≡ true
  pub unshared : Unshared ss

abbrev pub IsSound : Remapper → Type 0
IsSound r = (ss : List Segment) × Sound r ss

-- the last of a list, or d
abbrev pub last_or : ℕ → List ℕ → ℕ
last_or d [] = d
last_or d (x ∷ xs) = last_or x xs

-- a place in the list: behind slot prev and before slot at, with the segments done before it, and ts after it
pub record Zip (r : Remapper) (prev at : ℕ) (done ts : List Segment) : Type 0 where
  pub passed : List ℕ
  pub left : List ℕ
  pub owns : Owns r (passed ++ left)
  pub last : prev ≡ last_or 64 passed
  pub here : Chain r.links at left 64
  pub read_done : segs_at r.segments passed ≡ done
  pub read_left : segs_at r.segments left ≡ ts
  pub good-done : AllGood done
  pub good_left : AllGood ts

-- the link of prev, or the head where prev is none
abbrev pub join_links : List ℕ → ℕ → ℕ → List ℕ
join_links links prev to = cond (ltb prev 64) (set links prev to) links

abbrev pub join_head : ℕ → ℕ → ℕ → ℕ
join_head head prev to = cond (ltb prev 64) head to

-- what stands behind prev, or the head where prev is none
abbrev pub behind : List ℕ → ℕ → ℕ → ℕ
behind links head prev = cond (ltb prev 64) (get_or links prev 0) head

-- the slots that the links lead to, at most f of them
abbrev pub follow : ℕ → List ℕ → ℕ → List ℕ
follow zero links h = []
follow (suc f) links h = cond (ltb h 64) (h ∷ follow f links (get_or links h 0)) []

-- how many slots are left from h on
unfoldable pub ahead : List ℕ → ℕ → ℕ
ahead links h = length (follow 64 links h)
