-- What the parts of a change do to the list.
use Rattle.std.specs.Prelude.{ℕ, ◌+◌, ◌≤◌, ◌<◌, ◌≡◌, List, [], ◌∷◌, ◌++◌, length}
use Rattle.definitions.specs.Tests.{any, each}
use Rattle.definitions.specs.Segments.{place as placed}
use Rattle.definitions.proofs.WalkLaws.{Every}
use Rattle.definitions.specs.declared.remapper.Segment.{Segment}
use Rattle.capability_engine.specs.declared.remapper.Remapper.{Remapper}
use Rattle.capability_engine.specs.declared.remapper.Span.{Span}
use Rattle.capability_engine.specs.declared.remapper.Asked.{Asked}
use Rattle.capability_engine.specs.RemapHeld.{no_segment, Zip, behind}
use Rattle.capability_engine.specs.RemapAsking.{left_of, rear_of, bad_for, last_of}

-- a place with these slots before it
abbrev pub ZipOver : Remapper → List ℕ → ℕ → ℕ → List Segment → List Segment → Type 0
ZipOver r ps prev at done ts = (z : Zip r prev at done ts) × (z.passed ≡ ps)

-- prev ends a part of the list, and one more fits
pub record HasRoom (r : Remapper) (prev : ℕ) : Type 0 where
  pub at : ℕ
  pub done : List Segment
  pub left : List Segment
  pub zip : Zip r prev at done left
  pub few : length done + length left < 64

-- the segment s went in behind slot prev, at slot x
abbrev pub PutsIn : Remapper → Segment → ℕ → Remapper → ℕ → Type 0
PutsIn r s prev r2 x =
    (at : ℕ) (done left : List Segment) (w : Zip r prev at done left) → length done + length left < 64
    → ZipOver r2 (w.passed ++ (x ∷ [])) x at (done ++ (s ∷ [])) left

-- the place of a new segment in the list is behind slot prev
pub record Placed (r : Remapper) (s : Segment) (prev : ℕ) (ss : List Segment) : Type 0 where
  pub at : ℕ
  pub done : List Segment
  pub left : List Segment
  pub zip : Zip r prev at done left
  pub goal : done ++ (s ∷ left) ≡ placed s ss
  pub count : length done + length left ≡ length ss

-- what the walk that asks says in the end
pub record Told (p : Span) (k : Asked) (ss : List Segment) : Type 0 where
  pub stay : k.left ≡ length (each (left_of p) ss)
  pub stay-few : k.left ≤ 64
  pub moved : k.moved ≡ length (each (rear_of p) ss)
  pub moved-few : k.moved ≤ 64
  pub up : k.up ≡ last_of (each (rear_of p) ss) no_segment
  pub bad : k.bad ≡ any (bad_for p) ss

-- a place in a list in order, where the segments below n end
pub record Between (r : Remapper) (n last : ℕ) (ts : List Segment) : Type 0 where
  pub low : List Segment
  pub high : List Segment
  pub zip : Zip r last (behind r.links r.head last) low high
  pub are : ts ≡ low ++ high
  pub below : Every (λ t. t.hpa.0 < n) low
  pub above : Every (λ t. n ≤ t.hpa.0) high
