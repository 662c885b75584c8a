-- What a column says as the code's value, and what becomes of a slice that bytes are put over.
use Rattle.std.specs.Prelude.{ℕ, ◌+◌, ◌≡◌, List, [], ◌∷◌, length, if◌then◌else◌, Option, Some, None}
use Rattle.std.proofs.lemmas.List.Edits.{sets}
use Rattle.definitions.specs.Tests.{◌≤?◌}
use Rattle.definitions.specs.Script.{Read, numbers, unread}

-- one number, or none of the form
abbrev pub column_from : Read → Option ℕ
column_from (numbers (n ∷ [])) = Some n
column_from (numbers []) = None
column_from (numbers (n ∷ m ∷ ns)) = None
column_from unread = None

-- bytes are put over a slice from a place on, all of them or none: where the next go, and the slice, whose other bytes stay
unfoldable pub place_after : ℕ → List ℕ → List ℕ → Option ℕ
place_after at new out = if at + length new ≤? length out then Some (at + length new) else None

unfoldable pub slice_after : ℕ → List ℕ → List ℕ → List ℕ
slice_after at new out = if at + length new ≤? length out then sets out at new else out

pub record Wrote (at : ℕ) (new out : List ℕ) (r : Option ℕ) (out' : List ℕ) : Type 0 where
  pub place : r ≡ place_after at new out
  pub slice : out' ≡ slice_after at new out
