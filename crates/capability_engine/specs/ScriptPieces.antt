-- A script that comes in pieces of whatever lengths: `Statement`, at the end, which proofs/ScriptPieces.antt proves as
-- `joined_pieces`. Nothing is assumed but what Tables::feed promises.
use Rattle.std.specs.Prelude.{ℕ, ◌≤◌, ◌≡◌, List, [], ◌∷◌, ◌++◌, length, take, drop}
use Rattle.definitions.specs.Tests.{each}
use Rattle.definitions.specs.Script.{heading, output_of}
use Rattle.definitions.specs.declared.call.Call.{Call}
use Rattle.capability_engine.specs.declared.script.Script.{Script}
use Rattle.capability_engine.specs.declared.compartments.Tables.{Tables}
use Rattle.capability_engine.specs.ScriptFeed.{held, begun, Feeds}

abbrev pub joined : List (List ℕ) → List ℕ
joined pieces = each (λ piece. piece) pieces

-- After these calls a script stands at c; some bytes of a piece are not taken yet, and more pieces come: all that is then
-- written, joined.
pub data Writes : List Call → Script → List ℕ → List (List ℕ) → List ℕ → Type 0 where
  -- what is not taken is fed, from the beginning of a slice, and what stands there up to the end answered is written
  fed : {calls : List Call} {c : Script} {bytes : List ℕ} {pieces : List (List ℕ)} {later out words next links gens out' : List ℕ} {t : Tables} {c' : Script}
      → (f : Feeds calls c bytes out 0 words next links gens out' t c')
      → Writes f.later c' (drop c'.progress.used bytes) pieces later
      → Writes calls c bytes pieces (take c'.progress.at out' ++ later)
  -- all is taken, and the next piece comes
  arrives : {calls : List Call} {c : Script} {piece : List ℕ} {pieces : List (List ℕ)} {later : List ℕ}
      → Writes calls c piece pieces later → Writes calls c [] (piece ∷ pieces) later
  -- none comes, and a line has begun: it is ended
  ends : {calls : List Call} {c : Script} {later : List ℕ}
      → c.progress.compartment ≡ 8 → 1 ≤ length (held c) → Writes calls c (10 ∷ []) [] later → Writes calls c [] [] later
  -- none comes, and nothing is owed
  done : {calls : List Call} {c : Script} → c.progress.compartment ≡ 8 → length (held c) ≡ 0 → Writes calls c [] [] []

-- The heading, and what is written from empty tables, are the output of the whole script.
abbrev pub Statement : Type 0
Statement = (pieces : List (List ℕ)) (written : List ℕ) → Writes [] begun [] pieces written → heading ++ written ≡ joined (output_of (joined pieces))
