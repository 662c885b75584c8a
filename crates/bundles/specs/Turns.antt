-- What the steps of a bundle promise (document 02, order 9), and what is promised of one after a script. What the bundle promises
-- stands beside the other public calls, in capability_engine/specs/CompartmentGrown.antt.
use Rattle.std.specs.Prelude.{ℕ, ◌≤◌, ◌≡◌, true, false, List, [], ◌∷◌, ◌++◌, length}
use Rattle.definitions.specs.Questions.{accepted}
use Rattle.definitions.specs.Calls.{after}
use Rattle.definitions.specs.Script.{Line}
use Rattle.definitions.specs.Bundles.{bundle_of, calls_in, told, in_turn, bundle_answer, bundle_leaves}
use Rattle.definitions.specs.declared.call.Call.{Call}
use Rattle.capability_engine.specs.CompartmentGrown.{Grown, IsGrown, SameTables}
use Rattle.capability_engine.specs.declared.compartments.Tables.{Tables}
use Rattle.definitions.specs.Answers.{Answer}
use Rattle.exports.specs.Exports.{left_by, Leaves}

-- one group: its answer, what it leaves, and that a refused one leaves everything
pub record AnswersLine (calls : List Call) (line : Line) (words next links gens : List ℕ) (t : Tables) (words' next' links' gens' : List ℕ) (t' : Tables) (r : Answer) : Type 0 where
  pub answered : r ≡ told (after calls) line
  pub grown : Grown words' next' links' gens' t' (calls ++ calls_in (line ∷ []))
  pub kept : accepted r ≡ false → SameTables words next links gens t words' next' links' gens' t'

-- groups in turn: their answer; if all are accepted, what they leave; and, of so many numbers at most, that a refusal leaves
-- everything
pub record InTurn (most : ℕ) (calls : List Call) (k : ℕ) (ns words next links gens : List ℕ) (t : Tables) (words' next' links' gens' : List ℕ) (t' : Tables) (r : Answer) : Type 0 where
  pub answered : r ≡ in_turn (after calls) (bundle_of k ns)
  pub grown : accepted r ≡ true → Grown words' next' links' gens' t' (calls ++ calls_in (bundle_of k ns))
  pub kept : length ns ≤ most → accepted r ≡ false → SameTables words next links gens t words' next' links' gens' t'
  pub still : IsGrown words' next' links' gens' t'

-- a bundle after a script: its answer, and the tables
pub record LeavesBundle (script : List ℕ) (k : ℕ) (ns words next links gens : List ℕ) (t' : Tables) (r : Answer) : Type 0 where
  pub answered : r ≡ bundle_answer (left_by script) k (bundle_of k ns)
  pub leaves : Leaves (bundle_leaves (left_by script) k (bundle_of k ns)) words next links gens t'
