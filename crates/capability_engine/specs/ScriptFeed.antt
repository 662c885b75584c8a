-- A script in pieces: what is still to be printed, and what a piece of it promises.
use Rattle.std.specs.Prelude.{ℕ, ◌+◌, ◌-◌, ◌≤◌, ◌≡◌, true, false, List, [], ◌++◌, length, take, drop, replicate, if◌then◌else◌}
use Rattle.std.proofs.lemmas.List.Edits.{sets}
use Rattle.definitions.specs.Tests.{◌<?◌, each}
use Rattle.definitions.specs.Calls.{State, after}
use Rattle.definitions.specs.Script.{call, printed, lines_of, output_from, left_from, whole_lines}
use Rattle.definitions.specs.declared.call.Call.{Call}
use Rattle.definitions.specs.declared.call.Call.TheVariants.{Mappings}
use Rattle.lines.specs.Lines.{lines_with}
use Rattle.capability_engine.specs.declared.script.Script.{Script}
use Rattle.capability_engine.specs.declared.compartments.Tables.{Tables}
use Rattle.capability_engine.specs.CompartmentGrown.{Grown}

-- the lines that are still to be written of a P of compartment k, 8 for none, of which so many are written
unfoldable pub owed : State → ℕ → ℕ → List (List ℕ)
owed s k from = if k <? 8 then drop from (printed s (call (Mappings k))) else []

-- the bytes of a line that has not ended
abbrev pub held : Script → List ℕ
held c = take c.progress.len c.line

-- what a script still prints from a state on, if these bytes go on with it and it ends there
unfoldable pub due : State → Script → List ℕ → List (List ℕ)
due s c bytes = owed s c.progress.compartment c.progress.from ++ output_from s (lines_with (held c) bytes)

-- and what it then leaves
unfoldable pub comes : State → Script → List ℕ → State
comes s c bytes = left_from s (lines_with (held c) bytes)

-- a script that has not begun
abbrev pub begun : Script
begun = record {
  line = replicate 88 0;
  progress = record { len = 0; compartment = 8; from = 0; used = 0; at = 0; lines = 0; full = false };
}

-- a piece is taken: what is written, and that with what is due after it this is what was due before. Left free: how far a full
-- output lets the piece be taken, the line's bytes behind those that are held, and `from` where nothing is owed
pub record Feeds (calls : List Call) (c : Script) (input out : List ℕ) (at : ℕ)
    (words' next' links' gens' out' : List ℕ) (t' : Tables) (c' : Script) : Type 0 where
  pub later : List Call
  pub grown : Grown words' next' links' gens' t' later
  pub lines : List (List ℕ)
  pub prints : (more : List ℕ) → due (after calls) c (input ++ more) ≡ lines ++ due (after later) c' (drop c'.progress.used input ++ more)
  pub leaves : (more : List ℕ) → comes (after calls) c (input ++ more) ≡ comes (after later) c' (drop c'.progress.used input ++ more)
  pub text : out' ≡ sets out at (each (λ l. l) lines)
  pub end : c'.progress.at ≡ at + length (each (λ l. l) lines)
  pub many : c'.progress.lines ≡ length lines
  pub fits : at ≤ length out → c'.progress.at ≤ length out
  -- the line keeps its room
  pub room : length c'.line ≡ length c.line
  pub taken : c'.progress.used ≤ length input
  -- it stops where all is taken and nothing is owed, or where the next line does not fit
  pub whole : c'.progress.full ≡ false → (c'.progress.used ≡ length input) × (c'.progress.compartment ≡ 8)
  pub stuck : c'.progress.full ≡ true → (more : List ℕ)
      → (whole_lines (length out - c'.progress.at) (due (after later) c' (drop c'.progress.used input ++ more)) ≡ [])
  -- some of it is taken, where no P is owed and there is room for an answer
  pub ahead : 8 ≤ c.progress.compartment → at + 25 ≤ length out → 1 ≤ length input → 1 ≤ c'.progress.used

-- a piece is run for what it leaves
pub record Runs (calls : List Call) (c : Script) (input words' next' links' gens' : List ℕ) (t' : Tables) (c' : Script) : Type 0 where
  pub later : List Call
  pub grown : Grown words' next' links' gens' t' later
  pub leaves : (more : List ℕ) → comes (after calls) c (input ++ more) ≡ comes (after later) c' more

-- and a whole script
pub record Replays (calls : List Call) (script words' next' links' gens' : List ℕ) (t : Tables) : Type 0 where
  pub later : List Call
  pub grown : Grown words' next' links' gens' t later
  pub left : after later ≡ left_from (after calls) (lines_of script)
