-- What the exported functions promise, with no premise: all of it is about a script from empty tables.
use Rattle.std.specs.Prelude.{ℕ, ◌-◌, ◌^◌, ◌≡◌, List, [], ◌∷◌, length}
use Rattle.std.proofs.lemmas.List.Edits.{sets}
use Rattle.definitions.specs.Tests.{◌<?◌, each}
use Rattle.definitions.specs.Pages.{page}
use Rattle.definitions.specs.Reckoning.{Compartment}
use Rattle.definitions.specs.Questions.{ask, refusal_number}
use Rattle.definitions.specs.Calls.{State, start, compartment, after}
use Rattle.definitions.specs.Script.{lines_of, left_from, output_of, whole_lines}
use Rattle.definitions.specs.declared.answer.Refusal.TheVariants.{NoCompartment}
use Rattle.definitions.specs.Answers.{Answer}
use Rattle.std.specs.Prelude.{Ok, Err}
use Rattle.definitions.specs.declared.call.Call.{Call}
use Rattle.capability_engine.specs.CompartmentGrown.{Grown, page_left}
use Rattle.capability_engine.specs.declared.compartments.Tables.{Tables}

-- an answer as one number: its value, or 2^64 less the number of the refusal
abbrev pub coded : Answer → ℕ
coded (Ok value) = value
coded (Err refusal) = 2 ^ 64 - refusal_number refusal

-- what a whole script leaves
unfoldable pub left_by : List ℕ → State
left_by script = left_from start (lines_of script)

-- as many whole lines of the output as fit are in the slice, whose rest is untouched; the answer is how many
pub record Prints (script out out' : List ℕ) (r : ℕ) : Type 0 where
  pub slice : out' ≡ sets out 0 (each (λ l. l) (whole_lines (length out) (output_of script)))
  pub many : r ≡ length (whole_lines (length out) (output_of script))

-- a page of a compartment's groups in a state; past the eight compartments the slice is as it was
pub record ReadsPage (width : ℕ) (groups : Compartment → List (List ℕ)) (s : State) (k from : ℕ) (out out' : List ℕ) (r : ℕ) : Type 0 where
  pub answered : r ≡ coded (ask ((k <? 8, NoCompartment) ∷ []) (Ok (length (page width (groups (compartment s k)) from (length out)))))
  pub slice : out' ≡ page_left width (groups (compartment s k)) k from out

-- tables that calls grew, and that hold a state
pub record Leaves (s : State) (words next links gens : List ℕ) (t : Tables) : Type 0 where
  pub calls : List Call
  pub grown : Grown words next links gens t calls
  pub left : after calls ≡ s
