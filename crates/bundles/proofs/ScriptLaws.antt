-- A bundle after a script.
use mathlib.Core.Path.{◌≡◌, sym, ap, ◌∙◌}
use mathlib.Core.List.{List, ◌++◌}
use Prim.Native.Nat.{ℕ}
use Rattle.definitions.specs.Calls.{State, after}
use Rattle.definitions.specs.Bundles.{bundle_of, bundle_answer, bundle_leaves, counted}
use Rattle.definitions.proofs.Bundles.{bundle-grows}
use Rattle.capability_engine.specs.declared.compartments.Tables.{Tables}
use Rattle.definitions.specs.Answers.{Answer}
use Rattle.capability_engine.specs.CompartmentGrown as engine
use Rattle.exports.specs.Exports.{coded, left_by, Leaves}
use Rattle.bundles.specs.Turns.{LeavesBundle}

pub leaves-bundle : (script ns words next links gens words' next' links' gens' : List ℕ) (k : ℕ) (t t' : Tables) (r : Answer)
    → (l : Leaves (left_by script) words next links gens t)
    → engine.AnswersBundle l.calls k ns words next links gens t words' next' links' gens' t' r
    → LeavesBundle script k ns words' next' links' gens' t' r
leaves-bundle script ns words next links gens words' next' links' gens' k t t' r l q = record {
  answered = q.answered ∙ ap (λ (s : State). bundle_answer s k (bundle_of k ns)) l.left;
  leaves = record {
    calls = l.calls ++ counted (after l.calls) k (bundle_of k ns);
    grown = q.grown;
    left = sym (bundle-grows l.calls k (bundle_of k ns)) ∙ ap (λ (s : State). bundle_leaves s k (bundle_of k ns)) l.left;
  };
}

pub bundle-asked : (script ns words next links gens : List ℕ) (k n : ℕ) (t : Tables) (r : Answer) → LeavesBundle script k ns words next links gens t r
    → n ≡ coded r → n ≡ coded (bundle_answer (left_by script) k (bundle_of k ns))
bundle-asked script ns words next links gens k n t r l c = c ∙ ap coded l.answered
