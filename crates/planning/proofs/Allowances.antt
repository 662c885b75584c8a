-- The allowance of a tracker is the one that calls left its compartment, and a plan under it is the compartment's.
use Prim.Native.Nat.{ℕ, zero, suc, ◌<◌, ◌≤◌}
use mathlib.Core.Path.{◌≡◌, refl, sym, ap, ◌∙◌}
use mathlib.Core.List.{List, [], ◌∷◌}
use native.Mathlib.Omega.{arith}
use lib.ListN.{length, get_or}
use borrow.Author.Tests.{lt-ltb, le-ltb}
use Rattle.definitions.specs.Calls.{State, allowance, after}
use Rattle.definitions.specs.Questions.{ask}
use Rattle.definitions.specs.Planner.{plan_answer, plan_left}
use Rattle.definitions.specs.declared.answer.Refusal.TheVariants.{NoCompartment}
use Rattle.definitions.specs.Answers.{Answer}
use Rattle.std.specs.Prelude.{Err}
use Rattle.definitions.specs.declared.call.Call.{Call}
use Rattle.capability_engine.specs.declared.region.RegionTracker.{RegionTracker}
use Rattle.capability_engine.specs.declared.compartments.Tables.{Tables}
use Rattle.capability_engine.specs.CompartmentGrown.{allowances_of, Grown, ReadsPlan}
use Rattle.capability_engine.proofs.CompartmentFacts.{trackers-eight}
use Rattle.exports.specs.Exports.{coded, Leaves}
use Rattle.planner.specs.Page.{PlansPage}
use Rattle.planning.specs.Plans.{PlansAfter}

allowance-at : (ts : List RegionTracker) (k : ℕ) (d : RegionTracker) → k < length ts → get_or (allowances_of ts) k 0 ≡ (get_or ts k d).allowance
allowance-at [] k d l = absurd (omega arith)
allowance-at (t ∷ ts) zero d l = refl
allowance-at (t ∷ ts) (suc k) d l = allowance-at ts k d (omega arith)

module _ (words next links gens : List ℕ) (t : Tables) (calls : List Call) (g : Grown words next links gens t calls) where
  pub tracker-there : (k : ℕ) → k < 8 → k < length t.trackers
  tracker-there k l = omega (arith, trackers-eight words next links gens t calls g)

  allowance-is : (k : ℕ) (d : RegionTracker) → k < 8 → (get_or t.trackers k d).allowance ≡ allowance (after calls) k
  unfolding allowance
  allowance-is k d l = sym (allowance-at t.trackers k d (tracker-there k l)) ∙ ap (λ ms. get_or ms k 0) g.pooled.allowed

  module _ (k : ℕ) (ns : List ℕ) (from : ℕ) (out : List ℕ) where
    pub plan-nowhere : 8 ≤ k → ReadsPlan calls k ns from out out (Err NoCompartment)
    unfolding plan_answer plan_left ask
    plan-nowhere h = record { answered = simp (le-ltb k 8 h); slice = simp (le-ltb k 8 h) }

    pub plan-here : (d : RegionTracker) (out' : List ℕ) (r : Answer) → k < 8 → PlansPage (get_or t.trackers k d).allowance ns from out out' r
        → ReadsPlan calls k ns from out out' r
    unfolding plan_answer plan_left ask
    plan-here d out' r l p = record {
      answered = simp (lt-ltb k 8 l) (rw (sym (allowance-is k d l)) p.answered);
      slice = simp (lt-ltb k 8 l) (rw (sym (allowance-is k d l)) p.left);
    }

-- after a script
pub plans-after : (s : State) (words next links gens : List ℕ) (t : Tables) (k : ℕ) (ns : List ℕ) (from : ℕ) (out out' : List ℕ) (a : Answer) (r : ℕ)
    → (l : Leaves s words next links gens t) → ReadsPlan l.calls k ns from out out' a → r ≡ coded a → PlansAfter s k ns from out out' r
plans-after s words next links gens t k ns from out out' a r l p e = record {
  answered = e ∙ ap coded (p.answered ∙ ap (λ u. plan_answer u k ns from (length out)) l.left);
  slice = p.slice ∙ ap (λ u. plan_left u k ns from out) l.left;
}
