-- Document 02, order 13, of the tables: the adds of a script that `plan` gave yield the wish, and where it said 25 nothing does.
use Prim.Native.Nat.{ℕ, ◌<◌}
use mathlib.Core.Path.{◌≡◌, refl, sym, ap, ◌∙◌}
use mathlib.Core.Bool.{Bool, true, true≢false, ◌&&◌}
use mathlib.Core.List.{List, [], ◌∷◌, ◌++◌, map}
use borrow.Author.Tests.{lt-ltb}
use lib.ListN.{length}
use Rattle.definitions.specs.Tests.{◌=?◌, all}
use Rattle.definitions.specs.Regions.{regions, permission_of}
use Rattle.definitions.specs.Pages.{permission_group}
use Rattle.definitions.specs.Reckoning.{Compartment, empty, reckoning, compartment_of}
use Rattle.definitions.specs.Questions.{ask, accepted}
use Rattle.definitions.specs.Calls.{State, compartment, permission_groups, answer_in, answer, next, after_from, after, fed}
use Rattle.definitions.specs.Bundles.{Step, single, bundle, step_answer, step_calls, step_leaves, done_from, done, calls_of, judged_from, judged, steps_fed}
use Rattle.definitions.specs.Planner.{wanted, plan, adds, changes}
use Rattle.definitions.specs.declared.call.Call.{Call}
use Rattle.definitions.proofs.Bools.{both}
use Rattle.definitions.proofs.PageLaws.{Wide, wide-map}
use Rattle.definitions.proofs.Fills.{three}
use Rattle.definitions.proofs.Reckoned.{length-after, reckoned}
use Rattle.definitions.proofs.Bundles.{AllAccepted, run-leaves-its-calls, run-feeds-its-calls, done-append, judged-append}
use Rattle.definitions.proofs.Planned.{listed, planned-on-tables, none-on-tables, page-taken, page-refused}
use Rattle.capability_engine.specs.CompartmentGrown.{page_left}
use Rattle.capability_engine.specs.WholeStream as said
use Rattle.capability_engine.specs.WholeStream.{Memory, GrownBy, Ran, Listed, steps_of, changes_in, Layout, NoLayout}
use Rattle.capability_engine.proofs.StreamLists.{map-append}
use Rattle.capability_engine.proofs.WholeStream.{told, flat, flat_map, accepted-many, read_whole}

-- a compartment's permission groups have three numbers each, and these are its permission list
pub permissions-wide : (c : Compartment) → Wide 3 (permission_groups c)
unfolding permission_groups
permissions-wide c = wide-map 3 (λ r. permission_group (permission_of r)) (λ r. three (permission_of r)) (regions c.values)

pub permissions-listed : (c : Compartment) → flat (permission_groups c) ≡ listed c
unfolding permission_groups
permissions-listed c = flat_map (λ r. permission_group (permission_of r)) (regions c.values)

-- the permission list that is read is the compartment's
listed-is : (m : Memory) (calls : List Call) → GrownBy m calls → (k : ℕ) → k < 8 → {got : List ℕ} → Listed m k got
    → got ≡ listed (compartment (after calls) k)
unfolding answer answer_in ask compartment_of page_left
listed-is m calls g k l (said.Listed.whole {many} {out} {out'} p few) =
    let c : Compartment = compartment (after calls) k in
    read_whole 3 (permission_groups c) (permissions-wide c) many out out'
    (accepted-many _ _ (simp (lt-ltb k 8 l) at (p calls g).reads.answered)) (simp (lt-ltb k 8 l) at (p calls g).slice) few
    ∙ permissions-listed c

-- calls by themselves, as steps
done-calls : (calls : List Call) (s : State) → done_from s (map single calls) ≡ after_from s calls
unfolding done_from step_leaves step_calls after_from
done-calls [] s = refl
done-calls (c ∷ cs) s = done-calls cs (next s c)

-- all of them are accepted exactly where each was told so
told-all : (calls : List Call) (s : State) → AllAccepted s calls → all (λ h. h.1) (judged_from s (map single calls)) ≡ true
unfolding judged_from step_answer step_leaves step_calls after_from
told-all [] s h = refl
told-all (c ∷ cs) s h = rw h.0 (told-all cs (next s c) h.1)

all_told : (calls : List Call) (s : State) → all (λ h. h.1) (judged_from s (map single calls)) ≡ true → AllAccepted s calls
unfolding judged_from step_answer step_leaves step_calls after_from
all_told [] s h = tt
all_told (c ∷ cs) s h =
    let p = both (accepted (answer s c)) (all (λ h. h.1) (judged_from (next s c) (map single cs))) h in
    (p.0, all_told cs (next s c) p.1)

same_rest : {A : Type 0} (front xs ys : List A) → front ++ xs ≡ front ++ ys → xs ≡ ys
same_rest [] xs ys e = e
same_rest (f ∷ front) xs ys e = same_rest front xs ys (cc)

-- a run that leaves compartment k empty, and behind it calls by themselves
module _ (m n : Memory) (heard added : List (Step × Bool)) (k : ℕ) (r : Ran m heard) (q : Ran n (heard ++ added))
    (bare : reckoning k (steps_fed heard) ≡ empty) (script : List Call) (e : steps_of added ≡ map single script) where
  abbrev calls : List Call
  calls = calls_of (steps_of heard)

  abbrev s : State
  s = after calls

  none : compartment s k ≡ empty
  unfolding fed
  none = reckoned calls k ∙ ap (reckoning k) (sym (ap steps_fed (told r).same ∙ run-feeds-its-calls (steps_of heard))) ∙ bare

  split : steps_of (heard ++ added) ≡ steps_of heard ++ map single script
  split = map-append (λ h. h.0) heard added ∙ ap (λ t. steps_of heard ++ t) e

  left : after (calls_of (steps_of (heard ++ added))) ≡ after_from s script
  left =
      sym (run-leaves-its-calls (steps_of (heard ++ added))) ∙ ap done split ∙ done-append (steps_of heard) (map single script)
      ∙ done-calls script (done (steps_of heard)) ∙ ap (λ t. after_from t script) (run-leaves-its-calls (steps_of heard))

  -- what was told of them is what the definitions say
  judged-so : added ≡ judged_from s (map single script)
  judged-so =
      same_rest heard added _
      ((told q).same ∙ ap judged split ∙ judged-append (steps_of heard) (map single script)
      ∙ ap (λ t. t ++ judged_from (done (steps_of heard)) (map single script)) (sym (told r).same)
      ∙ ap (λ t. heard ++ judged_from t (map single script)) (run-leaves-its-calls (steps_of heard)))

  -- and what is read behind them is what they leave
  read : k < 8 → {got : List ℕ} → Listed n k got → got ≡ listed (compartment (after_from s script) k)
  read l p = listed-is n (calls_of (steps_of (heard ++ added))) (told q).grown k l p ∙ ap (λ t. listed (compartment t k)) left

pub yields_the_wish : Layout
yields_the_wish m n heard added k ns from many out out' b r bare p q e =
    let script : List Call = adds k (plan (wanted ns)) in
    let c : List Call = calls_of (steps_of heard) in
    let can = page-taken (after c) k ns from (length out) many (p c (told r).grown).answered in
    let z = planned-on-tables (after c) (length-after c) k can.0 (none m n heard added k r q bare script e) ns b can.1 in
    record {
      taken = ap (all (λ h. h.1)) (judged-so m n heard added k r q bare script e) ∙ told-all script (after c) z.0;
      listed = λ got g. read m n heard added k r q bare script e can.0 g ∙ z.1;
    }

-- the calls of steps that are adds and removes
calls_alone : List (Step × Bool) → List Call
calls_alone [] = []
calls_alone ((single c, ok) ∷ hs) = c ∷ calls_alone hs
calls_alone ((bundle k ns, ok) ∷ hs) = calls_alone hs

record Alone (k : ℕ) (added : List (Step × Bool)) : Type 0 where
  steps : steps_of added ≡ map single (calls_alone added)
  own : all (λ c. (compartment_of c =? k) && changes c) (calls_alone added) ≡ true
  taken : all (λ h. h.1) added ≡ true

alone : (k : ℕ) (added : List (Step × Bool)) → all (λ h. changes_in k h.0 && h.1) added ≡ true → Alone k added
unfolding calls_alone changes_in
alone k [] h = record { steps = refl; own = refl; taken = refl }
alone k ((single c, ok) ∷ hs) h =
    let p = both (((compartment_of c =? k) && changes c) && ok) (all (λ h. changes_in k h.0 && h.1) hs) h in
    let q = both ((compartment_of c =? k) && changes c) ok p.0 in
    let t = alone k hs p.1 in
    record { steps = ap (λ xs. single c ∷ xs) t.steps; own = rw q.0 t.own; taken = rw q.1 t.taken }
alone k ((bundle j ns, ok) ∷ hs) h = absurd (true≢false (sym h))

pub no_script : NoLayout
no_script m n heard added k ns from out out' r bare p q o g =
    let t = alone k added o in
    let script : List Call = calls_alone added in
    let c : List Call = calls_of (steps_of heard) in
    let can = page-refused (after c) k ns from (length out) (p c (told r).grown).answered in
    let so = judged-so m n heard added k r q bare script t.steps in
    let all-taken = all_told script (after c) (sym (ap (all (λ h. h.1)) so) ∙ t.taken) in
    none-on-tables (after c) (length-after c) k can.0 (none m n heard added k r q bare script t.steps) ns can.1 script t.own all-taken
    (sym (read m n heard added k r q bare script t.steps can.0 g))
