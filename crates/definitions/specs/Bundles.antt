-- Document 02, order 9: a bundle of adds and removes for one compartment, and runs of calls and bundles.
use Rattle.std.specs.Prelude.{ℕ, Bool, true, ◌||◌, List, [], ◌∷◌, ◌++◌, map, length, if◌then◌else◌}
use Rattle.definitions.specs.Tests.{◌<?◌, ◌≤?◌, ◌=?◌, bit, host}
use Rattle.definitions.specs.Questions.{ask, accepted}
use Rattle.definitions.specs.Calls.{State, start, answer, after_from}
use Rattle.definitions.specs.Script.{Line, call, malformed, left}
use Rattle.definitions.specs.declared.answer.Refusal.TheVariants.{NoCompartment, Malformed, BundleTooLong}
use Rattle.definitions.specs.Answers.{Answer}
use Rattle.std.specs.Prelude.{Ok, Err}
use Rattle.definitions.specs.declared.call.Call.{Call}
use Rattle.definitions.specs.declared.call.Call.TheVariants.{Add, Remove}

-- adds and removes for one compartment, lent as groups of four numbers: the kind, 0 for an add and 1 for a remove, then start, end
-- and rights; a group of another kind, or one that lacks numbers at the end, is not of the form
abbrev pub bundled : ℕ → ℕ → ℕ → ℕ → ℕ → Line
bundled k kind a e rights =
    if kind =? 0 then call (Add k (host a) (host e) rights)
    else if kind =? 1 then call (Remove k (host a) (host e) rights)
    else malformed

unfoldable pub bundle_of : ℕ → List ℕ → List Line
bundle_of k (kind ∷ a ∷ e ∷ rights ∷ ns) = bundled k kind a e rights ∷ bundle_of k ns
bundle_of k [] = []
bundle_of k (kind ∷ []) = malformed ∷ []
bundle_of k (kind ∷ a ∷ []) = malformed ∷ []
bundle_of k (kind ∷ a ∷ e ∷ []) = malformed ∷ []

-- the calls among its groups
unfoldable pub calls_in : List Line → List Call
calls_in [] = []
calls_in (call c ∷ gs) = c ∷ calls_in gs
calls_in (malformed ∷ gs) = calls_in gs

-- Judged one after another: if one is refused, the first refused call's number; if all are accepted, the change is 1 if any was.
abbrev pub and_then : Answer → Answer → Answer
and_then (Ok v) (Ok w) = Ok (bit ((v =? 1) || (w =? 1)))
and_then (Ok v) (Err r) = Err r
and_then (Err r) later = Err r

-- What is not of the form is refused with 17 when its turn comes.
abbrev pub told : State → Line → Answer
told s (call c) = answer s c
told s malformed = Err Malformed

unfoldable pub in_turn : State → List Line → Answer
in_turn s [] = Ok 0
in_turn s (g ∷ gs) = and_then (told s g) (in_turn (left s g) gs)

-- 24 when there are more than 32, asked after 1
unfoldable pub bundle_answer : State → ℕ → List Line → Answer
bundle_answer s k groups = ask ((k <? 8, NoCompartment) ∷ (length groups ≤? 32, BundleTooLong) ∷ []) (in_turn s groups)

-- An accepted bundle counts as its calls; of one that is refused nothing counts, and nothing is altered.
unfoldable pub counted : State → ℕ → List Line → List Call
counted s k groups = if accepted (bundle_answer s k groups) then calls_in groups else []

unfoldable pub bundle_leaves : State → ℕ → List Line → State
bundle_leaves s k groups = after_from s (counted s k groups)

-- a run: calls by themselves, and bundles for a compartment
pub data Step : Type 0 where
  single : Call → Step
  bundle : ℕ → List ℕ → Step

unfoldable pub step_answer : State → Step → Answer
step_answer s (single c) = answer s c
step_answer s (bundle k ns) = bundle_answer s k (bundle_of k ns)

-- the calls that a step counts as, and what it leaves
unfoldable pub step_calls : State → Step → List Call
step_calls s (single c) = c ∷ []
step_calls s (bundle k ns) = counted s k (bundle_of k ns)

unfoldable pub step_leaves : State → Step → State
step_leaves s x = after_from s (step_calls s x)

-- a list of steps, oldest first, each on what the last one left: what they leave, and the calls that they count as
unfoldable pub done_from : State → List Step → State
done_from s [] = s
done_from s (x ∷ xs) = done_from (step_leaves s x) xs

unfoldable pub calls_from : State → List Step → List Call
calls_from s [] = []
calls_from s (x ∷ xs) = step_calls s x ++ calls_from (step_leaves s x) xs

unfoldable pub done : List Step → State
done steps = done_from start steps

unfoldable pub calls_of : List Step → List Call
calls_of steps = calls_from start steps

-- each step with whether it was accepted
unfoldable pub judged_from : State → List Step → List (Step × Bool)
judged_from s [] = []
judged_from s (x ∷ xs) = (x, accepted (step_answer s x)) ∷ judged_from (step_leaves s x) xs

unfoldable pub judged : List Step → List (Step × Bool)
judged steps = judged_from start steps

-- The per-address reckoning counts an accepted bundle as its calls: what it is fed of a step, and of the steps of a run, by
-- whether each was accepted.
unfoldable pub step_fed : Step → Bool → List (Call × Bool)
step_fed (single c) ok = (c, ok) ∷ []
step_fed (bundle k ns) ok = if ok then map (λ c. (c, true)) (calls_in (bundle_of k ns)) else []

unfoldable pub steps_fed : List (Step × Bool) → List (Call × Bool)
steps_fed [] = []
steps_fed (x ∷ xs) = step_fed x.0 x.1 ++ steps_fed xs
