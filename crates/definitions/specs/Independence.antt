-- Document 02, orders 4 and 9: what a run of calls and bundles gives one compartment, and what two runs must have in common to give it the same.
use Rattle.std.specs.Prelude.{ℕ, ◌≡◌, Bool, true, false, not, ◌&&◌, List, [], ◌∷◌, if◌then◌else◌}
use Rattle.definitions.specs.Tests.{◌=?◌}
use Rattle.definitions.specs.Reckoning.{Compartment, compartment_of}
use Rattle.definitions.specs.Calls.{State, start, compartment, allowance, others, answer}
use Rattle.definitions.specs.Bundles.{Step, single, bundle, step_answer, step_leaves, done}
use Rattle.definitions.specs.Answers.{Answer}
use Rattle.definitions.specs.declared.call.Call.{Call}
use Rattle.definitions.specs.declared.call.Call.TheVariants.{Add, Remove, Refcount, Overlaps, Map, Unmap, UnmapGpa, Permissions, Remap, Mappings, Allow}

-- is it S?
unfoldable pub allows : Call → Bool
allows (Allow k n) = true
allows (Add k a e r) = false
allows (Remove k a e r) = false
allows (Refcount k a e) = false
allows (Overlaps k g n) = false
allows (Map k h g n t) = false
allows (Unmap k h n) = false
allows (UnmapGpa k g n) = false
allows (Permissions k i n) = false
allows (Remap k i n) = false
allows (Mappings k) = false

-- is it compartment k's, and not S, whose answer alone depends on the others?
unfoldable pub own : ℕ → Step → Bool
own k (single c) = (compartment_of c =? k) && not (allows c)
own k (bundle j ns) = j =? k

-- "one compartment's calls and allowance at each of them", bundles among the calls: oldest first. What an S did is seen in the
-- allowances, so two runs need not agree on how often it was called.
unfoldable pub seen_from : ℕ → State → List Step → List (Step × ℕ)
seen_from k s [] = []
seen_from k s (x ∷ xs) =
    if own k x then (x, allowance s k) ∷ seen_from k (step_leaves s x) xs else seen_from k (step_leaves s x) xs

unfoldable pub seen : ℕ → List Step → List (Step × ℕ)
seen k steps = seen_from k start steps

-- the answer to each of these, with the compartment that it leaves
unfoldable pub got_from : ℕ → State → List Step → List (Answer × Compartment)
got_from k s [] = []
got_from k s (x ∷ xs) =
    if own k x then (step_answer s x, compartment (step_leaves s x) k) ∷ got_from k (step_leaves s x) xs
    else got_from k (step_leaves s x) xs

unfoldable pub got : ℕ → List Step → List (Answer × Compartment)
got k steps = got_from k start steps

-- Two runs that agree on one compartment's calls and allowance at each of them give it the same answers, lists and streams,
-- whatever the others do. (Regions, permissions, stream and pages are all made of the compartment's values and segments.)
-- Only the answer to S itself depends on the others' allowances, and that only on what these are together.
pub record SameFor (k : ℕ) (xs ys : List Step) : Type 0 where
  pub answers : got k xs ≡ got k ys
  pub left : compartment (done xs) k ≡ compartment (done ys) k
  pub allowing : others (done xs).allowances k ≡ others (done ys).allowances k
      → (n : ℕ) → answer (done xs) (Allow k n) ≡ answer (done ys) (Allow k n)
