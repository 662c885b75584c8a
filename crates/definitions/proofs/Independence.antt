-- Document 02, orders 4 and 9: what a compartment gets is a function of its own calls and bundles and its allowance at each, so two
-- runs that agree on these give it the same.
use Rattle.std.specs.Prelude.{if◌then◌else◌}
use Prim.Native.Nat.{ℕ}
use mathlib.Core.Path.{◌≡◌, refl, sym, ap, ap₂, ◌∙◌}
use mathlib.Core.Bool.{Bool, true, false, true≢false, not, ◌&&◌}
use mathlib.Core.List.{List, [], ◌∷◌}
use lib.ListN.{length, get_or, set}
use borrow.Author.Tests.{eqb-true, eq-eqb}
use Rattle.definitions.specs.Tests.{◌<?◌, ◌≤?◌, ◌=?◌, host}
use Rattle.definitions.specs.Reckoning.{Compartment, empty, reckon, compartment_of}
use Rattle.definitions.specs.Questions.{ask, accepted, on_allow}
use Rattle.definitions.specs.Calls.{State, start, compartment, allowance, together, others, answer_in, answer, allowed, next, after_from, after}
use Rattle.definitions.specs.Script.{Line, call as says, malformed}
use Rattle.definitions.specs.Bundles.{bundled, bundle_of, calls_in, and_then, in_turn, bundle_answer, counted, Step, single, bundle, step_answer, step_calls, step_leaves, done_from, done}
use Rattle.definitions.specs.Independence.{allows, own, seen_from, seen, got_from, got, SameFor}
use Rattle.definitions.specs.declared.answer.Refusal.TheVariants.{NoCompartment, Malformed, PoolExceeded, BundleTooLong}
use Rattle.definitions.specs.Answers.{Answer}
use Rattle.std.specs.Prelude.{Ok, Err}
use Rattle.definitions.specs.declared.call.Call.{Call}
use Rattle.definitions.specs.declared.call.Call.TheVariants.{Add, Remove, Refcount, Overlaps, Map, Unmap, UnmapGpa, Permissions, Remap, Mappings, Allow}
use Rattle.definitions.proofs.Reckoned.{set_same, next-accepted, next-allowed, next-refused, length-next, next-at, length-after_from, start-empty}
use Rattle.definitions.proofs.Tables.{no_table, allow_on, answer_on, leaves, start_on, asks_on, next_on, after_on}
use Rattle.definitions.proofs.TableLaws.{shows-start, asks-is, after_is}
use Rattle.definitions.proofs.Bundles.{done-length}

-- the answer of compartment c, with its allowance, to a call of its own, as if there were no others
unfoldable pub alone : Compartment → Call × ℕ → Answer
alone c x = ask ((compartment_of x.0 <? 8, NoCompartment) ∷ []) (answer_in 0 x.1 c x.0)

-- what it leaves
unfoldable pub leaves_alone : Compartment → Call × ℕ → Compartment
leaves_alone c x = if accepted (alone c x) then reckon x.0 c else c

-- the same of a bundle's calls in turn
unfoldable pub turn_alone : ℕ → Compartment → List Line → Answer
turn_alone m c [] = Ok 0
turn_alone m c (says x ∷ gs) = and_then (alone c (x, m)) (turn_alone m (leaves_alone c (x, m)) gs)
turn_alone m c (malformed ∷ gs) = Err Malformed

unfoldable pub after_alone : ℕ → Compartment → List Call → Compartment
after_alone m c [] = c
after_alone m c (x ∷ xs) = after_alone m (leaves_alone c (x, m)) xs

-- of a step
unfoldable pub step_alone : Compartment → Step → ℕ → Answer
step_alone c (single x) m = alone c (x, m)
step_alone c (bundle k ns) m =
    ask ((k <? 8, NoCompartment) ∷ (length (bundle_of k ns) ≤? 32, BundleTooLong) ∷ []) (turn_alone m c (bundle_of k ns))

unfoldable pub step_left : Compartment → Step → ℕ → Compartment
step_left c (single x) m = leaves_alone c (x, m)
step_left c (bundle k ns) m = if accepted (step_alone c (bundle k ns) m) then after_alone m c (calls_in (bundle_of k ns)) else c

-- the answers, and what all steps leave
unfoldable pub got_alone : Compartment → List (Step × ℕ) → List (Answer × Compartment)
got_alone c [] = []
got_alone c (x ∷ xs) = (step_alone c x.0 x.1, step_left c x.0 x.1) ∷ got_alone (step_left c x.0 x.1) xs

unfoldable pub left_alone : Compartment → List (Step × ℕ) → Compartment
left_alone c [] = c
left_alone c (x ∷ xs) = left_alone (step_left c x.0 x.1) xs

-- Only S asks what the others are allowed
only-allows-asks : (n m : ℕ) (c : Compartment) (call : Call) → allows call ≡ false → answer_in n m c call ≡ answer_in 0 m c call
unfolding allows answer_in
only-allows-asks n m c (Allow k new) h = absurd (true≢false h)
only-allows-asks n m c (Add k a e r) h = refl
only-allows-asks n m c (Remove k a e r) h = refl
only-allows-asks n m c (Refcount k a e) h = refl
only-allows-asks n m c (Overlaps k g size) h = refl
only-allows-asks n m c (Map k p g size t) h = refl
only-allows-asks n m c (Unmap k p size) h = refl
only-allows-asks n m c (UnmapGpa k g size) h = refl
only-allows-asks n m c (Permissions k i room) h = refl
only-allows-asks n m c (Remap k i room) h = refl
only-allows-asks n m c (Mappings k) h = refl

-- and S changes neither values nor segments
allows-leaves : (c : Compartment) (call : Call) → allows call ≡ true → reckon call c ≡ c
unfolding allows reckon
allows-leaves c (Allow k n) h = refl
allows-leaves c (Add k a e r) h = absurd (true≢false (sym h))
allows-leaves c (Remove k a e r) h = absurd (true≢false (sym h))
allows-leaves c (Refcount k a e) h = absurd (true≢false (sym h))
allows-leaves c (Overlaps k g size) h = absurd (true≢false (sym h))
allows-leaves c (Map k p g size t) h = absurd (true≢false (sym h))
allows-leaves c (Unmap k p size) h = absurd (true≢false (sym h))
allows-leaves c (UnmapGpa k g size) h = absurd (true≢false (sym h))
allows-leaves c (Permissions k i room) h = absurd (true≢false (sym h))
allows-leaves c (Remap k i room) h = absurd (true≢false (sym h))
allows-leaves c (Mappings k) h = absurd (true≢false (sym h))

-- nor any other call an allowance
pub others-leave : (m : ℕ) (call : Call) → allows call ≡ false → allowed call m ≡ m
unfolding allows allowed
others-leave m (Allow k n) h = absurd (true≢false h)
others-leave m (Add k a e r) h = refl
others-leave m (Remove k a e r) h = refl
others-leave m (Refcount k a e) h = refl
others-leave m (Overlaps k g size) h = refl
others-leave m (Map k p g size t) h = refl
others-leave m (Unmap k p size) h = refl
others-leave m (UnmapGpa k g size) h = refl
others-leave m (Permissions k i room) h = refl
others-leave m (Remap k i room) h = refl
others-leave m (Mappings k) h = refl

-- One call

pub allowances-kept : (s : State) (call : Call) → allows call ≡ false → (next s call).allowances ≡ s.allowances
unfolding allowance
allowances-kept s call h = go (accepted (answer s call)) refl
  where
    go : (t : Bool) → accepted (answer s call) ≡ t → (next s call).allowances ≡ s.allowances
    go true d = next-allowed s call d ∙ ap (set s.allowances (compartment_of call)) (others-leave _ call h) ∙ set_same s.allowances (compartment_of call) 0
    go false d = ap (λ t. t.allowances) (next-refused s call d)

pub allowance-kept : (s : State) (call : Call) (k : ℕ) → allows call ≡ false → allowance (next s call) k ≡ allowance s k
unfolding allowance
allowance-kept s call k h = ap (λ ms. get_or ms k 0) (allowances-kept s call h)

pub compartments-kept : (s : State) (call : Call) → allows call ≡ true → (next s call).compartments ≡ s.compartments
unfolding compartment
compartments-kept s call h = go (accepted (answer s call)) refl
  where
    go : (t : Bool) → accepted (answer s call) ≡ t → (next s call).compartments ≡ s.compartments
    go true d = next-accepted s call d ∙ ap (set s.compartments (compartment_of call)) (allows-leaves _ call h) ∙ set_same s.compartments (compartment_of call) empty
    go false d = ap (λ t. t.compartments) (next-refused s call d)

pub own-answer : (s : State) (call : Call) → allows call ≡ false
    → answer s call ≡ alone (compartment s (compartment_of call)) (call, allowance s (compartment_of call))
unfolding answer alone
own-answer s call h = ap (ask _) (only-allows-asks _ _ _ call h)

-- the answer to S is made of what the others are allowed together, and of the compartment's records in use
pub allow-answer : (k n : ℕ) (s t : State) → others s.allowances k ≡ others t.allowances k → compartment s k ≡ compartment t k
    → answer s (Allow k n) ≡ answer t (Allow k n)
unfolding answer answer_in compartment_of
allow-answer k n s t q c = ap₂ (λ o d. ask ((k <? 8, NoCompartment) ∷ []) (on_allow o d n)) q c

-- a compartment's own call names it, and is not S
pub own_is : (k : ℕ) (call : Call) → own k (single call) ≡ true → (compartment_of call ≡ k) × (allows call ≡ false)
unfolding own
own_is k call h = go (compartment_of call =? k) refl (allows call) refl
  where
    go : (b : Bool) → (compartment_of call =? k) ≡ b → (t : Bool) → allows call ≡ t → (compartment_of call ≡ k) × (allows call ≡ false)
    go true e false d = (eqb-true (compartment_of call) k e, d)
    go true e true d = absurd (true≢false (sym (simp (e, d) at h)))
    go false e t d = absurd (true≢false (sym (simp e at h)))

-- it leaves what it would leave alone; any other call leaves the compartment as it is
module _ (k : ℕ) (s : State) (l : length s.compartments ≡ 8) (call : Call) where
  own-left : own k (single call) ≡ true → compartment (next s call) k ≡ leaves_alone (compartment s k) (call, allowance s k)
  unfolding leaves_alone
  own-left h =
      let is = own_is k call h in
      next-at s call k l ∙ simp (eq-eqb (compartment_of call) k is.0) (ap (λ a. if accepted a then reckon call (compartment s k) else compartment s k) (rw is.0 at (own-answer s call is.1)))

  other-left : own k (single call) ≡ false → compartment (next s call) k ≡ compartment s k
  unfolding own compartment
  other-left h = go (allows call) refl (compartment_of call =? k) refl
    where
      go : (b : Bool) → allows call ≡ b → (t : Bool) → (compartment_of call =? k) ≡ t → compartment (next s call) k ≡ compartment s k
      go true d t e = ap (λ cs. get_or cs k empty) (compartments-kept s call d)
      go false d false e = next-at s call k l ∙ simp e
      go false d true e = absurd (true≢false (simp (e, d) at h))

-- A bundle's calls

-- all are the compartment's own
abbrev pub Own : ℕ → List Call → Type 0
Own k [] = Unit {0}
Own k (c ∷ cs) = (own k (single c) ≡ true) × Own k cs

bundled-own : (k kind a e rights : ℕ) (gs : List Line) → Own k (calls_in gs) → Own k (calls_in (bundled k kind a e rights ∷ gs))
unfolding own compartment_of allows calls_in
bundled-own k kind a e rights gs h = go (kind =? 0) (kind =? 1)
  where
    mine : ((k =? k) && true) ≡ true
    mine = rw (eq-eqb k k refl)

    go : (b c : Bool)
        → Own k (calls_in ((if b then says (Add k (host a) (host e) rights) else if c then says (Remove k (host a) (host e) rights) else malformed) ∷ gs))
    go true c = (mine, h)
    go false true = (mine, h)
    go false false = h

pub bundle-own : (k : ℕ) (ns : List ℕ) → Own k (calls_in (bundle_of k ns))
unfolding bundle_of calls_in
bundle-own k [] = tt
bundle-own k (kind ∷ []) = tt
bundle-own k (kind ∷ a ∷ []) = tt
bundle-own k (kind ∷ a ∷ e ∷ []) = tt
bundle-own k (kind ∷ a ∷ e ∷ rights ∷ ns) = bundled-own k kind a e rights (bundle_of k ns) (bundle-own k ns)

-- what is one compartment's own is no other's
not_own : (j k : ℕ) (call : Call) → (j =? k) ≡ false → own j (single call) ≡ true → own k (single call) ≡ false
unfolding own
not_own j k call n h =
    let is = own_is j call h in
    ap (λ i. (i =? k) && not (allows call)) is.0 ∙ rw n

module _ (k : ℕ) where
  own-told : (s : State) (c : Call) → own k (single c) ≡ true → answer s c ≡ alone (compartment s k) (c, allowance s k)
  own-told s c h = let is = own_is k c h in rw is.0 at (own-answer s c is.1)

  same-allowance : (s : State) (c : Call) → own k (single c) ≡ true → allowance (next s c) k ≡ allowance s k
  same-allowance s c h = allowance-kept s c k (own_is k c h).1

  turn-alone : (groups : List Line) (s : State) → length s.compartments ≡ 8 → Own k (calls_in groups)
      → in_turn s groups ≡ turn_alone (allowance s k) (compartment s k) groups
  unfolding in_turn turn_alone calls_in
  turn-alone [] s l h = refl
  turn-alone (says c ∷ gs) s l h =
      ap₂ and_then (own-told s c h.0)
      (turn-alone gs (next s c) (length-next s c ∙ l) h.1
      ∙ ap₂ (λ m d. turn_alone m d gs) (same-allowance s c h.0) (own-left k s l c h.0))
  turn-alone (malformed ∷ gs) s l h = refl

  after-alone : (calls : List Call) (s : State) → length s.compartments ≡ 8 → Own k calls
      → compartment (after_from s calls) k ≡ after_alone (allowance s k) (compartment s k) calls
  unfolding after_from after_alone
  after-alone [] s l h = refl
  after-alone (c ∷ cs) s l h =
      after-alone cs (next s c) (length-next s c ∙ l) h.1
      ∙ ap₂ (λ m d. after_alone m d cs) (same-allowance s c h.0) (own-left k s l c h.0)

  -- another compartment's calls
  others-left : (j : ℕ) → (j =? k) ≡ false → (calls : List Call) (s : State) → length s.compartments ≡ 8 → Own j calls
      → compartment (after_from s calls) k ≡ compartment s k
  unfolding after_from
  others-left j n [] s l h = refl
  others-left j n (c ∷ cs) s l h =
      others-left j n cs (next s c) (length-next s c ∙ l) h.1 ∙ other-left k s l c (not_own j k c n h.0)

  -- One step

  bundle-alone : (s : State) → length s.compartments ≡ 8 → (ns : List ℕ)
      → bundle_answer s k (bundle_of k ns) ≡ step_alone (compartment s k) (bundle k ns) (allowance s k)
  unfolding bundle_answer step_alone
  bundle-alone s l ns = ap (ask _) (turn-alone (bundle_of k ns) s l (bundle-own k ns))

  step-told : (s : State) → length s.compartments ≡ 8 → (x : Step) → own k x ≡ true
      → step_answer s x ≡ step_alone (compartment s k) x (allowance s k)
  unfolding own step_answer step_alone
  step-told s l (single c) h = own-told s c h
  step-told s l (bundle j ns) h =
      let q : j ≡ k = eqb-true j k h in
      rw q (bundle-alone s l ns)

  step-left : (s : State) → length s.compartments ≡ 8 → (x : Step) → own k x ≡ true
      → compartment (step_leaves s x) k ≡ step_left (compartment s k) x (allowance s k)
  unfolding own step_leaves step_calls step_left counted after_from
  step-left s l (single c) h = own-left k s l c h
  step-left s l (bundle j ns) h =
      let q : j ≡ k = eqb-true j k h in
      rw q (rw (← (bundle-alone s l ns)) (go (accepted (bundle_answer s k (bundle_of k ns)))))
    where
      go : (b : Bool) → compartment (after_from s (if b then calls_in (bundle_of k ns) else [])) k
          ≡ (if b then after_alone (allowance s k) (compartment s k) (calls_in (bundle_of k ns)) else compartment s k)
      go true = after-alone (calls_in (bundle_of k ns)) s l (bundle-own k ns)
      go false = refl

  pub step_other : (s : State) → length s.compartments ≡ 8 → (x : Step) → own k x ≡ false
      → compartment (step_leaves s x) k ≡ compartment s k
  unfolding own step_leaves step_calls counted after_from
  step_other s l (single c) h = other-left k s l c h
  step_other s l (bundle j ns) h = go (accepted (bundle_answer s j (bundle_of j ns)))
    where
      go : (b : Bool) → compartment (after_from s (if b then calls_in (bundle_of j ns) else [])) k ≡ compartment s k
      go true = others-left j h (calls_in (bundle_of j ns)) s l (bundle-own j ns)
      go false = refl

  pub step-length : (s : State) → length s.compartments ≡ 8 → (x : Step) → length (step_leaves s x).compartments ≡ 8
  unfolding step_leaves
  step-length s l x = length-after_from (step_calls s x) s ∙ l

  -- Every run

  left_from-alone : (steps : List Step) (s : State) → length s.compartments ≡ 8
      → compartment (done_from s steps) k ≡ left_alone (compartment s k) (seen_from k s steps)
  unfolding done_from seen_from left_alone
  left_from-alone [] s l = refl
  left_from-alone (x ∷ xs) s l = left_from-alone xs (step_leaves s x) (step-length s l x) ∙ go (own k x) refl
    where
      go : (b : Bool) → own k x ≡ b
          → left_alone (compartment (step_leaves s x) k) (seen_from k (step_leaves s x) xs) ≡ left_alone (compartment s k) (seen_from k s (x ∷ xs))
      go true e = simp e (ap (λ d. left_alone d (seen_from k (step_leaves s x) xs)) (step-left s l x e))
      go false e = simp e (ap (λ d. left_alone d (seen_from k (step_leaves s x) xs)) (step_other s l x e))

  got_from-alone : (steps : List Step) (s : State) → length s.compartments ≡ 8
      → got_from k s steps ≡ got_alone (compartment s k) (seen_from k s steps)
  unfolding got_from seen_from got_alone
  got_from-alone [] s l = refl
  got_from-alone (x ∷ xs) s l = go (own k x) refl (got_from-alone xs (step_leaves s x) (step-length s l x))
    where
      go : (b : Bool) → own k x ≡ b
          → got_from k (step_leaves s x) xs ≡ got_alone (compartment (step_leaves s x) k) (seen_from k (step_leaves s x) xs)
          → got_from k s (x ∷ xs) ≡ got_alone (compartment s k) (seen_from k s (x ∷ xs))
      go false e ih = simp e (ih ∙ ap (λ d. got_alone d (seen_from k (step_leaves s x) xs)) (step_other s l x e))
      go true e ih =
          let left_by = step-left s l x e in
          simp e (ap₂ ◌∷◌ (ap₂ (λ (a : Answer) (d : Compartment). (a, d)) (step-told s l x e) left_by)
          (ih ∙ ap (λ d. got_alone d (seen_from k (step_leaves s x) xs)) left_by))

  pub got-alone : (steps : List Step) → got k steps ≡ got_alone empty (seen k steps)
  unfolding got seen start
  got-alone steps = got_from-alone steps start refl ∙ ap (λ c. got_alone c (seen_from k start steps)) (start-empty k)

  pub left-alone : (steps : List Step) → compartment (done steps) k ≡ left_alone empty (seen k steps)
  unfolding done seen start
  left-alone steps = left_from-alone steps start refl ∙ ap (λ c. left_alone c (seen_from k start steps)) (start-empty k)

  -- Two runs that agree on one compartment's calls and allowance at each of them
  pub independent : (xs ys : List Step) → seen k xs ≡ seen k ys → SameFor k xs ys
  independent xs ys e = record {
    answers = got-alone xs ∙ ap (got_alone empty) e ∙ sym (got-alone ys);
    left = same;
    allowing = λ q n. allow-answer k n (done xs) (done ys) q same;
  }
    where
      same : compartment (done xs) k ≡ compartment (done ys) k
      same = left-alone xs ∙ ap (left_alone empty) e ∙ sym (left-alone ys)

  -- Two runs that leave it one compartment and one allowance answer its next call or bundle alike
  pub same_answer : (xs ys : List Step) → compartment (done xs) k ≡ compartment (done ys) k → (x : Step) → own k x ≡ true
      → allowance (done xs) k ≡ allowance (done ys) k → step_answer (done xs) x ≡ step_answer (done ys) x
  same_answer xs ys e x o m =
      step-told (done xs) (done-length xs) x o ∙ ap₂ (λ (c : Compartment) (n : ℕ). step_alone c x n) e m
      ∙ sym (step-told (done ys) (done-length ys) x o)

-- The answer to S does depend on them: compartment 0 sees nothing of what 1 gives up, and gets it

seen_alike : seen 0 [] ≡ seen 0 (single (Allow 1 127) ∷ [])
unfolding seen seen_from own compartment_of
seen_alike = refl

refused-first : answer (after []) (Allow 0 129) ≡ Err PoolExceeded
unfolding after after_from start answer answer_in compartment_of on_allow ask others together
refused-first = refl

had-then : answer (after (Allow 1 127 ∷ [])) (Allow 0 129) ≡ Ok 0
unfolding after asks_on after_on next_on start_on answer_on allow_on leaves no_table allowed compartment_of ask others together
had-then =
    asks-is (after (Allow 1 127 ∷ [])) (after_on start_on (Allow 1 127 ∷ []))
    (after_is (Allow 1 127 ∷ []) start start_on (tt, tt) shows-start) (Allow 0 129) tt
