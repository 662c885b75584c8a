-- Document 02, order 9: a bundle is its calls, or nothing, so what is proved of lists of calls holds of runs with bundles.
use Rattle.std.specs.Prelude.{if◌then◌else◌}
use Prim.Native.Nat.{ℕ, ◌+◌, ◌/◌, ◌<◌, ◌≤◌}
use mathlib.Core.Path.{◌≡◌, refl, sym, ap, ap₂, ◌∙◌}
use mathlib.Core.Bool.{Bool, true, false, true≢false, ◌||◌}
use mathlib.Core.List.{List, [], ◌∷◌, ◌++◌, map, append-nil, append_assoc}
use lib.ListN.{length, get_or, drop}
use native.Mathlib.Omega.{arith}
use borrow.Author.Tests.{lt-ltb, le-ltb, le-leb, lt-leb, ltb-true, leb-true, ne_eqb}
use Rattle.definitions.specs.Tests.{◌<?◌, ◌≤?◌, ◌=?◌, bit}
use Rattle.definitions.specs.Reckoning.{reckoning}
use Rattle.definitions.specs.Questions.{ask, accepted, value_of}
use Rattle.definitions.specs.Calls.{State, start, compartment, answer, next, after_from, after, fed_from, fed}
use Rattle.definitions.specs.Bundles.{bundled, bundle_of, calls_in, and_then, told, in_turn, bundle_answer, counted, bundle_leaves, Step, single, bundle, step_answer, step_calls, step_leaves, done_from, calls_from, done, calls_of, judged_from, judged, step_fed, steps_fed}
use Rattle.definitions.specs.Script.{Line, call, malformed, left}
use Rattle.definitions.specs.declared.answer.Refusal.TheVariants.{NoCompartment, Malformed, BundleTooLong}
use Rattle.definitions.specs.Answers.{Answer}
use Rattle.std.specs.Prelude.{Ok, Err}
use Rattle.definitions.specs.declared.call.Call.{Call}
use Rattle.definitions.proofs.Bools.{or-false, or_assoc, one_bit}
use Rattle.definitions.proofs.Passed.{passed}
use Rattle.definitions.proofs.Reckoned.{length-after, after_from-append, fed_from-append, after-append, reckoned}
use Rattle.definitions.proofs.Demand.{Demand3, demand3}

-- each call is accepted, after the ones before it
abbrev pub AllAccepted : State → List Call → Type 0
AllAccepted s [] = Unit {0}
AllAccepted s (c ∷ cs) = (accepted (answer s c) ≡ true) × AllAccepted (next s c) cs

-- one more
pub all-accepted-snoc : (s : State) (cs : List Call) (c : Call) → AllAccepted s cs → accepted (answer (after_from s cs) c) ≡ true
    → AllAccepted s (cs ++ (c ∷ []))
unfolding after_from
all-accepted-snoc s [] c h g = (g, tt)
all-accepted-snoc s (b ∷ cs) c h g = (h.0, all-accepted-snoc (next s b) cs c h.1 g)

-- Answers in turn

both-accepted : (x y : Answer) → accepted (and_then x y) ≡ true → (accepted x ≡ true) × (accepted y ≡ true)
both-accepted (Ok v) (Ok w) h = (refl, refl)
both-accepted (Ok v) (Err r) h = absurd (true≢false (sym h))
both-accepted (Err r) y h = absurd (true≢false (sym h))

and-accepted : (x y : Answer) → accepted x ≡ true → accepted y ≡ true → accepted (and_then x y) ≡ true
and-accepted (Ok v) (Ok w) h g = refl
and-accepted (Ok v) (Err r) h g = absurd (true≢false (sym g))
and-accepted (Err r) y h g = absurd (true≢false (sym h))

-- the first refusal is the answer, whatever comes after it
refused-stays : (x y : Answer) → accepted x ≡ false → and_then x y ≡ x
refused-stays (Ok v) y h = absurd (true≢false h)
refused-stays (Err r) y h = refl

refused-comes : (x y : Answer) → accepted x ≡ true → accepted y ≡ false → and_then x y ≡ y
refused-comes (Ok v) (Ok w) h g = absurd (true≢false g)
refused-comes (Ok v) (Err r) h g = refl
refused-comes (Err r) y h g = absurd (true≢false (sym h))

-- all groups are of the form
abbrev pub Formed : List Line → Type 0
Formed groups = groups ≡ map call (calls_in groups)

turn-accepted : (s : State) (groups : List Line) → accepted (in_turn s groups) ≡ true → Formed groups × AllAccepted s (calls_in groups)
unfolding in_turn calls_in
turn-accepted s [] h = (refl, tt)
turn-accepted s (call c ∷ gs) h =
    let p = both-accepted (answer s c) (in_turn (next s c) gs) h in
    let t = turn-accepted (next s c) gs p.1 in
    (ap (λ l. call c ∷ l) t.0, (p.0, t.1))
turn-accepted s (malformed ∷ gs) h = absurd (true≢false (sym h))

accepted-turn : (s : State) (calls : List Call) → AllAccepted s calls → accepted (in_turn s (map call calls)) ≡ true
unfolding in_turn
accepted-turn s [] h = refl
accepted-turn s (c ∷ cs) h = and-accepted (answer s c) (in_turn (next s c) (map call cs)) h.0 (accepted-turn (next s c) cs h.1)

turn-refused : (s : State) (cs : List Call) (g : Line) (gs : List Line) → AllAccepted s cs → accepted (told (after_from s cs) g) ≡ false
    → in_turn s (map call cs ++ (g ∷ gs)) ≡ told (after_from s cs) g
unfolding in_turn after_from
turn-refused s [] g gs h n = refused-stays (told s g) (in_turn (left s g) gs) n
turn-refused s (b ∷ cs) g gs h n =
    let t = turn-refused (next s b) cs g gs h.1 n in
    refused-comes (answer s b) (in_turn (next s b) (map call cs ++ (g ∷ gs))) h.0 (ap accepted t ∙ n) ∙ t

-- is one of them a change?
abbrev pub some_change : State → List Call → Bool
some_change s [] = false
some_change s (c ∷ cs) = (value_of (answer s c) =? 1) || some_change (next s c) cs

pub some-change-snoc : (s : State) (cs : List Call) (c : Call)
    → some_change s (cs ++ (c ∷ [])) ≡ (some_change s cs || (value_of (answer (after_from s cs) c) =? 1))
unfolding after_from
some-change-snoc s [] c = or-false (value_of (answer s c) =? 1)
some-change-snoc s (b ∷ cs) c =
    rw (some-change-snoc (next s b) cs c)
    (or_assoc (value_of (answer s b) =? 1) (some_change (next s b) cs) (value_of (answer (after_from (next s b) cs) c) =? 1))

turn-change : (s : State) (calls : List Call) → AllAccepted s calls → in_turn s (map call calls) ≡ Ok (bit (some_change s calls))
unfolding in_turn
turn-change s [] h = refl
turn-change s (c ∷ cs) h = rw (turn-change (next s c) cs h.1) (go (answer s c) h.0)
  where
    go : (x : Answer) → accepted x ≡ true
        → and_then x (Ok (bit (some_change (next s c) cs))) ≡ Ok (bit ((value_of x =? 1) || some_change (next s c) cs))
    go (Ok v) g = rw one_bit
    go (Err r) g = absurd (true≢false (sym g))

-- what the reckoning is fed of calls that are all accepted
accepted-fed : (s : State) (calls : List Call) → AllAccepted s calls → fed_from s calls ≡ map (λ c. (c, true)) calls
unfolding fed_from
accepted-fed s [] h = refl
accepted-fed s (c ∷ cs) h = ap₂ (λ (b : Bool) (l : List (Call × Bool)). (c, b) ∷ l) h.0 (accepted-fed (next s c) cs h.1)

-- One bundle

module _ (s : State) (k : ℕ) (groups : List Line) where
  -- 1, then 24
  pub bundle-nowhere : 8 ≤ k → bundle_answer s k groups ≡ Err NoCompartment
  unfolding bundle_answer ask
  bundle-nowhere l = rw (le-ltb k 8 l)

  pub bundle-too-long : k < 8 → 32 < length groups → bundle_answer s k groups ≡ Err BundleTooLong
  unfolding bundle_answer ask
  bundle-too-long l m = rw (lt-ltb k 8 l, lt-leb (length groups) 32 m)

  -- accepted: it names a compartment, is short enough, is of the form, and each of its calls is accepted after the ones before it
  pub bundle-accepted : accepted (bundle_answer s k groups) ≡ true
      → (k < 8) × (length groups ≤ 32) × Formed groups × AllAccepted s (calls_in groups)
  unfolding bundle_answer
  bundle-accepted h =
      let p = passed ((k <? 8, NoCompartment) ∷ (length groups ≤? 32, BundleTooLong) ∷ []) (in_turn s groups) h in
      let t = turn-accepted s groups p.1 in
      (ltb-true k 8 p.0.0, leb-true (length groups) 32 p.0.1.0, t.0, t.1)

  in-turn : k < 8 → length groups ≤ 32 → bundle_answer s k groups ≡ in_turn s groups
  unfolding bundle_answer ask
  in-turn l m = rw (lt-ltb k 8 l, le-leb (length groups) 32 m)

  pub accepted-bundle : k < 8 → length groups ≤ 32 → Formed groups → AllAccepted s (calls_in groups)
      → accepted (bundle_answer s k groups) ≡ true
  accepted-bundle l m f h =
      ap accepted (in-turn l m) ∙ ap (λ gs. accepted (in_turn s gs)) f ∙ accepted-turn s (calls_in groups) h

  -- an accepted bundle leaves what its calls leave one by one
  pub accepted-bundle-leaves-its-calls : accepted (bundle_answer s k groups) ≡ true → bundle_leaves s k groups ≡ after_from s (calls_in groups)
  unfolding bundle_leaves counted
  accepted-bundle-leaves-its-calls h = simp h

  -- a refused one alters nothing
  pub refused-bundle-alters-nothing : accepted (bundle_answer s k groups) ≡ false → bundle_leaves s k groups ≡ s
  unfolding bundle_leaves counted after_from
  refused-bundle-alters-nothing h = simp h

  -- the change is 1 if any was
  pub change-if-any : accepted (bundle_answer s k groups) ≡ true → bundle_answer s k groups ≡ Ok (bit (some_change s (calls_in groups)))
  change-if-any h =
      let p = bundle-accepted h in
      in-turn p.0 p.1 ∙ ap (in_turn s) p.2 ∙ turn-change s (calls_in groups) p.3

  -- the reckoning counts an accepted bundle as its calls, all accepted, and of a refused one nothing
  pub bundle-fed : fed_from s (counted s k groups) ≡ map (λ c. (c, true)) (counted s k groups)
  unfolding counted fed_from
  bundle-fed = go (accepted (bundle_answer s k groups)) refl
    where
      go : (b : Bool) → accepted (bundle_answer s k groups) ≡ b
          → fed_from s (if b then calls_in groups else []) ≡ map (λ c. (c, true)) (if b then calls_in groups else [])
      go true h = accepted-fed s (calls_in groups) (bundle-accepted h).3
      go false h = refl

-- garbage never becomes a remove: a third kind is no call
pub third-kind-is-no-call : (k kind a e rights : ℕ) → 2 ≤ kind → bundled k kind a e rights ≡ malformed
third-kind-is-no-call k kind a e rights h = rw (ne_eqb kind 0 (λ z. omega (arith, h, z)), ne_eqb kind 1 (λ z. omega (arith, h, z)))

-- one for each four numbers, and one for what is left of them
pub bundle-length : (k : ℕ) (ns : List ℕ) → length (bundle_of k ns) ≡ (length ns + 3) / 4
unfolding bundle_of
bundle-length k [] = refl
bundle-length k (kind ∷ []) = refl
bundle-length k (kind ∷ a ∷ []) = refl
bundle-length k (kind ∷ a ∷ e ∷ []) = refl
bundle-length k (kind ∷ a ∷ e ∷ rights ∷ ns) = omega (arith, bundle-length k ns)

-- on tables that calls grew, a bundle is more calls, or none
pub bundle-grows : (calls : List Call) (k : ℕ) (groups : List Line)
    → bundle_leaves (after calls) k groups ≡ after (calls ++ counted (after calls) k groups)
unfolding bundle_leaves
bundle-grows calls k groups = sym (after-append calls (counted (after calls) k groups))

-- the number is that of the first refused one, as judged after the ones before it
module _ (s : State) (k : ℕ) (cs : List Call) (gs : List Line) (l : k < 8) (h : AllAccepted s cs) where
  pub first-refused-is-the-answer : (g : Line) → length (map call cs ++ (g ∷ gs)) ≤ 32 → accepted (told (after_from s cs) g) ≡ false
      → bundle_answer s k (map call cs ++ (g ∷ gs)) ≡ told (after_from s cs) g
  first-refused-is-the-answer g m n = in-turn s k (map call cs ++ (g ∷ gs)) l m ∙ turn-refused s cs g gs h n

  -- of what is not of the form that is 17
  pub first-malformed-is-17 : length (map call cs ++ (malformed ∷ gs)) ≤ 32
      → bundle_answer s k (map call cs ++ (malformed ∷ gs)) ≡ Err Malformed
  first-malformed-is-17 m = first-refused-is-the-answer malformed m refl

-- Every run: its steps leave, and feed to the reckoning, what the calls do that they count as

left-by-calls : (xs : List Step) (s : State) → done_from s xs ≡ after_from s (calls_from s xs)
unfolding done_from calls_from step_leaves after_from
left-by-calls [] s = refl
left-by-calls (x ∷ xs) s =
    left-by-calls xs (after_from s (step_calls s x)) ∙ sym (after_from-append (step_calls s x) (calls_from (after_from s (step_calls s x)) xs) s)

step-fed : (s : State) (x : Step) → step_fed x (accepted (step_answer s x)) ≡ fed_from s (step_calls s x)
unfolding step_fed step_answer step_calls fed_from counted
step-fed s (single c) = refl
step-fed s (bundle k ns) = go (accepted (bundle_answer s k (bundle_of k ns))) ∙ sym (bundle-fed s k (bundle_of k ns))
  where
    go : (ok : Bool) → (if ok then map {B = Call × Bool} (λ c. (c, true)) (calls_in (bundle_of k ns)) else [])
        ≡ map (λ c. (c, true)) (if ok then calls_in (bundle_of k ns) else [])
    go true = refl
    go false = refl

fed-by-calls : (xs : List Step) (s : State) → steps_fed (judged_from s xs) ≡ fed_from s (calls_from s xs)
unfolding steps_fed judged_from calls_from step_leaves fed_from
fed-by-calls [] s = refl
fed-by-calls (x ∷ xs) s =
    ap₂ ◌++◌ (step-fed s x) (fed-by-calls xs (after_from s (step_calls s x)))
    ∙ sym (fed_from-append (step_calls s x) (calls_from (after_from s (step_calls s x)) xs) s)

pub run-leaves-its-calls : (steps : List Step) → done steps ≡ after (calls_of steps)
unfolding done after calls_of
run-leaves-its-calls steps = left-by-calls steps start

pub run-feeds-its-calls : (steps : List Step) → steps_fed (judged steps) ≡ fed (calls_of steps)
unfolding judged fed calls_of
run-feeds-its-calls steps = fed-by-calls steps start

-- so that each compartment after a run with bundles is as its reckoning, and demand 3 holds of it
pub reckoned-with-bundles : (steps : List Step) (k : ℕ) → compartment (done steps) k ≡ reckoning k (steps_fed (judged steps))
reckoned-with-bundles steps k = rw (run-leaves-its-calls steps, run-feeds-its-calls steps) (reckoned (calls_of steps) k)

pub demand3-with-bundles : (steps : List Step) (k : ℕ) → Demand3 (compartment (done steps) k) (reckoning k (steps_fed (judged steps)))
demand3-with-bundles steps k = rw (run-leaves-its-calls steps, run-feeds-its-calls steps) (demand3 (calls_of steps) k)

pub done-length : (steps : List Step) → length (done steps).compartments ≡ 8
done-length steps = ap (λ s. length s.compartments) (run-leaves-its-calls steps) ∙ length-after (calls_of steps)

-- more steps
done_from-append : (xs ys : List Step) (s : State) → done_from s (xs ++ ys) ≡ done_from (done_from s xs) ys
unfolding done_from
done_from-append [] ys s = refl
done_from-append (x ∷ xs) ys s = done_from-append xs ys (step_leaves s x)

pub done-append : (xs ys : List Step) → done (xs ++ ys) ≡ done_from (done xs) ys
unfolding done
done-append xs ys = done_from-append xs ys start

judged_from-append : (xs ys : List Step) (s : State) → judged_from s (xs ++ ys) ≡ judged_from s xs ++ judged_from (done_from s xs) ys
unfolding judged_from done_from
judged_from-append [] ys s = refl
judged_from-append (x ∷ xs) ys s = ap (λ l. (x, accepted (step_answer s x)) ∷ l) (judged_from-append xs ys (step_leaves s x))

pub judged-append : (xs ys : List Step) → judged (xs ++ ys) ≡ judged xs ++ judged_from (done xs) ys
unfolding judged done
judged-append xs ys = judged_from-append xs ys start

-- one step more
module _ (x : Step) where
  calls_from-snoc : (xs : List Step) (s : State) → calls_from s (xs ++ (x ∷ [])) ≡ calls_from s xs ++ step_calls (done_from s xs) x
  unfolding calls_from done_from
  calls_from-snoc [] s = append-nil (step_calls s x)
  calls_from-snoc (y ∷ ys) s =
      ap (λ l. step_calls s y ++ l) (calls_from-snoc ys (step_leaves s y))
      ∙ sym (append_assoc (step_calls s y) (calls_from (step_leaves s y) ys) (step_calls (done_from (step_leaves s y) ys) x))

  pub judged-snoc : (steps : List Step) → judged (steps ++ (x ∷ [])) ≡ judged steps ++ ((x, accepted (step_answer (done steps) x)) ∷ [])
  unfolding judged_from
  judged-snoc steps = judged-append steps (x ∷ [])

  pub calls_of-snoc : (steps : List Step) → calls_of (steps ++ (x ∷ [])) ≡ calls_of steps ++ step_calls (done steps) x
  unfolding calls_of done
  calls_of-snoc steps = calls_from-snoc steps start

-- each step of a judged run stands with whether it was accepted after the ones before it
module _ (x : Step) (ok : Bool) (later : List (Step × Bool)) where
  judged_from-at : (before : List (Step × Bool)) (s : State)
      → before ++ ((x, ok) ∷ later) ≡ judged_from s (map (λ h. h.0) (before ++ ((x, ok) ∷ later)))
      → ok ≡ accepted (step_answer (done_from s (map (λ h. h.0) before)) x)
  unfolding judged_from done_from
  judged_from-at [] s e = ap (λ (l : List (Step × Bool)). (get_or l 0 (x, ok)).1) e
  judged_from-at (h ∷ hs) s e = judged_from-at hs (step_leaves s h.0) (ap (drop 1) e)

  pub judged-at : (before : List (Step × Bool)) → before ++ ((x, ok) ∷ later) ≡ judged (map (λ h. h.0) (before ++ ((x, ok) ∷ later)))
      → ok ≡ accepted (step_answer (done (map (λ h. h.0) before)) x)
  unfolding judged done
  judged-at before e = judged_from-at before start e

-- a list of calls is a run
pub calls_alone : (calls : List Call) → calls_of (map single calls) ≡ calls
unfolding calls_of calls_from step_calls
calls_alone calls = go calls start
  where
    go : (cs : List Call) (s : State) → calls_from s (map single cs) ≡ cs
    go [] s = refl
    go (c ∷ cs) s = ap (λ l. c ∷ l) (go cs (step_leaves s (single c)))

pub calls-leave : (calls : List Call) → done (map single calls) ≡ after calls
calls-leave calls = run-leaves-its-calls (map single calls) ∙ ap after (calls_alone calls)
