-- Demand 3: whatever is called, bundles among it, the whole stream that is read of a compartment is that of its reckoning. And
-- document 02: the others' calls change nothing of it (order 4), nor does a loan that was handed back (order 11). What order 13 says
-- is in WantedLayout.
use Prim.Native.Nat.{ℕ, ◌+◌, ◌*◌, ◌/◌, ◌-◌, ◌<◌, ◌≤◌}
use mathlib.Core.Path.{◌≡◌, refl, sym, ap, ap₂, ◌∙◌, subst}
use mathlib.Core.Bool.{Bool, true}
use mathlib.Core.List.{List, [], ◌∷◌, ◌++◌, map, append-nil, append_assoc}
use native.Mathlib.Omega.{arith}
use borrow.Author.Tests.{lt-ltb, eq-eqb}
use lib.ListN.{length, get_or, take, drop, length-map, length-take, length-drop}
use lib.Seq.{take_at, drop-append_seam}
use Rattle.definitions.specs.Tests.{each}
use Rattle.definitions.specs.Regions.{regions}
use Rattle.definitions.specs.Stream.{stream}
use Rattle.definitions.specs.Pages.{page, filled, mapping_group}
use Rattle.definitions.specs.Reckoning.{Compartment, compartment_of, reckoning}
use Rattle.definitions.specs.Questions.{ask, accepted}
use Rattle.definitions.specs.Calls.{State, start, compartment, stream_of, stream_groups, allowance, answer_in, answer, next, after_from, after, fed_from, fed}
use Rattle.definitions.specs.Bundles.{Step, single, bundle, step_answer, step_calls, step_leaves, done_from, done, calls_from, calls_of, judged_from, judged, steps_fed}
use Rattle.definitions.specs.Independence.{own}
use Rattle.definitions.specs.Loan.{LeavesNoTrace}
use Rattle.definitions.specs.Answers.{Answer}
use Rattle.std.specs.Prelude.{Ok}
use Rattle.definitions.specs.declared.call.Call.{Call}
use Rattle.definitions.specs.declared.call.Call.TheVariants.{Add, Remove}
use Rattle.definitions.specs.declared.remapper.Mapping.{Mapping}
use Rattle.definitions.proofs.PageLaws.{Wide, wide-map, page-rest, last-page, read_length}
use Rattle.definitions.proofs.StreamLaws.{agrees}
use Rattle.definitions.proofs.GivenBack.{gives_back}
use Rattle.definitions.proofs.Reckoned.{accepted-in, reckoned}
use Rattle.definitions.proofs.Stored.{stored}
use Rattle.definitions.proofs.Bundles.{run-leaves-its-calls, run-feeds-its-calls, done-append, judged-snoc, calls_of-snoc, judged-at}
use Rattle.definitions.proofs.Independence.{independent, same_answer}
use Rattle.definitions.proofs.Loan.{loan}
use Rattle.definitions.proofs.Planned.{same-plan, same-page}
use Rattle.capability_engine.specs.declared.remapper.Remapper.{Remapper}
use Rattle.capability_engine.specs.declared.stream.RemapCursor.{RemapCursor}
use Rattle.capability_engine.specs.RemapHeld.{Holds}
use Rattle.capability_engine.specs.StreamCursor.{Table, Ready, remaining}
use Rattle.capability_engine.specs.CompartmentGrown.{page_left}
use Rattle.capability_engine.specs.CompartmentSteps.{no_tracker}
use Rattle.capability_engine.specs.WholeStream as said
use Rattle.capability_engine.specs.WholeStream.{Memory, GrownBy, Ran, Page, Paged, ByPages, Copies, Begins, Stepped, ByCursor, StreamIs, steps_of, Statement, SameFor, Independent, lent, Loan, Plans, SamePlans}
use Rattle.capability_engine.proofs.StreamLists.{map-append, each_append}
use Rattle.definitions.proofs.Fills.{five, map-drop}
use Rattle.capability_engine.proofs.CompartmentFacts.{held, whole, stored_is, table}

-- the calls of what a reckoning is fed
fed-calls : (calls : List Call) (s : State) → map (λ h. h.0) (fed_from s calls) ≡ calls
unfolding fed_from
fed-calls [] s = refl
fed-calls (c ∷ cs) s = ap (λ l. c ∷ l) (fed-calls cs (next s c))

-- the calls that the steps heard count as grew what they leave, and each step was accepted exactly where the definitions accept it
pub record Told (m : Memory) (heard : List (Step × Bool)) : Type 0 where
  pub grown : GrownBy m (calls_of (steps_of heard))
  pub same : heard ≡ judged (steps_of heard)

told_more : (m' : Memory) (heard : List (Step × Bool)) (x : Step) (a : Answer) → heard ≡ judged (steps_of heard)
    → a ≡ step_answer (after (calls_of (steps_of heard))) x
    → GrownBy m' (calls_of (steps_of heard) ++ step_calls (after (calls_of (steps_of heard))) x)
    → Told m' (heard ++ ((x, accepted a) ∷ []))
told_more m' heard x a t e g = record {
  grown =
      subst (GrownBy m') (ap (λ s. calls_of (steps_of heard) ++ step_calls s x) left ∙ sym (calls_of-snoc x (steps_of heard)) ∙ ap calls_of (sym more)) g;
  same =
      ap₂ (λ (h : List (Step × Bool)) (b : Answer). h ++ ((x, accepted b) ∷ [])) t (e ∙ ap (λ s. step_answer s x) left)
      ∙ sym (judged-snoc x (steps_of heard)) ∙ ap judged (sym more);
}
  where
    left : after (calls_of (steps_of heard)) ≡ done (steps_of heard)
    left = sym (run-leaves-its-calls (steps_of heard))

    more : steps_of (heard ++ ((x, accepted a) ∷ [])) ≡ steps_of heard ++ (x ∷ [])
    more = map-append (λ h. h.0) heard ((x, accepted a) ∷ [])

pub told : {m : Memory} {heard : List (Step × Bool)} → Ran m heard → Told m heard
unfolding judged judged_from calls_of calls_from step_answer step_calls
told (said.new c) = record { grown = (c.made _ refl).grown; same = refl }
told (said.changed {m} {m'} {heard} {call} {a} r p) =
    let t = told r in
    let q = p (calls_of (steps_of heard)) t.grown in
    told_more m' heard (single call) a t.same q.answered q.grown
told (said.asked {m} {heard} {call} {a} r p) =
    let t = told r in
    let q = p (calls_of (steps_of heard)) t.grown in
    told_more m heard (single call) a t.same q.answered q.grown
told (said.bundled {m} {m'} {heard} {k} {ns} {a} r p) =
    let t = told r in
    let q = p (calls_of (steps_of heard)) t.grown in
    told_more m' heard (bundle k ns) a t.same q.answered q.grown

-- the numbers of groups, in order
abbrev pub flat : List (List ℕ) → List ℕ
flat groups = each (λ group. group) groups

pub flat_map : {A : Type 0} (f : A → List ℕ) (xs : List A) → flat (map f xs) ≡ each f xs
flat_map f [] = refl
flat_map f (x ∷ xs) = ap (λ l. f x ++ l) (flat_map f xs)

pub accepted-many : (a b : ℕ) → ◌≡◌ {A = Answer} (Ok a) (Ok b) → a ≡ b
accepted-many a b e = cc

-- the numbers read of a page, of any width
pub page-read : (w : ℕ) (gs : List (List ℕ)) → Wide w gs → (from many : ℕ) (out out' : List ℕ) → many ≡ length (page w gs from (length out))
    → out' ≡ filled w gs from out → take (w * many) out' ≡ flat (page w gs from (length out))
unfolding filled
page-read w gs wide from many out out' e s =
    rw (s, e) (take_at (flat (page w gs from (length out))) _ _ (read_length w gs wide from out))

-- a page from the first on that answers fewer than fit its slice has read all
pub read_whole : (w : ℕ) (gs : List (List ℕ)) → Wide w gs → (many : ℕ) (out out' : List ℕ) → many ≡ length (page w gs 0 (length out))
    → out' ≡ filled w gs 0 out → many < length out / w → take (w * many) out' ≡ flat gs
read_whole w gs wide many out out' e s few =
    let none = last-page w gs 0 (length out) (rw e at few) in
    let all : page w gs 0 (length out) ≡ gs =
    sym (append-nil (page w gs 0 (length out))) ∙ ap (λ t. page w gs 0 (length out) ++ t) (sym none) ∙ page-rest w gs 0 (length out) in
    page-read w gs wide 0 many out out' e s ∙ ap flat all

-- what is found before the end is the front of all
front_of : {A : Type 0} (found later all : List A) → found ++ later ≡ all → found ++ drop (length found) all ≡ all
front_of {A} found later all e =
    ap (λ (t : List A). found ++ drop (length found) t) (sym e)
    ∙ ap (λ (t : List A). found ++ t) (drop-append_seam found later) ∙ e

-- compartment k of grown tables
module _ (m : Memory) (calls : List Call) (g : GrownBy m calls) (k : ℕ) (l : k < 8) where
  abbrev mine : Compartment
  mine = compartment (after calls) k

  abbrev groups : List (List ℕ)
  groups = stream_groups mine

  page-few : (from room : ℕ) → length (page 5 groups from room) ≤ length groups - from
  unfolding page
  page-few from room = simp (length-take, length-drop) (omega arith)

  -- a page: what it answers, and the numbers read
  module _ (from many : ℕ) (out out' : List ℕ) (p : Page m k from out out' (Ok many)) where
    page-many : many ≡ length (page 5 groups from (length out))
    unfolding answer answer_in ask compartment_of
    page-many = accepted-many _ _ (simp (lt-ltb k 8 l) at (p calls g).reads.answered)

    page-numbers : take (5 * many) out' ≡ flat (page 5 groups from (length out))
    unfolding page_left compartment_of stream_groups
    page-numbers =
        page-read 5 groups (wide-map 5 mapping_group five (stream_of mine)) from many out out' page-many (simp (lt-ltb k 8 l) at (p calls g).slice)

    page-fits : from ≤ length groups → from + many ≤ length groups
    page-fits h = omega (arith, page-many, page-few from (length out))

    -- the numbers read and those of the groups behind them are those from there on
    page-then : take (5 * many) out' ++ flat (drop (from + many) groups) ≡ flat (drop from groups)
    page-then =
        let rest : page 5 groups from (length out) ++ drop (from + many) groups ≡ drop from groups
        = rw page-many (page-rest 5 groups from (length out)) in
        ap (λ (t : List ℕ). t ++ flat (drop (from + many) groups)) page-numbers
        ∙ sym (each_append (λ group. group) (page 5 groups from (length out)) (drop (from + many) groups)) ∙ ap flat rest

  -- pages: the numbers read and those of the groups still to come are the whole
  paged-is : {from : ℕ} {got : List ℕ} → Paged m k from got
      → (from ≤ length groups) × (got ++ flat (drop from groups) ≡ flat groups)
  paged-is said.Paged.none = (omega arith, refl)
  paged-is (said.Paged.more {from} {many} {got} {out} {out'} before p) =
      let i = paged-is before in
      let behind : got ++ (take (5 * many) out' ++ flat (drop (from + many) groups)) ≡ flat groups
      = ap (λ (t : List ℕ). got ++ t) (page-then from many out out' p) ∙ i.1 in
      (page-fits from many out out' p i.0, append_assoc got (take (5 * many) out') (flat (drop (from + many) groups)) ∙ behind)

  by-pages : {got : List ℕ} → ByPages m k got → got ≡ flat groups
  by-pages (said.ByPages.last {from} {many} {got} {out} {out'} before p few) =
      let e = page-many from many out out' p in
      let none : drop (from + many) groups ≡ [] = rw e (last-page 5 groups from (length out) (rw e at few)) in
      sym (append-nil (got ++ take (5 * many) out'))
      ∙ ap (λ (t : List (List ℕ)). (got ++ take (5 * many) out') ++ flat t) (sym none)
      ∙ (paged-is (said.Paged.more before p)).1

  -- the cursor: it may be stepped, and the mappings found and those still to come are the whole
  module _ {copy : List ℕ} {n : ℕ} where
    begins-is : {c : RemapCursor} {slice : List ℕ} (other : Remapper)
        → 256 ≤ length slice → Copies (get_or m.tables.remappers k other) slice copy n
        → Begins m.next m.words copy n (get_or m.tables.trackers k no_tracker).head c
        → Table m.words copy n × Ready m.next m.words copy n c × (remaining m.next m.words copy n c ≡ stream_of mine)
    unfolding stream_of
    begins-is {c} {slice} other room copies begins =
        let d = copies mine.segments (held m.words m.next m.links m.gens m.tables calls g k l other) in
        let t = table m.words m.next m.links m.gens m.tables calls g k l slice copy n room d in
        let r = begins t (whole m.words m.next m.links m.gens m.tables calls g k l) in
        (t, r.0, r.1 ∙ ap₂ stream (stored_is m.words m.next m.links m.gens m.tables calls g k l) d.same)

    stepped-is : {c : RemapCursor} {found : List Mapping} → Stepped m k copy n c found
        → Table m.words copy n × Ready m.next m.words copy n c × (found ++ remaining m.next m.words copy n c ≡ stream_of mine)
    stepped-is (said.Stepped.none other room copies begins) = begins-is other room copies begins
    stepped-is (said.Stepped.more {c} {d} {x} {found} before p) =
        let i = stepped-is before in
        let s = p i.0 i.1 in
        let behind : found ++ (x ∷ remaining m.next m.words copy n d) ≡ stream_of mine
        = ap (λ (t : List Mapping). found ++ t) (sym s.0) ∙ i.2 in
        (i.0, s.1, append_assoc found (x ∷ []) (remaining m.next m.words copy n d) ∙ behind)

  by-cursor : {found : List Mapping} → ByCursor m k found → found ≡ stream_of mine
  by-cursor (said.ByCursor.last {found = found} before p) =
      let i = stepped-is before in
      sym (append-nil found) ∙ ap (λ (t : List Mapping). found ++ t) (sym (p i.0 i.1)) ∙ i.2

  -- the groups are the mappings'
  numbers : (from : ℕ) → flat (drop from groups) ≡ each mapping_group (drop from (stream_of mine))
  unfolding stream_groups
  numbers from = ap flat (sym (map-drop mapping_group from (stream_of mine))) ∙ flat_map mapping_group (drop from (stream_of mine))

  as_many : length groups ≡ length (stream_of mine)
  unfolding stream_groups
  as_many = length-map (stream_of mine) mapping_group

  stream-is : StreamIs m k mine
  unfolding stream_of
  stream-is = record {
    by_pages = λ got p. by-pages p ∙ numbers 0;
    by_cursor = λ found p. by-cursor p;
    agrees = λ x small. agrees x small mine (stored calls k).blank;
    back = λ x small. gives_back x mine (stream_of mine) (agrees x small mine (stored calls k).blank) ((stored calls k).blank x);
    paged = λ from got p.
        let i = paged-is p in
        (rw as_many at i.0, ap (λ (t : List ℕ). got ++ t) (sym (numbers from)) ∙ i.1 ∙ numbers 0);
    stepped = λ copy n d found p. front_of found (remaining m.next m.words copy n d) (stream_of mine) (stepped-is p).2;
  }

pub whole_stream : Statement
unfolding fed
whole_stream m heard r =
    let t = told r in
    let hears : steps_fed heard ≡ fed (calls_of (steps_of heard)) = ap steps_fed t.same ∙ run-feeds-its-calls (steps_of heard) in
    record {
      reckoned = λ k l.
          subst (StreamIs m k) (reckoned (calls_of (steps_of heard)) k ∙ ap (reckoning k) (sym hears))
          (stream-is m (calls_of (steps_of heard)) t.grown k l);
      grown = subst (GrownBy m) (sym (ap (map (λ h. h.0)) hears ∙ fed-calls (calls_of (steps_of heard)) start)) t.grown;
    }

-- Two runs that leave compartment k the same: whatever is read of it is the same, and its next call or bundle is answered alike
module _ (k : ℕ) (l : k < 8) (m n : Memory) (xs ys : List (Step × Bool)) (r : Ran m xs) (q : Ran n ys)
    (one : compartment (done (steps_of xs)) k ≡ compartment (done (steps_of ys)) k) where
  abbrev calls : List Call
  calls = calls_of (steps_of xs)

  abbrev calls' : List Call
  calls' = calls_of (steps_of ys)

  gm : GrownBy m calls
  gm = (told r).grown

  gn : GrownBy n calls'
  gn = (told q).grown

  by-xs : done (steps_of xs) ≡ after calls
  by-xs = run-leaves-its-calls (steps_of xs)

  by-ys : done (steps_of ys) ≡ after calls'
  by-ys = run-leaves-its-calls (steps_of ys)

  left : compartment (after calls) k ≡ compartment (after calls') k
  left = ap (λ s. compartment s k) (sym by-xs) ∙ one ∙ ap (λ s. compartment s k) by-ys

  alike : (x : Step) → own k x ≡ true → allowance (done (steps_of xs)) k ≡ allowance (done (steps_of ys)) k
      → step_answer (after calls) x ≡ step_answer (after calls') x
  alike x o s =
      ap (λ t. step_answer t x) (sym by-xs) ∙ same_answer k (steps_of xs) (steps_of ys) one x o s
      ∙ ap (λ t. step_answer t x) by-ys

  same-for : SameFor k m n (steps_of xs) (steps_of ys)
  unfolding step_answer own
  same-for = record {
    changes = λ call m' n' a b o s p p'. (p calls gm).answered ∙ alike (single call) o s ∙ sym (p' calls' gn).answered;
    asks = λ call a b o s p p'. (p calls gm).answered ∙ alike (single call) o s ∙ sym (p' calls' gn).answered;
    bundles = λ ns m' n' a b s p p'. (p calls gm).answered ∙ alike (bundle k ns) (eq-eqb k k refl) s ∙ sym (p' calls' gn).answered;
    regions =
        stored_is m.words m.next m.links m.gens m.tables calls gm k l
        ∙ ap (λ (c : Compartment). regions c.values) left
        ∙ sym (stored_is n.words n.next n.links n.gens n.tables calls' gn k l);
    segments = λ other. (
      (compartment (after calls') k).segments,
      subst (λ (c : Compartment). Holds (get_or m.tables.remappers k other) c.segments) left
          (held m.words m.next m.links m.gens m.tables calls gm k l other),
      held n.words n.next n.links n.gens n.tables calls' gn k l other,
    );
    by_pages = λ got got' p p'. by-pages m calls gm k l p ∙ ap (λ c. flat (stream_groups c)) left ∙ sym (by-pages n calls' gn k l p');
    by_cursor = λ found found' p p'. by-cursor m calls gm k l p ∙ ap stream_of left ∙ sym (by-cursor n calls' gn k l p');
  }

-- and a page of a plan is the same wherever the allowance is
module _ (k : ℕ) (m n : Memory) (xs ys : List (Step × Bool)) (r : Ran m xs) (q : Ran n ys)
    (s : allowance (done (steps_of xs)) k ≡ allowance (done (steps_of ys)) k) where
  one-allowance : allowance (after (calls_of (steps_of xs))) k ≡ allowance (after (calls_of (steps_of ys))) k
  one-allowance =
      ap (λ t. allowance t k) (sym (run-leaves-its-calls (steps_of xs))) ∙ s
      ∙ ap (λ t. allowance t k) (run-leaves-its-calls (steps_of ys))

  same-answer-of-plans : (ns : List ℕ) (from : ℕ) (out out' out'' : List ℕ) (a b : Answer)
      → Plans k ns from m out out' a → Plans k ns from n out out'' b → (a ≡ b) × (out' ≡ out'')
  same-answer-of-plans ns from out out' out'' a b p p' = (
    (p (calls_of (steps_of xs)) (told r).grown).answered
        ∙ same-plan (after (calls_of (steps_of xs))) (after (calls_of (steps_of ys))) k one-allowance ns from (length out)
        ∙ sym (p' (calls_of (steps_of ys)) (told q).grown).answered,
    (p (calls_of (steps_of xs)) (told r).grown).slice
        ∙ same-page (after (calls_of (steps_of xs))) (after (calls_of (steps_of ys))) k one-allowance ns from out
        ∙ sym (p' (calls_of (steps_of ys)) (told q).grown).slice,
  )

pub same_plans : SamePlans
same_plans k m n xs ys ns from out out' out'' a b r q s p p' =
    same-answer-of-plans k m n xs ys r q s ns from out out' out'' a b p p'

-- two runs that agree on what is compartment k's leave it the same
pub independent_streams : Independent
independent_streams k l m n xs ys r q e = same-for k l m n xs ys r q (independent k (steps_of xs) (steps_of ys) e).left

-- and so does a run with a loan behind it that was handed back
pub handed_back : Loan
unfolding step_answer done_from step_leaves step_calls after_from compartment_of
handed_back m n heard between k a e r ok small ran went apart = record {
  taken = judged-at (single (Remove k a e r)) ok [] during heard-so ∙ ap (λ s. accepted (answer s (Remove k a e r))) by-steps ∙ gone.taken;
  allowing = sym gone.allowing ∙ ap (λ s. allowance s k) (sym whole);
  same = same-for k (accepted-in (done (steps_of heard)) (Add k a e r) given).0 m n heard (lent heard k a e r between ok) ran went
      (sym gone.left ∙ ap (λ s. compartment s k) (sym whole));
}
  where
    during : List (Step × Bool)
    during = heard ++ ((single (Add k a e r), true) ∷ between)

    steps : List Step
    steps = steps_of heard ++ (single (Add k a e r) ∷ steps_of between)

    heard-so : during ++ ((single (Remove k a e r), ok) ∷ []) ≡ judged (steps_of (during ++ ((single (Remove k a e r), ok) ∷ [])))
    heard-so = (told went).same

    by-steps : done (steps_of during) ≡ done steps
    by-steps = ap done (map-append (λ h. h.0) heard ((single (Add k a e r), true) ∷ between))

    given : accepted (answer (done (steps_of heard)) (Add k a e r)) ≡ true
    given = sym (judged-at (single (Add k a e r)) true (between ++ ((single (Remove k a e r), ok) ∷ [])) heard (rw append_assoc at heard-so))

    gone : LeavesNoTrace k a e r (done (steps_of heard)) (done steps)
    gone = loan (steps_of heard) (steps_of between) k a e r small given apart

    whole : done (steps_of (lent heard k a e r between ok)) ≡ next (done steps) (Remove k a e r)
    whole =
        ap done (map-append (λ h. h.0) during ((single (Remove k a e r), ok) ∷ []))
        ∙ done-append (steps_of during) (single (Remove k a e r) ∷ []) ∙ ap (λ s. next s (Remove k a e r)) by-steps
