-- Document 02, order 9: groups in turn, and what is put back.
use Prim.Native.Nat.{ℕ, ◌+◌, ◌<◌, ◌≤◌}
use mathlib.Core.Path.{◌≡◌, refl, sym, ap, ap₂, ◌∙◌, subst}
use mathlib.Core.Bool.{Bool, true, false, true≢false, ◌||◌}
use mathlib.Core.List.{List, [], ◌∷◌, ◌++◌, append-nil, append_assoc}
use native.Mathlib.Omega.{arith}
use lib.ListN.{length, get_or, length-append}
use borrow.Author.Tests.{lt-ltb, le-leb, ne_eqb}
use Rattle.definitions.specs.Tests.{◌=?◌, bit, host}
use Rattle.definitions.specs.Questions.{ask, accepted}
use Rattle.definitions.specs.Calls.{State, next, after}
use Rattle.definitions.specs.Script.{Line, call, malformed, left}
use Rattle.definitions.specs.Bundles.{bundled, bundle_of, calls_in, and_then, told, in_turn, bundle_answer, counted}
use Rattle.definitions.specs.declared.answer.Refusal.{Refusal}
use Rattle.definitions.specs.declared.answer.Refusal.TheVariants.{NoCompartment, Malformed, BundleTooLong}
use Rattle.definitions.specs.Answers.{Answer}
use Rattle.std.specs.Prelude.{Ok, Err, is_ok}
use mir.Val.{bool_byte}
use Rattle.definitions.specs.declared.call.Call.{Call}
use Rattle.definitions.specs.declared.call.Call.TheVariants.{Add, Remove}
use Rattle.definitions.proofs.Bools.{or-false, or_assoc, one_bit}
use Rattle.definitions.proofs.Reckoned.{after-snoc}
use Rattle.definitions.proofs.Bundles.{bundle-length, bundle-nowhere, bundle-too-long}
use Rattle.capability_engine.specs.CompartmentGrown.{Grown, IsGrown, SameTables, Answers, AnswersBundle}
use Rattle.capability_engine.specs.declared.compartments.Tables.{Tables}
use Rattle.bundles.specs.Turns.{AnswersLine, InTurn}

-- ---- answers in turn

-- no call before them is no change
and_none : (x y : Answer) → and_then (Ok 0) (and_then x y) ≡ and_then x y
and_none (Ok v) (Ok w) = ap (λ (b : Bool). Ok (bit b)) (one_bit ((v =? 1) || (w =? 1)))
and_none (Ok v) (Err r) = refl
and_none (Err r) y = refl

turn-none : (s : State) (gs : List Line) → and_then (Ok 0) (in_turn s gs) ≡ in_turn s gs
unfolding in_turn
turn-none s [] = refl
turn-none s (g ∷ gs) = and_none (told s g) (in_turn (left s g) gs)

-- one more
and-more : (c v : ℕ) (later : Answer)
    → and_then (Ok c) (and_then (Ok v) later) ≡ and_then (Ok (bit ((c =? 1) || (v =? 1)))) later
and-more c v (Ok w) =
    ap (λ (b : Bool). Ok (bit b))
    (ap (λ (b : Bool). (c =? 1) || b) (one_bit ((v =? 1) || (w =? 1))) ∙ or_assoc (c =? 1) (v =? 1) (w =? 1)
    ∙ ap (λ (b : Bool). b || (w =? 1)) (sym (one_bit ((c =? 1) || (v =? 1)))))
and-more c v (Err r) = refl

-- the change of two
more-change : (c : Bool) (v : ℕ) (later : Answer) → and_then (Ok (bit c)) (and_then (Ok v) later) ≡ and_then (Ok (bit (c || (v =? 1)))) later
more-change c v later = and-more (bit c) v later ∙ ap (λ (b : Bool). and_then (Ok (bit (b || (v =? 1)))) later) (one_bit c)

pub told_change : (c : Bool) → bool_byte c ≡ bit c
told_change true = refl
told_change false = refl

-- ---- groups

-- four numbers are a group
pub group-there : (k : ℕ) (group behind : List ℕ) → length group ≡ 4
    → bundle_of k (group ++ behind) ≡ bundled k (get_or group 0 0) (get_or group 1 0) (get_or group 2 0) (get_or group 3 0) ∷ bundle_of k behind
unfolding bundle_of
group-there k [] behind h = absurd (omega arith)
group-there k (kind ∷ []) behind h = absurd (omega arith)
group-there k (kind ∷ a ∷ []) behind h = absurd (omega arith)
group-there k (kind ∷ a ∷ e ∷ []) behind h = absurd (omega arith)
group-there k (kind ∷ a ∷ e ∷ rights ∷ []) behind h = refl
group-there k (kind ∷ a ∷ e ∷ rights ∷ n ∷ ns) behind h = absurd (omega arith)

-- fewer are not of the form
few-numbers : (k : ℕ) (ns : List ℕ) → 0 < length ns → length ns < 4 → bundle_of k ns ≡ malformed ∷ []
unfolding bundle_of
few-numbers k [] h l = absurd (omega (arith, h))
few-numbers k (kind ∷ []) h l = refl
few-numbers k (kind ∷ a ∷ []) h l = refl
few-numbers k (kind ∷ a ∷ e ∷ []) h l = refl
few-numbers k (kind ∷ a ∷ e ∷ rights ∷ ns) h l = absurd (omega (arith, l))

-- ---- what is unchanged

module _ {words next links gens : List ℕ} {t : Tables} where
  pub same-grown : {words' next' links' gens' : List ℕ} {t' : Tables} (calls : List Call)
      → SameTables words next links gens t words' next' links' gens' t' → Grown words next links gens t calls
      → Grown words' next' links' gens' t' calls
  same-grown calls e g = rw (e.same_words, e.same_next, e.same_links, e.same_gens, e.same_tables) g

  then_same : {words' next' links' gens' : List ℕ} {t' : Tables} {words'' next'' links'' gens'' : List ℕ} {t'' : Tables}
      → SameTables words next links gens t words' next' links' gens' t'
      → SameTables words' next' links' gens' t' words'' next'' links'' gens'' t''
      → SameTables words next links gens t words'' next'' links'' gens'' t''
  then_same e f = record {
    same_words = f.same_words ∙ e.same_words;
    same_next = f.same_next ∙ e.same_next;
    same_links = f.same_links ∙ e.same_links;
    same_gens = f.same_gens ∙ e.same_gens;
    same_tables = f.same_tables ∙ e.same_tables;
  }

-- ---- one group

pub unchanged : {words next links gens : List ℕ} {t : Tables} → SameTables words next links gens t words next links gens t
unchanged = record { same_words = refl; same_next = refl; same_links = refl; same_gens = refl; same_tables = refl }

module _ (calls : List Call) (k kind a e rights : ℕ) (words next links gens : List ℕ) (t : Tables) where
  module _ (words' next' links' gens' : List ℕ) (t' : Tables) (r : Answer) where
    -- a group that says a call is that call
    called : (c : Call) → bundled k kind a e rights ≡ call c → Answers calls c words next links gens t words' next' links' gens' t' r
        → AnswersLine calls (bundled k kind a e rights) words next links gens t words' next' links' gens' t' r
    unfolding calls_in
    called c is q =
        subst (λ (l : Line). AnswersLine calls l words next links gens t words' next' links' gens' t' r) (sym is)
        (record { answered = q.answered; grown = q.grown; kept = q.kept })

    pub an-add : kind ≡ 0 → Answers calls (Add k (host a) (host e) rights) words next links gens t words' next' links' gens' t' r
        → AnswersLine calls (bundled k kind a e rights) words next links gens t words' next' links' gens' t' r
    an-add z q = called (Add k (host a) (host e) rights) (simp z) q

    pub a-remove : kind ≡ 1 → Answers calls (Remove k (host a) (host e) rights) words next links gens t words' next' links' gens' t' r
        → AnswersLine calls (bundled k kind a e rights) words next links gens t words' next' links' gens' t' r
    a-remove z q = called (Remove k (host a) (host e) rights) (simp z) q

  -- what is not of the form
  pub no_call : (kind ≡ 0 → ⊥) → (kind ≡ 1 → ⊥) → Grown words next links gens t calls
      → AnswersLine calls (bundled k kind a e rights) words next links gens t words next links gens t (Err Malformed)
  unfolding calls_in
  no_call not0 not1 g =
      let is : bundled k kind a e rights ≡ malformed = simp (ne_eqb kind 0 not0, ne_eqb kind 1 not1) in
      subst (λ (l : Line). AnswersLine calls l words next links gens t words next links gens t (Err Malformed)) (sym is)
      (record {
        answered = refl;
        grown = subst (Grown words next links gens t) (sym (append-nil calls)) g;
        kept = λ a. unchanged;
      })

-- it leaves tables that calls grew
pub line-grown : (words next links gens : List ℕ) (t : Tables) (line : Line) (words' next' links' gens' : List ℕ) (t' : Tables) (r : Answer)
    → IsGrown words next links gens t
    → ((calls : List Call) → Grown words next links gens t calls → AnswersLine calls line words next links gens t words' next' links' gens' t' r)
    → IsGrown words' next' links' gens' t'
line-grown words next links gens t line words' next' links' gens' t' r g a = record { calls = _; grown = (a g.calls g.grown).grown }

-- ---- the groups up to a place

-- the calls so far, what they leave, and what the rest makes of their answer
pub record Turning (calls : List Call) (k : ℕ) (ns words next links gens : List ℕ) (t : Tables) (words' next' links' gens' : List ℕ) (t' : Tables) (change : Bool) (rest : List ℕ) : Type 0 where
  pub before : List Call
  pub grown : Grown words' next' links' gens' t' (calls ++ before)
  pub answered : in_turn (after calls) (bundle_of k ns) ≡ and_then (Ok (bit change)) (in_turn (after (calls ++ before)) (bundle_of k rest))
  pub those : calls_in (bundle_of k ns) ≡ before ++ calls_in (bundle_of k rest)
  pub fewer : length rest ≤ length ns
  pub same : length ns < length rest + 4 → SameTables words next links gens t words' next' links' gens' t'

-- a group that is accepted is a call, which leaves what is left
line-left : (calls : List Call) (g : Line) → after (calls ++ calls_in (g ∷ [])) ≡ left (after calls) g
unfolding calls_in
line-left calls (call c) = after-snoc calls c
line-left calls malformed = ap after (append-nil calls)

calls-then : (g : Line) (gs : List Line) → calls_in (g ∷ gs) ≡ calls_in (g ∷ []) ++ calls_in gs
unfolding calls_in
calls-then (call c) gs = refl
calls-then malformed gs = refl

module _ (calls : List Call) (k : ℕ) (ns words next links gens : List ℕ) (t : Tables) where
  pub turning-none : Grown words next links gens t calls → Turning calls k ns words next links gens t words next links gens t false ns
  turning-none g = record {
    before = [];
    grown = subst (Grown words next links gens t) (sym (append-nil calls)) g;
    answered = sym (turn-none (after calls) (bundle_of k ns)) ∙ ap (λ cs. and_then (Ok 0) (in_turn (after cs) (bundle_of k ns))) (sym (append-nil calls));
    those = refl;
    fewer = omega arith;
    same = λ l. unchanged;
  }

  module _ (words1 next1 links1 gens1 : List ℕ) (t1 : Tables) (change : Bool) (rest : List ℕ)
      (u : Turning calls k ns words next links gens t words1 next1 links1 gens1 t1 change rest) where
    pub still-grown : IsGrown words1 next1 links1 gens1 t1
    still-grown = record { calls = calls ++ u.before; grown = u.grown }

    -- at the end
    pub turning-all : rest ≡ [] → (r : ℕ) → r ≡ bool_byte change → InTurn 4 calls k ns words next links gens t words1 next1 links1 gens1 t1 (Ok r)
    unfolding in_turn bundle_of calls_in
    turning-all none r er =
        let all : calls_in (bundle_of k ns) ≡ u.before = u.those ∙ ap (λ l. u.before ++ calls_in (bundle_of k l)) none ∙ append-nil u.before in
        record {
          answered =
              ap Ok (er ∙ told_change change) ∙ sym (u.answered ∙ ap (λ l. and_then (Ok (bit change)) (in_turn (after (calls ++ u.before)) (bundle_of k l))) none
              ∙ ap Ok (ap bit (or-false (bit change =? 1) ∙ one_bit change)));
          grown = λ a. subst (λ cs. Grown words1 next1 links1 gens1 t1 (calls ++ cs)) (sym all) u.grown;
          kept = λ l a. absurd (true≢false a);
          still = still-grown;
        }

    -- a group that is refused
    refused-now : (g : Line) (gs : List Line) (r : Refusal) → bundle_of k rest ≡ g ∷ gs
        → told (after (calls ++ u.before)) g ≡ Err r → Err r ≡ in_turn (after calls) (bundle_of k ns)
    unfolding in_turn
    refused-now g gs r e q =
        sym (u.answered ∙ ap (λ l. and_then (Ok (bit change)) (in_turn (after (calls ++ u.before)) l)) e
        ∙ ap (λ (a : Answer). and_then (Ok (bit change)) (and_then a (in_turn (left (after (calls ++ u.before)) g) gs))) q)

    -- one that lacks numbers
    pub turning-short : 0 < length rest → length rest < 4
        → InTurn 4 calls k ns words next links gens t words1 next1 links1 gens1 t1 (Err Malformed)
    turning-short h l = record {
      answered = refused-now malformed [] Malformed (few-numbers k rest h l) refl;
      grown = λ a. absurd (true≢false (sym a));
      kept = λ m a. u.same (omega (arith, h, m));
      still = still-grown;
    }

    -- a whole group
    module _ (group behind : List ℕ) (four : length group ≡ 4) (cut : rest ≡ group ++ behind) (words2 next2 links2 gens2 : List ℕ) (t2 : Tables) (r : Answer)
        (q : AnswersLine (calls ++ u.before) (bundled k (get_or group 0 0) (get_or group 1 0) (get_or group 2 0) (get_or group 3 0)) words1 next1 links1 gens1 t1 words2 next2 links2 gens2 t2 r) where
      abbrev line : Line
      line = bundled k (get_or group 0 0) (get_or group 1 0) (get_or group 2 0) (get_or group 3 0)

      there : bundle_of k rest ≡ line ∷ bundle_of k behind
      there = ap (bundle_of k) cut ∙ group-there k group behind four

      size : length rest ≡ 4 + length behind
      size = omega (arith, four, ap length cut, length-append group behind)

      pub turning-refused : (refusal : Refusal) → r ≡ Err refusal → (r' : Answer) → r' ≡ Err refusal → InTurn 4 calls k ns words next links gens t words2 next2 links2 gens2 t2 r'
      turning-refused refusal e r' e' = record {
        answered = e' ∙ refused-now line (bundle_of k behind) refusal there (sym q.answered ∙ e);
        grown = λ a. absurd (true≢false (sym a ∙ ap accepted e'));
        kept = λ m a. then_same (u.same (omega (arith, size, m))) (q.kept (ap accepted e));
        still = record { calls = (calls ++ u.before) ++ calls_in (line ∷ []); grown = q.grown };
      }

      pub turning-more : (value : ℕ) → r ≡ Ok value → Turning calls k ns words next links gens t words2 next2 links2 gens2 t2 (change || (value =? 1)) behind
      unfolding in_turn
      turning-more value e =
          let later : List Line = bundle_of k behind in
          let joined : (calls ++ u.before) ++ calls_in (line ∷ []) ≡ calls ++ (u.before ++ calls_in (line ∷ [])) = append_assoc calls u.before (calls_in (line ∷ [])) in
          let came : left (after (calls ++ u.before)) line ≡ after (calls ++ (u.before ++ calls_in (line ∷ [])))
          = sym (line-left (calls ++ u.before) line) ∙ ap after joined in
          record {
            before = u.before ++ calls_in (line ∷ []);
            grown = subst (Grown words2 next2 links2 gens2 t2) joined q.grown;
            answered =
                u.answered ∙ ap (λ l. and_then (Ok (bit change)) (in_turn (after (calls ++ u.before)) l)) there
                ∙ ap₂ (λ (a : Answer) (s : State). and_then (Ok (bit change)) (and_then a (in_turn s later))) (sym q.answered ∙ e) came
                ∙ more-change change value (in_turn (after (calls ++ (u.before ++ calls_in (line ∷ [])))) later);
            those =
                u.those ∙ ap (λ l. u.before ++ calls_in l) there ∙ ap (λ l. u.before ++ l) (calls-then line later)
                ∙ sym (append_assoc u.before (calls_in (line ∷ [])) (calls_in later));
            fewer = omega (arith, size, u.fewer);
            same = λ l. absurd (omega (arith, l, size, u.fewer));
          }

-- ---- all or nothing

pub ok-accepted : (r : Answer) → is_ok r ≡ accepted r
ok-accepted (Ok v) = refl
ok-accepted (Err e) = refl

module _ (calls : List Call) (k : ℕ) (ns words next links gens : List ℕ) (t : Tables) where
  -- all accepted
  pub all_done : (words1 next1 links1 gens1 : List ℕ) (t1 : Tables) (r : Answer) → accepted r ≡ true
      → InTurn 4 calls k ns words next links gens t words1 next1 links1 gens1 t1 r
      → InTurn (length ns) calls k ns words next links gens t words1 next1 links1 gens1 t1 r
  all_done words1 next1 links1 gens1 t1 r e u = record {
    answered = u.answered;
    grown = u.grown;
    kept = λ l a. absurd (true≢false (sym e ∙ a));
    still = u.still;
  }

  -- one refused, and all put back
  pub put_back : (words1 next1 links1 gens1 words2 next2 links2 gens2 : List ℕ) (t1 : Tables) (r : Answer) → accepted r ≡ false
      → InTurn 4 calls k ns words next links gens t words1 next1 links1 gens1 t1 r → Grown words next links gens t calls
      → words2 ≡ words → next2 ≡ next → links2 ≡ links → gens2 ≡ gens
      → InTurn (length ns) calls k ns words next links gens t words2 next2 links2 gens2 t r
  put_back words1 next1 links1 gens1 words2 next2 links2 gens2 t1 r e u g ew en el eg =
      let back : SameTables words next links gens t words2 next2 links2 gens2 t
      = record { same_words = ew; same_next = en; same_links = el; same_gens = eg; same_tables = refl } in
      record {
        answered = u.answered;
        grown = λ a. absurd (true≢false (sym a ∙ e));
        kept = λ l a. back;
        still = record { calls = calls; grown = same-grown calls back g };
      }

  -- ---- a bundle

  -- refused: nothing counts
  none-counted : (groups : List Line) → accepted (bundle_answer (after calls) k groups) ≡ false → calls ++ counted (after calls) k groups ≡ calls
  unfolding counted
  none-counted groups h = rw h (append-nil calls)

  refused-bundle : (refusal : Refusal) → bundle_answer (after calls) k (bundle_of k ns) ≡ Err refusal → Grown words next links gens t calls
      → AnswersBundle calls k ns words next links gens t words next links gens t (Err refusal)
  refused-bundle refusal e g = record {
    answered = sym e;
    grown = subst (Grown words next links gens t) (sym (none-counted (bundle_of k ns) (ap accepted e))) g;
    kept = λ a. unchanged;
  }

  pub bundle-of-none : 8 ≤ k → Grown words next links gens t calls
      → AnswersBundle calls k ns words next links gens t words next links gens t (Err NoCompartment)
  bundle-of-none h g = refused-bundle NoCompartment (bundle-nowhere (after calls) k (bundle_of k ns) h) g

  pub bundle-of-many : k < 8 → 128 < length ns → Grown words next links gens t calls
      → AnswersBundle calls k ns words next links gens t words next links gens t (Err BundleTooLong)
  bundle-of-many h l g =
      refused-bundle BundleTooLong (bundle-too-long (after calls) k (bundle_of k ns) h (omega (arith, l, bundle-length k ns))) g

  pub bundle-in-turn : (most : ℕ) (words1 next1 links1 gens1 : List ℕ) (t1 : Tables) (r : Answer) → k < 8 → length ns ≤ 128 → length ns ≤ most
      → InTurn most calls k ns words next links gens t words1 next1 links1 gens1 t1 r → Grown words next links gens t calls
      → AnswersBundle calls k ns words next links gens t words1 next1 links1 gens1 t1 r
  unfolding bundle_answer ask counted
  bundle-in-turn most words1 next1 links1 gens1 t1 r h l m u g = record {
    answered = answers;
    grown = go (accepted r) refl;
    kept = u.kept m;
  }
    where
      answers : r ≡ bundle_answer (after calls) k (bundle_of k ns)
      answers =
          let few : length (bundle_of k ns) ≤ 32 = omega (arith, l, bundle-length k ns) in
          u.answered ∙ sym (rw (lt-ltb k 8 h, le-leb (length (bundle_of k ns)) 32 few))

      go : (b : Bool) → accepted r ≡ b → Grown words1 next1 links1 gens1 t1 (calls ++ counted (after calls) k (bundle_of k ns))
      go true a = simp (sym (ap accepted answers) ∙ a) (u.grown a)
      go false a = subst (Grown words1 next1 links1 gens1 t1) (sym (none-counted (bundle_of k ns) (sym (ap accepted answers) ∙ a))) (same-grown calls (u.kept m a) g)
