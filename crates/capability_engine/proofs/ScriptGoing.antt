-- A piece of a script, step by step.
use Prim.Native.Nat.{ℕ, ◌+◌, ◌-◌, ◌*◌, ◌<◌, ◌≤◌, min}
use mathlib.Core.Path.{◌≡◌, refl, sym, ap, subst, ◌∙◌}
use mathlib.Core.Bool.{Bool, true, false, true≢false, not}
use mathlib.Core.List.{List, [], ◌∷◌, ◌++◌, append_assoc}
use native.Mathlib.Omega.{arith}
use native.Mathlib.Decide.{dec_lt}
use lib.ListN.{length, take, drop, get_or}
use lib.Seq.{sets, drop-drop, drop-append_seam, take_all}
use borrow.Author.Tests.{lt-ltb, le-ltb}
use Rattle.definitions.specs.Tests.{◌<?◌, bit}
use Rattle.definitions.specs.Questions.{ask}
use Rattle.definitions.specs.Reckoning.{compartment_of}
use Rattle.definitions.specs.Calls.{State, compartment, answer_in, answer, next, after}
use Rattle.definitions.specs.Script.{Line, call, malformed, line_of, answer_line, printed, left, mapping_lines, output_from, whole_lines}
use Rattle.definitions.specs.declared.answer.Refusal.TheVariants.{Malformed}
use Rattle.definitions.specs.Answers.{Answer}
use Rattle.std.specs.Prelude.{Err}
use Rattle.definitions.specs.declared.call.Call.{Call}
use Rattle.definitions.specs.declared.call.Call.TheVariants.{Mappings}
use Rattle.definitions.specs.declared.call.Call.TheVariants as spoken
use Rattle.definitions.proofs.Reckoned.{length-after, after-snoc}
use Rattle.lines.specs.Lines.{lines_with}
use Rattle.lines.proofs.Written.{length-answer}
use Rattle.capability_engine.specs.declared.region.RegionTracker.{RegionTracker}
use Rattle.capability_engine.specs.declared.remapper.Remapper.{Remapper}
use Rattle.capability_engine.specs.declared.compartments.Tables.{Tables}
use Rattle.capability_engine.specs.declared.script.Progress.{Progress}
use Rattle.capability_engine.specs.declared.script.Script.{Script}
use Rattle.capability_engine.specs.declared.script.Task.{Task}
use Rattle.capability_engine.specs.declared.script.Task.TheVariants.{Tell, Regions, Segments, Print, Nothing, Allow}
use Rattle.capability_engine.specs.CompartmentGrown.{Grown, IsGrown, Sized, Answers}
use Rattle.capability_engine.specs.CompartmentSteps.{no_tracker}
use Rattle.capability_engine.specs.ScriptFeed.{owed, due, comes, Feeds}
use Rattle.capability_engine.specs.ScriptSteps.{task_prints, task_leaves, moved, Hears, bytes_of, Adds, told, Prints, lines_on, Shows, Performs, started, Goes}
use Rattle.capability_engine.proofs.PoolOwns.{bit_le}
use Rattle.capability_engine.proofs.CompartmentLaws.{holds-long}
use Rattle.capability_engine.proofs.CompartmentCalls.{get_d_any}
use Rattle.capability_engine.proofs.CompartmentFacts.{held, whole, stored_is, table}
use Rattle.capability_engine.proofs.ScriptPrints.{stopped, adds_none, adds_one, adds-more, adds-length}
use Rattle.lines.proofs.Putting.{none-whole}

-- what is left to do: it falls with each step
unfoldable pub to_do : ℕ → Progress → ℕ
to_do n p = 4 * (n - p.used) + 2 * bit (p.compartment <? 8) + bit (not p.full)

-- a script with the bytes held of its line
abbrev pub script_at : List ℕ → Progress → Script
script_at line p = record { line = line; progress = p }

-- what is written of a script from where the piece began, and that with what is due after it this is what was due before
pub record Going (calls : List Call) (c : Script) (input out : List ℕ) (words next links gens : List ℕ) (t : Tables)
    (line out' : List ℕ) (p : Progress) : Type 0 where
  pub later : List Call
  pub grown : Grown words next links gens t later
  pub lines : List (List ℕ)
  pub prints : (more : List ℕ) → due (after calls) c (input ++ more)
      ≡ lines ++ due (after later) (script_at line p) (drop p.used input ++ more)
  pub leaves : (more : List ℕ) → comes (after calls) c (input ++ more)
      ≡ comes (after later) (script_at line p) (drop p.used input ++ more)
  pub adds : Adds lines out out' c.progress p
  pub size : length line ≡ 88
  pub short : p.len ≤ 88
  pub taken : p.used ≤ length input
  pub nobody : p.compartment ≤ 8
  pub stuck : p.full ≡ true → (more : List ℕ)
      → whole_lines (length out - p.at) (due (after later) (script_at line p) (drop p.used input ++ more)) ≡ []
  -- where no P was owed and there was room for an answer, bytes are taken before anything else is done
  pub idle : 8 ≤ c.progress.compartment → c.progress.at + 25 ≤ length out → p.used ≡ 0
      → (8 ≤ p.compartment) × (p.at ≡ c.progress.at) × (p.full ≡ false)

-- ---- what is owed

owed_none : (s : State) (k from : ℕ) → 8 ≤ k → owed s k from ≡ []
unfolding owed
owed_none s k from h = simp (le-ltb k 8 h)

owed-lines : (s : State) (k from : ℕ) → k < 8 → owed s k from ≡ drop from (lines_on (compartment s k))
unfolding owed answer ask answer_in mapping_lines lines_on compartment_of
owed-lines s k from h = simp (lt-ltb k 8 h)

owed_all : (s : State) (k : ℕ) → k < 8 → owed s k 0 ≡ printed s (call (Mappings k))
unfolding owed
owed_all s k h = simp (lt-ltb k 8 h)

-- no line of the output is shorter than an answer's
short-room : (s : State) (room : ℕ) (ls : List (List ℕ)) → room < 25 → whole_lines room (output_from s ls) ≡ []
unfolding output_from whole_lines
short-room s room [] h = refl
short-room s room (l ∷ ls) h = go (line_of l)
  where
    go : (x : Line) → whole_lines room (printed s x ++ output_from (left s x) ls) ≡ []
    go (call c) = none-whole room (answer_line (answer s c)) (mapping_lines s c ++ output_from (next s c) ls) (omega (arith, length-answer (answer s c)))
    go malformed = none-whole room (answer_line (Err Malformed)) (output_from s ls) (omega (arith, length-answer (Err Malformed)))

-- ---- it begins

module _ (calls : List Call) (line : List ℕ) (p : Progress) (input out words next links gens : List ℕ) (t : Tables) where
  pub going_start : Grown words next links gens t calls → length line ≡ 88 → (q : Progress) (at : ℕ) → p ≡ started q at
      → Going calls (script_at line p) input out words next links gens t line out p
  going_start g size q at e = rw e (record {
    later = calls;
    grown = g;
    lines = [];
    prints = λ more. refl;
    leaves = λ more. refl;
    adds = adds_none out (started q at) (started q at) refl refl (omega arith);
    size = size;
    short = omega arith;
    taken = omega arith;
    nobody = omega arith;
    stuck = λ f. absurd (true≢false (sym f));
    idle = λ k room z. (k, refl, refl);
  })

-- ---- a P goes on

-- the slices of the pool keep their lengths
pub sized : (words next links gens : List ℕ) (t : Tables) (calls : List Call) → Grown words next links gens t calls → Sized words next links gens
sized words next links gens t calls g = (g.pooled.words_size, g.pooled.next_size, g.pooled.arena.grown.list.size, g.pooled.arena.grown.size)

pub lengths : (words next links gens : List ℕ) (t : Tables) → IsGrown words next links gens t
    → (words' next' links' gens' : List ℕ) (t' : Tables) → IsGrown words' next' links' gens' t'
    → (length words' ≡ length words) × (length next' ≡ length next) × (length links' ≡ length links) × (length gens' ≡ length gens)
lengths words next links gens t g words' next' links' gens' t' h =
    let a = sized words next links gens t g.calls g.grown in
    let b = sized words' next' links' gens' t' h.calls h.grown in
    (omega (arith, a, b), omega (arith, a, b), omega (arith, a, b), omega (arith, a, b))

module _ (words next links gens : List ℕ) (t : Tables) (calls : List Call) (g : Grown words next links gens t calls) (k : ℕ) (l : k < 8) where
  at-tracker : (d : RegionTracker) → get_or t.trackers k d ≡ get_or t.trackers k no_tracker
  at-tracker d =
      get_d_any t.trackers k d no_tracker
      (omega (arith, holds-long next words t.trackers (after calls).compartments g.pooled.holds, length-after calls))

  pub shown : (d : RegionTracker) (e : Remapper) → Shows words next (get_or t.trackers k d) (get_or t.remappers k e) (compartment (after calls) k)
  shown d e = rw (at-tracker d) (record {
    whole = whole words next links gens t calls g k l;
    stored = stored_is words next links gens t calls g k l;
    held = held words next links gens t calls g k l e;
    table = table words next links gens t calls g k l;
  })

module _ (calls : List Call) (c : Script) (input out words next links gens : List ℕ) (t : Tables) (line now : List ℕ) (p : Progress)
    (g : Going calls c input out words next links gens t line now p) where
  pub going-room : length now ≡ length out
  going-room = adds-length g.lines out now c.progress p g.adds

  -- a step: lines are written that were due, and what is then due is what was due behind them
  step : (words' next' links' gens' : List ℕ) (t' : Tables) (later : List Call) (line' now' : List ℕ) (r : Progress) (ls : List (List ℕ))
      → Grown words' next' links' gens' t' later → Adds ls now now' p r
      → ((more : List ℕ) → due (after g.later) (script_at line p) (drop p.used input ++ more) ≡ ls ++ due (after later) (script_at line' r) (drop r.used input ++ more))
      → ((more : List ℕ) → comes (after g.later) (script_at line p) (drop p.used input ++ more) ≡ comes (after later) (script_at line' r) (drop r.used input ++ more))
      → length line' ≡ 88 → r.len ≤ 88 → r.used ≤ length input → r.compartment ≤ 8
      → (r.full ≡ true → (more : List ℕ) → whole_lines (length now - r.at) (due (after later) (script_at line' r) (drop r.used input ++ more)) ≡ [])
      → (8 ≤ c.progress.compartment → c.progress.at + 25 ≤ length out → r.used ≡ 0 → ⊥)
      → Going calls c input out words' next' links' gens' t' line' now' r
  step words' next' links' gens' t' later line' now' r ls grown adds prints leaves size short taken nobody stuck idle = record {
    later = later;
    grown = grown;
    lines = g.lines ++ ls;
    prints = λ more. g.prints more ∙ ap (λ (x : List (List ℕ)). g.lines ++ x) (prints more) ∙ sym (append_assoc g.lines ls (due (after later) (script_at line' r) (drop r.used input ++ more)));
    leaves = λ more. g.leaves more ∙ leaves more;
    adds = adds-more g.lines ls out now now' c.progress p r g.adds adds;
    size = size;
    short = short;
    taken = taken;
    nobody = nobody;
    stuck = λ f more. ap (λ (n : ℕ). whole_lines (n - r.at) (due (after later) (script_at line' r) (drop r.used input ++ more))) (sym going-room) ∙ stuck f more;
    idle = λ k room z. absurd (idle k room z);
  }

  -- lines of a P are written
  module _ (l : p.compartment < 8) (now' : List ℕ) (r : Progress)
      (i : Prints (drop p.from (lines_on (compartment (after g.later) p.compartment))) now now' p r) where
    still-owed : (f : Bool) → r.full ≡ f → (owed (after g.later) r.compartment r.from ≡ i.left) × (r.compartment ≤ 8)
    still-owed false f =
        let w = i.whole f in
        (owed_none (after g.later) r.compartment r.from (omega (arith, w.1)) ∙ sym w.0, omega (arith, w.1))
    still-owed true f =
        let w = i.stuck f in
        let all : List (List ℕ) = lines_on (compartment (after g.later) p.compartment) in (
          ap (λ (k : ℕ). owed (after g.later) k r.from) w.0 ∙ owed-lines (after g.later) p.compartment r.from l
              ∙ ap (λ (k : ℕ). drop k all) w.1 ∙ sym (drop-drop (length i.written) p.from all) ∙ ap (drop (length i.written)) i.split
              ∙ drop-append_seam i.written i.left,
          omega (arith, w.0),
        )

    rest_owed : (more : List ℕ) → due (after g.later) (script_at line r) (drop r.used input ++ more)
        ≡ i.left ++ output_from (after g.later) (lines_with (take p.len line) (drop p.used input ++ more))
    unfolding due
    rest_owed more = rw (i.len, i.used) (ap (λ (x : List (List ℕ)). x ++ output_from (after g.later) (lines_with (take p.len line) (drop p.used input ++ more))) (still-owed r.full refl).0)

    pub going-print : Going calls c input out words next links gens t line now' r
    unfolding due comes
    going-print =
        step words next links gens t g.later line now' r i.written g.grown i.adds
        (λ more. ap (λ (x : List (List ℕ)). x ++ output_from (after g.later) (lines_with (take p.len line) (drop p.used input ++ more)))
        (owed-lines (after g.later) p.compartment p.from l ∙ i.split)
        ∙ append_assoc i.written i.left (output_from (after g.later) (lines_with (take p.len line) (drop p.used input ++ more)))
        ∙ ap (λ (x : List (List ℕ)). i.written ++ x) (sym (rest_owed more)))
        (λ more. rw (i.len, i.used))
        g.size (omega (arith, i.len, g.short)) (omega (arith, i.used, g.taken)) (still-owed r.full refl).1
        (λ f more. rw (rest_owed more) ((i.stuck f).2 (output_from (after g.later) (lines_with (take p.len line) (drop p.used input ++ more)))))
        (λ k room z. omega (arith, (g.idle k room (sym i.used ∙ z)).0))

  -- there is no room for an answer
  pub going-full : 8 ≤ p.compartment → length now < p.at + 25 → Going calls c input out words next links gens t line now (stopped p)
  unfolding due comes
  going-full k l =
      step words next links gens t g.later line now (stopped p) [] g.grown (adds_none now p (stopped p) refl refl g.adds.counted)
      (λ more. refl) (λ more. refl) g.size g.short g.taken g.nobody
      (λ f more. rw (owed_none (after g.later) p.compartment p.from k)
      (short-room (after g.later) (length now - p.at) (lines_with (take p.len line) (drop p.used input ++ more)) (omega arith)))
      (λ q room z. omega (arith, going-room, (g.idle q room z).1))

  -- bytes are heard, and what they ask for is done
  module _ (k : 8 ≤ p.compartment) (f : p.full ≡ false) (line' : List ℕ) (q : Progress) (task : Task) (i : Hears line line' p input q task)
      (words' next' links' gens' : List ℕ) (t' : Tables) (now' : List ℕ) (r : Progress)
      (d : Performs g.later task now q words' next' links' gens' t' now' r) where
    added : Adds d.lines now now' p r
    added =
        let a : Adds d.lines now now' (moved p q.len q.used) r = subst (λ (x : Progress). Adds d.lines now now' x r) i.same d.adds in
        record { text = a.text; end = a.end; many = a.many; counted = a.counted; fits = a.fits }

    open_still : r.full ≡ false
    open_still = d.full ∙ ap (λ (x : Progress). x.full) i.same ∙ f

    pub going-performs : Going calls c input out words' next' links' gens' t' line' now' r
    unfolding due comes
    going-performs =
        let s₀ : State = after g.later in
        let s₁ : State = task_leaves s₀ task in
        let rest : List ℕ → List (List ℕ) = λ more. output_from s₁ (lines_with (take q.len line') (drop q.used input ++ more)) in
        step words' next' links' gens' t' d.later line' now' r d.lines d.grown added
        (λ more. rw (owed_none s₀ p.compartment p.from k, d.len, d.used, d.left)
        (i.prints s₀ more ∙ ap (λ (x : List (List ℕ)). x ++ rest more) (rw d.left at d.prints) ∙ append_assoc d.lines (owed s₁ r.compartment r.from) (rest more)))
        (λ more. rw (d.len, d.used, d.left) (i.leaves (after g.later) more))
        i.size (omega (arith, i.short, d.len)) (omega (arith, i.taken, d.used)) d.nobody (λ z. absurd (true≢false (sym z ∙ open_still)))
        (λ z room e. omega (arith, d.used, i.ahead))

    pub less-performs : to_do (length input) r < to_do (length input) p
    unfolding to_do
    less-performs = omega (arith, d.used, i.ahead, i.taken, bit_le (r.compartment <? 8), bit_le (not r.full))

-- ---- what a line asks for is done

module _ (calls : List Call) (out words next links gens : List ℕ) (t : Tables) (p : Progress) where
  -- nothing is written
  module _ (g : Grown words next links gens t calls) (h : p.lines ≤ p.at) (k : 8 ≤ p.compartment) (b : p.compartment ≤ 8) where
    -- the line goes on in the next piece
    pub performs-none : Performs calls Nothing out p words next links gens t out p
    unfolding task_prints task_leaves
    performs-none = record {
      later = calls;
      grown = g;
      lines = [];
      adds = adds_none out p p refl refl h;
      prints = sym (owed_none (after calls) p.compartment p.from k);
      left = refl;
      len = refl;
      used = refl;
      full = refl;
      nobody = b;
    }

    -- a P is owed
    abbrev pub asked : ℕ → Progress
    asked j = record { len = p.len; compartment = j; from = 0; used = p.used; at = p.at; lines = p.lines; full = p.full }

    pub performs-print : (j : ℕ) → j < 8 → Performs calls (Print j) out p words next links gens t out (asked j)
    unfolding task_prints task_leaves
    performs-print j l = record {
      later = calls;
      grown = g;
      lines = [];
      adds = adds_none out p (asked j) refl refl h;
      prints = sym (owed_all (after calls) j l);
      left = refl;
      len = refl;
      used = refl;
      full = refl;
      nobody = omega arith;
    }

  -- a line is answered
  module _ (room : (p.at + 25 ≤ length out) × (p.lines ≤ p.at) × (8 ≤ p.compartment) × (p.compartment ≤ 8)) (a : Answer) (out' : List ℕ) (r : Progress)
      (o : (out' ≡ sets out p.at (answer_line a)) × (r ≡ told p 25)) where
    performs-line : (task : Task) (later : List Call) → Grown words next links gens t later → task_prints (after calls) task ≡ answer_line a ∷ []
        → after later ≡ task_leaves (after calls) task → Performs calls task out p words next links gens t out' r
    performs-line task later g e s = rw o.1 (record {
      later = later;
      grown = g;
      lines = answer_line a ∷ [];
      adds = adds_one out p (told p 25) out' (answer_line a) 25 (length-answer a) (omega arith) room.1 o.0 refl refl room.0;
      prints = e ∙ ap (λ (x : List (List ℕ)). answer_line a ∷ x) (sym (owed_none (after later) p.compartment p.from room.2));
      left = s;
      len = refl;
      used = refl;
      full = refl;
      nobody = room.3;
    })

    pub performs-tell : Grown words next links gens t calls → Performs calls (Tell a) out p words next links gens t out' r
    unfolding task_prints task_leaves
    performs-tell g = performs-line (Tell a) calls g refl refl

    -- by a call, which leaves these tables
    module _ (words₀ next₀ links₀ gens₀ : List ℕ) (t₀ : Tables) (call : Call) (w : Answers calls call words₀ next₀ links₀ gens₀ t₀ words next links gens t a) where
      says : answer_line (answer (after calls) call) ∷ [] ≡ answer_line a ∷ []
      says = ap (λ (y : Answer). answer_line y ∷ []) (sym w.answered)

      pub performs-regions : (j : ℕ) → Performs calls (Regions j call) out p words next links gens t out' r
      unfolding task_prints task_leaves
      performs-regions j = performs-line (Regions j call) (calls ++ (call ∷ [])) w.grown says (after-snoc calls call)

      pub performs-segments : (j : ℕ) → Performs calls (Segments j call) out p words next links gens t out' r
      unfolding task_prints task_leaves
      performs-segments j = performs-line (Segments j call) (calls ++ (call ∷ [])) w.grown says (after-snoc calls call)

    pub performs-allow : (words₀ next₀ links₀ gens₀ : List ℕ) (t₀ : Tables) (j n : ℕ)
        → Answers calls (spoken.Allow j n) words₀ next₀ links₀ gens₀ t₀ words next links gens t a → Performs calls (Allow j n) out p words next links gens t out' r
    unfolding task_prints task_leaves
    performs-allow words₀ next₀ links₀ gens₀ t₀ j n w =
        performs-line (Allow j n) (calls ++ (spoken.Allow j n ∷ [])) w.grown (says words₀ next₀ links₀ gens₀ t₀ (spoken.Allow j n) w) (after-snoc calls (spoken.Allow j n))

-- ---- each step leaves less to do

module _ (n : ℕ) (p : Progress) where
  module _ (f : p.full ≡ false) where
    -- there is no room
    pub less-full : to_do n (stopped p) < to_do n p
    unfolding to_do
    less-full = rw f (omega arith)

    -- a P is written, or there is no room
    pub less-print : p.compartment < 8 → (r : Progress) → r.used ≡ p.used → (r.full ≡ false → r.compartment ≡ 8) → to_do n r < to_do n p
    unfolding to_do
    less-print l r u w = rw (f, u, lt-ltb p.compartment 8 l) (go r.full refl)
      where
        go : (b : Bool) → r.full ≡ b → 4 * (n - p.used) + 2 * bit (r.compartment <? 8) + bit (not r.full) < 4 * (n - p.used) + 2 * 1 + 1
        go true e = rw e (omega (arith, bit_le (r.compartment <? 8)))
        go false e = rw (e, w e) (omega arith)

-- ---- it ends

module _ (c : Script) (at : ℕ) (size : length c.line ≡ 88) where
  same-owed : (s : State) → owed s (min 8 c.progress.compartment) c.progress.from ≡ owed s c.progress.compartment c.progress.from
  same-owed s = elim (dec_lt c.progress.compartment 8) [
    | yes l ↦ let z : min 8 c.progress.compartment ≡ c.progress.compartment = omega arith in rw z
    | no l ↦ owed_none s (min 8 c.progress.compartment) c.progress.from (omega arith) ∙ sym (owed_none s c.progress.compartment c.progress.from (omega arith))
  ]

  same-held : take (min 88 c.progress.len) c.line ≡ take c.progress.len c.line
  same-held = elim (dec_lt c.progress.len 88) [
    | yes l ↦ let z : min 88 c.progress.len ≡ c.progress.len = omega arith in rw z
    | no l ↦ take_all (min 88 c.progress.len) c.line (omega arith) ∙ sym (take_all c.progress.len c.line (omega arith))
  ]

  same-due : (s : State) (bytes : List ℕ) → due s (script_at c.line (started c.progress at)) bytes ≡ due s c bytes
  unfolding due
  same-due s bytes = rw (same-owed s, same-held)

  same-comes : (s : State) (bytes : List ℕ) → comes s (script_at c.line (started c.progress at)) bytes ≡ comes s c bytes
  unfolding comes
  same-comes s bytes = rw same-held

  module _ (calls : List Call) (input out words next links gens : List ℕ) (t : Tables) (line now : List ℕ) (p q : Progress) (e : q ≡ started c.progress at)
      (g : Going calls (script_at c.line q) input out words next links gens t line now p) (b : Bool) (w : Goes p (length input) b) (z : b ≡ false) where
    -- nothing taken, and yet at the end: there was no room, or nothing to take
    idle-end : 8 ≤ c.progress.compartment → at + 25 ≤ length out → 1 ≤ length input → p.used ≡ 0 → ⊥
    idle-end k room l u =
        let i = g.idle (rw e (omega arith)) (rw e room) u in
        omega (arith, (w.off z i.2).1)

    pub going_end : Feeds calls c input out at words next links gens now t (script_at line p)
    going_end = record {
      later = g.later;
      grown = g.grown;
      lines = g.lines;
      prints = λ more. sym (ap (λ (x : Progress). due (after calls) (script_at c.line x) (input ++ more)) e ∙ same-due (after calls) (input ++ more)) ∙ g.prints more;
      leaves = λ more. sym (ap (λ (x : Progress). comes (after calls) (script_at c.line x) (input ++ more)) e ∙ same-comes (after calls) (input ++ more)) ∙ g.leaves more;
      text = g.adds.text ∙ ap (λ (x : Progress). sets out x.at (bytes_of g.lines)) e;
      end = g.adds.end ∙ ap (λ (x : Progress). x.at + length (bytes_of g.lines)) e;
      many = omega (arith, g.adds.many, ap (λ (x : Progress). x.lines) e);
      fits = λ l. g.adds.fits (omega (arith, l, ap (λ (x : Progress). x.at) e));
      room = g.size ∙ sym size;
      taken = g.taken;
      whole = λ f. (omega (arith, w.off z f, g.taken), omega (arith, w.off z f, g.nobody));
      stuck = g.stuck;
      ahead = λ k room l. elim (dec_lt 0 p.used) [ yes m ↦ m | no m ↦ absurd (idle-end k room l (omega arith)) ];
    }
