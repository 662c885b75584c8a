-- A piece of a script that is run for what it leaves, in as many turns as its output takes.
use Prim.Native.Nat.{ℕ, zero, suc, ◌+◌, ◌-◌, ◌<◌, ◌≤◌}
use mathlib.Core.Path.{◌≡◌, refl, sym, ap, ◌∙◌}
use mathlib.Core.Bool.{Bool, true, false, true≢false}
use Rattle.std.specs.Prelude.{◌==◌}
use mathlib.Core.List.{List, [], ◌∷◌, ◌++◌, append-nil}
use native.Mathlib.Omega.{arith}
use lib.ListN.{length, take, drop, replicate, length-append, length-drop}
use borrow.Author.Tests.{ne_eqb}
use borrow.Author.Rules.{part_to_end}
use Rattle.definitions.specs.Calls.{State, after}
use Rattle.definitions.specs.Script.{lines_of, line_of, left, left_from}
use Rattle.definitions.specs.declared.call.Call.{Call}
use Rattle.lines.specs.Lines.{lines_with}
use Rattle.lines.proofs.Pieces.{long-line, lines-own}
use Rattle.capability_engine.specs.declared.compartments.Tables.{Tables}
use Rattle.capability_engine.specs.declared.script.Script.{Script}
use Rattle.capability_engine.specs.CompartmentGrown.{Grown}
use Rattle.capability_engine.specs.ScriptFeed.{held, comes, begun, Feeds, Runs, Replays}

-- how far a piece has come: what is left with what follows it is what was left before
pub record Running (calls : List Call) (c : Script) (input words next links gens : List ℕ) (t : Tables) (c' : Script) (rest : List ℕ) : Type 0 where
  pub later : List Call
  pub grown : Grown words next links gens t later
  pub leaves : (more : List ℕ) → comes (after calls) c (input ++ more) ≡ comes (after later) c' (rest ++ more)

-- nobody's mappings are owed
abbrev pub quiet : Script → Script
quiet c = record {
  line = c.line;
  progress = record {
    len = c.progress.len;
    compartment = 8;
    from = c.progress.from;
    used = c.progress.used;
    at = c.progress.at;
    lines = c.progress.lines;
    full = c.progress.full;
  };
}

module _ (calls : List Call) (c : Script) (input words next links gens : List ℕ) (t : Tables) where
  pub running-start : Grown words next links gens t calls → Running calls c input words next links gens t c input
  running-start g = record { later = calls; grown = g; leaves = λ more. refl }

  module _ (c' : Script) (rest : List ℕ) (q : Running calls c input words next links gens t c' rest) where
    pub running-end : rest ≡ [] → Runs calls c input words next links gens t c'
    running-end e = record {
      later = q.later;
      grown = q.grown;
      leaves = λ more. q.leaves more ∙ ap (λ (x : List ℕ). comes (after q.later) c' (x ++ more)) e;
    }

    module _ (out words' next' links' gens' out' : List ℕ) (t' : Tables) (r : Script)
        (f : Feeds q.later (quiet c') rest out 0 words' next' links' gens' out' t' r) where
      pub running-taken : r.progress.used ≤ length rest
      running-taken = f.taken

      pub running_more : Running calls c input words' next' links' gens' t' r (take (length rest - r.progress.used) (drop r.progress.used rest))
      unfolding comes
      running_more = rw (part_to_end rest r.progress.used) (record { later = f.later; grown = f.grown; leaves = λ more. q.leaves more ∙ f.leaves more })

      -- each turn takes bytes
      pub running-less : 0 < length rest → length out ≡ 65536 → length (take (length rest - r.progress.used) (drop r.progress.used rest)) < length rest
      running-less l e = rw (part_to_end rest r.progress.used) (omega (arith, f.ahead (omega arith) (omega arith) l, length-drop r.progress.used rest))

-- is there something left?
pub some-left : (b : Bool) (rest : List ℕ) → b ≡ (length rest == 0) → b ≡ false → 0 < length rest
some-left b [] e n = absurd (true≢false (sym e ∙ n))
some-left b (x ∷ xs) e n = omega arith

pub none-left : (b : Bool) (rest : List ℕ) → b ≡ (length rest == 0) → b ≡ true → rest ≡ []
none-left b [] e n = refl
none-left b (x ∷ xs) e n = absurd (true≢false (sym n ∙ e ∙ ne_eqb (length (x ∷ xs)) 0 (λ q. omega arith)))

-- ---- a whole script

-- with these bytes in it a line is too long to be of the form
abbrev filler : List ℕ
filler = replicate 88 0

-- so it leaves what there was
filled-line : (n : ℕ) (line : List ℕ) (s : State) → 88 ≤ length line + n → left_from s (lines_with line (replicate n 0)) ≡ s
unfolding lines_with left_from
filled-line zero line s h = simp (ne_eqb (length line) 0 (λ e. omega arith)) (rw (long-line line (omega arith)))
filled-line (suc n) line s h = filled-line n (line ++ (0 ∷ [])) s (omega (arith, length-append line (0 ∷ [])))

-- the last line of a script does the same with its end
unended : (line : List ℕ) (s : State) → left_from s (lines_with line (10 ∷ filler)) ≡ left_from s (lines_with line [])
unfolding lines_with left_from line_of
unended line s = rw (lines-own filler) (filled-line 88 [] (left s (line_of line)) (omega arith) ∙ go line)
  where
    go : (l : List ℕ) → left s (line_of l) ≡ left_from s (lines_with l [])
    go [] = refl
    go (b ∷ bs) = simp (ne_eqb (length (b ∷ bs)) 0 (λ e. omega arith))

module _ (calls : List Call) (c : Script) (script words next links gens : List ℕ) (t : Tables) (r : Script) (e : c ≡ begun) (q : Runs calls c script words next links gens t r) where
  -- what is left at the script's end
  all_left : comes (after q.later) r [] ≡ left_from (after calls) (lines_of script)
  unfolding comes
  all_left =
      sym (q.leaves []) ∙ ap (λ (x : List ℕ). comes (after calls) c x) (append-nil script) ∙ ap (λ (x : Script). comes (after calls) x script) e
      ∙ ap (left_from (after calls)) (sym (lines-own script))

  -- the script's last line has ended
  pub replay-ended : r.progress.len ≡ 0 → Replays calls script words next links gens t
  unfolding comes lines_with left_from
  replay-ended z = record {
    later = q.later;
    grown = q.grown;
    left = let l : comes (after q.later) r [] ≡ after q.later = rw z in sym l ∙ all_left;
  }

  -- or is ended by another byte
  pub replay-unended : (words' next' links' gens' : List ℕ) (t' : Tables) (u : Script) → Runs q.later r (10 ∷ []) words' next' links' gens' t' u
      → Replays calls script words' next' links' gens' t'
  unfolding comes
  replay-unended words' next' links' gens' t' u w = record {
    later = w.later;
    grown = w.grown;
    left = sym (w.leaves filler ∙ filled-line 88 (held u) (after w.later) (omega arith)) ∙ unended (held r) (after q.later) ∙ all_left;
  }
