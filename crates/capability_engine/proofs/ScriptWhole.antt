-- A whole script, fed at one go and its last line ended: what is written is its output, as many whole lines as fit.
use Prim.Native.Nat.{ℕ, suc, ◌+◌, ◌-◌, ◌≤◌}
use mathlib.Core.Path.{◌≡◌, refl, sym, ap, subst, ◌∙◌}
use mathlib.Core.Bool.{Bool, true, false}
use mathlib.Core.List.{List, [], ◌∷◌, ◌++◌, append-nil, append_assoc}
use native.Mathlib.Omega.{arith}
use native.Mathlib.Decide.{dec_lt}
use lib.ListN.{length, drop, length-append, drop_of_length-le}
use lib.Seq.{sets, length-sets}
use borrow.Author.Tests.{ne_eqb}
use Rattle.definitions.specs.Calls.{State, start, after, after_from}
use Rattle.definitions.specs.Script.{line_of, lines_of, answer_line, printed, output_from, heading, output_of, whole_lines}
use Rattle.definitions.specs.declared.answer.Refusal.TheVariants.{Malformed}
use Rattle.std.specs.Prelude.{Err}
use Rattle.columns.proofs.Room.{sets_behind}
use Rattle.lines.specs.Lines.{lines_with}
use Rattle.lines.proofs.Pieces.{lines-own}
use Rattle.lines.proofs.Written.{length-heading}
use Rattle.lines.proofs.Putting.{text, text-length, whole-lines}
use Rattle.capability_engine.specs.declared.script.Script.{Script}
use Rattle.capability_engine.specs.declared.compartments.Tables.{Tables}
use Rattle.capability_engine.specs.ScriptFeed.{held, owed, due, begun, Feeds}
use Rattle.capability_engine.proofs.StreamLists.{each_append}

lines-last : (h : List ℕ) → 1 ≤ length h → lines_with h (10 ∷ []) ≡ lines_with h []
unfolding lines_with lines_of
lines-last [] l = absurd (omega arith)
lines-last (b ∷ h) l = simp (ne_eqb (length (b ∷ h)) 0 (λ e. omega (arith, e)))

no_line : (h : List ℕ) → length h ≡ 0 → lines_with h [] ≡ []
unfolding lines_with
no_line [] z = refl
no_line (b ∷ h) z = absurd (omega arith)

-- nothing is owed, and no line has begun
owes-none : (s : State) (c : Script) (bytes : List ℕ) → c.progress.compartment ≡ 8 → due s c bytes ≡ output_from s (lines_with (held c) bytes)
unfolding due owed
owes-none s c bytes e = rw e

module _ (s : State) (c : Script) (e : c.progress.compartment ≡ 8) where
  -- a line that nothing follows is as one that is ended
  pub due-last : 1 ≤ length (held c) → due s c (10 ∷ []) ≡ due s c []
  due-last l = owes-none s c (10 ∷ []) e ∙ ap (output_from s) (lines-last (held c) l) ∙ sym (owes-none s c [] e)

  pub due-done : length (held c) ≡ 0 → due s c [] ≡ []
  unfolding output_from
  due-done z = owes-none s c [] e ∙ ap (output_from s) (no_line (held c) z)

-- an empty line more prints a line more
more-lines : (s : State) (l : List ℕ) → length (output_from s (l ∷ [] ∷ [])) ≡ suc (length (output_from s (l ∷ [])))
unfolding output_from line_of
more-lines s l = omega (
  arith,
  length-append (printed s (line_of l)) (answer_line (Err Malformed) ∷ []),
  length-append (printed s (line_of l)) [],
)

-- what a script prints from the beginning
pub due-begun : (s : State) (script : List ℕ) → due s begun script ≡ output_from s (lines_of script)
due-begun s script = owes-none s begun script refl ∙ ap (output_from s) (sym (lines-own script))

-- lines are written behind the heading, up to one that does not fit or to the end
pub record Wrote (script out out' : List ℕ) (n : ℕ) : Type 0 where
  pub slice : out' ≡ sets out 0 (text (whole_lines (length out) (output_of script)))
  pub many : n ≡ length (whole_lines (length out) (output_of script))

module _ (script out out' : List ℕ) (ls rest : List (List ℕ)) (at : ℕ) where
  pub wrote : output_from start (lines_of script) ≡ ls ++ rest → at ≡ 25 + length (text ls) → at ≤ length out
      → whole_lines (length out - at) rest ≡ [] → out' ≡ sets (sets out 0 heading) 25 (text ls) → Wrote script out out' (1 + length ls)
  unfolding output_of
  wrote e a l stuck o =
      let n : length (text (heading ∷ ls)) ≡ at = text-length heading ls ∙ ap (λ k. k + length (text ls)) length-heading ∙ sym a in
      let all : whole_lines (length out) (output_of script) ≡ heading ∷ ls =
      ap (λ (x : List (List ℕ)). whole_lines (length out) (heading ∷ x)) e
      ∙ whole-lines (length out) (heading ∷ ls) rest (omega (arith, n)) (ap (λ k. whole_lines (length out - k) rest) n ∙ stuck) in
      record {
        slice = o ∙ sets_behind 0 25 heading (text ls) out length-heading ∙ ap (λ x. sets out 0 (text x)) (sym all);
        many = omega (arith, ap length all);
      }

module _ (script out words next links gens out1 : List ℕ) (t : Tables) (r : Script) (room : 25 ≤ length out)
    (f : Feeds [] begun script (sets out 0 heading) 25 words next links gens out1 t r) where
  abbrev rest : List (List ℕ)
  rest = due (after f.later) r (drop r.progress.used script ++ [])

  pub first-feed : output_from start (lines_of script) ≡ f.lines ++ rest
  unfolding after after_from
  first-feed = sym (due-begun start script) ∙ ap (due start begun) (sym (append-nil script)) ∙ f.prints []

  size : length (sets out 0 heading) ≡ length out
  size = length-sets out 0 heading

  ends : r.progress.at ≤ length out
  ends = omega (arith, f.fits (omega (arith, size)), size)

  -- the next line does not fit
  pub wrote-full : r.progress.full ≡ true → Wrote script out out1 (1 + r.progress.lines)
  wrote-full e =
      subst (λ (n : ℕ). Wrote script out out1 (1 + n)) (sym f.many)
      (wrote script out out1 f.lines rest r.progress.at first-feed f.end ends
      (ap (λ n. whole_lines (n - r.progress.at) rest) (sym size) ∙ f.stuck e []) f.text)

  module _ (e : r.progress.full ≡ false) where
    all-taken : rest ≡ due (after f.later) r []
    all-taken =
        let l : length script ≤ r.progress.used = omega (arith, (f.whole e).0) in
        ap (λ (x : List ℕ). due (after f.later) r (x ++ [])) (drop_of_length-le script l)

    -- all lines are ended
    pub wrote-all : length (held r) ≡ 0 → Wrote script out out1 (1 + r.progress.lines)
    unfolding whole_lines
    wrote-all z =
        subst (λ (n : ℕ). Wrote script out out1 (1 + n)) (sym f.many)
        (wrote script out out1 f.lines rest r.progress.at first-feed f.end ends
        (ap (whole_lines (length out - r.progress.at)) (all-taken ∙ due-done (after f.later) r (f.whole e).1 z)) f.text)

    -- the last is not, and is ended now
    module _ (l : 1 ≤ length (held r)) (words' next' links' gens' out2 : List ℕ) (t' : Tables) (q : Script)
        (h : Feeds f.later r (10 ∷ []) out1 r.progress.at words' next' links' gens' out2 t' q) where
      abbrev rest' : List ℕ → List (List ℕ)
      rest' more = due (after h.later) q (drop q.progress.used (10 ∷ []) ++ more)

      second-feed : output_from start (lines_of script) ≡ (f.lines ++ h.lines) ++ rest' []
      second-feed =
          first-feed
          ∙ ap (λ (x : List (List ℕ)). f.lines ++ x) (all-taken ∙ sym (due-last (after f.later) r (f.whole e).1 l) ∙ h.prints [])
          ∙ sym (append_assoc f.lines h.lines (rest' []))

      behind : q.progress.full ≡ false → (more : List ℕ) → rest' more ≡ due (after h.later) q more
      behind g more = ap (λ (n : ℕ). due (after h.later) q (drop n (10 ∷ []) ++ more)) (h.whole g).0

      -- then no line is held: an end more would print a line more
      one_more : (more : List ℕ) → due (after f.later) r (10 ∷ more) ≡ output_from (after f.later) (held r ∷ lines_of more)
      unfolding lines_with
      one_more more = owes-none (after f.later) r (10 ∷ more) (f.whole e).1

      not-held : q.progress.full ≡ false → 1 ≤ length (held q) → ⊥
      unfolding lines_of
      not-held g n =
          let same : due (after f.later) r (10 ∷ 10 ∷ []) ≡ due (after f.later) r (10 ∷ []) =
          h.prints (10 ∷ []) ∙ ap (λ (x : List (List ℕ)). h.lines ++ x) (behind g (10 ∷ []) ∙ due-last (after h.later) q (h.whole g).1 n ∙ sym (behind g []))
          ∙ sym (h.prints []) in
          omega (arith, ap length (sym (one_more (10 ∷ [])) ∙ same ∙ one_more []), more-lines (after f.later) (held r))

      ended : q.progress.full ≡ false → length (held q) ≡ 0
      ended g = elim (dec_lt 0 (length (held q))) [ yes n ↦ absurd (not-held g (omega arith)) | no n ↦ omega arith ]

      kept : length out1 ≡ length out
      kept = ap length f.text ∙ length-sets (sets out 0 heading) 25 (text f.lines) ∙ size

      stops : (b : Bool) → q.progress.full ≡ b → whole_lines (length out - q.progress.at) (rest' []) ≡ []
      unfolding whole_lines
      stops true g = ap (λ n. whole_lines (n - q.progress.at) (rest' [])) (sym kept) ∙ h.stuck g []
      stops false g = ap (whole_lines (length out - q.progress.at)) (behind g [] ∙ due-done (after h.later) q (h.whole g).1 (ended g))

      pub wrote-last : Wrote script out out2 (1 + r.progress.lines + q.progress.lines)
      wrote-last =
          let both : text (f.lines ++ h.lines) ≡ text f.lines ++ text h.lines = each_append (λ l. l) f.lines h.lines in
          let n : 1 + length (f.lines ++ h.lines) ≡ 1 + r.progress.lines + q.progress.lines =
          omega (arith, f.many, h.many, length-append f.lines h.lines) in
          subst (λ (k : ℕ). Wrote script out out2 k) n
          (wrote script out out2 (f.lines ++ h.lines) (rest' []) q.progress.at second-feed
          (omega (arith, h.end, f.end, ap length both, length-append (text f.lines) (text h.lines)))
          (omega (arith, kept, ends, h.fits (omega (arith, kept, ends)))) (stops q.progress.full refl)
          (h.text ∙ ap (λ (o : List ℕ). sets o r.progress.at (text h.lines)) f.text
          ∙ ap (λ (k : ℕ). sets (sets (sets out 0 heading) 25 (text f.lines)) k (text h.lines)) f.end
          ∙ sets_behind 25 (length (text f.lines)) (text f.lines) (text h.lines) (sets out 0 heading) refl
          ∙ ap (sets (sets out 0 heading) 25) (sym both)))
