-- Bytes are taken: what a script prints depends on what its lines say, and the task of a line does what the line does.
use Prim.Native.Nat.{ℕ, ◌+◌, ◌-◌, ◌<◌, ◌≤◌}
use mathlib.Core.Path.{◌≡◌, refl, sym, ap, subst, ◌∙◌}
use mathlib.Core.Bool.{true, false}
use mathlib.Core.List.{List, [], ◌∷◌, ◌++◌, map}
use native.Mathlib.Omega.{arith}
use lib.ListN.{length, take, drop, length-drop}
use lib.Seq.{drop-drop}
use Rattle.definitions.specs.Calls.{State}
use Rattle.definitions.specs.Script.{Line, line_of, printed, left, output_from, left_from}
use Rattle.std.specs.Prelude.{Option, Some}
use Rattle.definitions.specs.declared.call.Call.{Call}
use Rattle.lines.specs.Lines.{line_from, lines_with, Begins, Leads, takes}
use Rattle.lines.specs.declared.Taken.{Taken}
use Rattle.lines.proofs.Pieces.{Takes, taken}
use Rattle.capability_engine.specs.declared.script.Progress.{Progress}
use Rattle.capability_engine.specs.declared.script.Task.{Task}
use Rattle.capability_engine.specs.declared.script.Task.TheVariants.{Nothing}
use Rattle.capability_engine.specs.ScriptSteps.{task_of, task_prints, task_leaves, moved, Hears}
use Rattle.capability_engine.proofs.ScriptTasks.{asks}

-- the same of what lines say
output_of : State → List Line → List (List ℕ)
output_of s [] = []
output_of s (l ∷ ls) = printed s l ++ output_of (left s l) ls

left_of : State → List Line → State
left_of s [] = s
left_of s (l ∷ ls) = left_of (left s l) ls

output-said : (ls : List (List ℕ)) (s : State) → output_from s ls ≡ output_of s (map line_of ls)
unfolding output_from output_of
output-said [] s = refl
output-said (l ∷ ls) s = ap (λ (x : List (List ℕ)). printed s (line_of l) ++ x) (output-said ls (left s (line_of l)))

left-said : (ls : List (List ℕ)) (s : State) → left_from s ls ≡ left_of s (map line_of ls)
unfolding left_from left_of
left-said [] s = refl
left-said (l ∷ ls) s = left-said ls (left s (line_of l))

-- a line has ended
module _ (line line' : List ℕ) (p : Progress) (input : List ℕ) (end : ℕ) (said : List ℕ) (size : length line' ≡ 88) (ahead : p.used < end)
    (ends : end ≤ length input)
    (same : (b : List ℕ) → map line_of (lines_with (take p.len line) (drop p.used input ++ b)) ≡ line_of said ∷ map line_of (lines_with [] (drop end input ++ b))) where
  hears-end : (task : Task) → task ≡ task_of (line_from (line_of said)) → Hears line line' p input (moved p 0 end) task
  unfolding output_of left_of
  hears-end task f =
      let x : Line = line_of said in
      let a = asks said in
      rw f
      (record {
        size = size;
        same = refl;
        short = omega arith;
        ahead = ahead;
        taken = ends;
        sound = a.sound;
        prints = λ s b. output-said (lines_with (take p.len line) (drop p.used input ++ b)) s ∙ ap (output_of s) (same b)
            ∙ ap (λ (l : List (List ℕ)). printed s x ++ l) (sym (output-said (lines_with [] (drop end input ++ b)) (left s x)))
            ∙ rw (a.prints s, a.leaves s);
        leaves = λ s b. left-said (lines_with (take p.len line) (drop p.used input ++ b)) s ∙ ap (left_of s) (same b)
            ∙ sym (left-said (lines_with [] (drop end input ++ b)) (left s x))
            ∙ rw (a.leaves s);
      })

-- none of it was held, and it lies in the input whole
pub hears-ahead : (line : List ℕ) (p : Progress) (input : List ℕ) (r : Option (Call × ℕ)) (c : Call) (end : ℕ) (task : Task) → length line ≡ 88 → p.len ≤ 0
    → Leads input p.used r → r ≡ Some (c, end) → task ≡ task_of (Some c) → Hears line line p input (moved p p.len end) task
hears-ahead line p input r c end task size z l q f =
    let g : Begins input p.used c end = subst (Leads input p.used) q l in
    let none : p.len ≡ 0 = omega arith in
    subst (λ (n : ℕ). Hears line line p input (moved p n end) task) (sym none)
    (hears-end line line p input end g.line size g.ahead g.taken (λ b. rw none (ap (map line_of) (g.lines b)))
    task (f ∙ ap (λ (l : Line). task_of (line_from l)) (sym g.says)))

module _ (line line' : List ℕ) (p : Progress) (input : List ℕ) (t : Taken) (size : length line ≡ 88) (short : p.len ≤ 88)
    (more : p.used < length input) (e : (line', t) ≡ takes line p.len p.used (drop p.used input)) where
  took : Takes line p.len p.used (drop p.used input) line' t
  took = subst (λ (r : List ℕ × Taken). Takes line p.len p.used (drop p.used input) r.0 r.1) (sym e) (taken (drop p.used input) line p.len p.used size short)

  pub hears-room : t.len ≤ length line'
  hears-room = omega (arith, took.short, took.size)

  some : 0 < length (drop p.used input)
  some = simp length-drop (omega arith)

  rest : drop (t.used - p.used) (drop p.used input) ≡ drop t.used input
  rest = let z : p.used + (t.used - p.used) ≡ t.used = omega (arith, took.from) in drop-drop (t.used - p.used) p.used input ∙ rw z

  ends : t.used ≤ length input
  ends = omega (arith, took.to, length-drop p.used input)

  -- the line goes on
  pub hears-part : t.ended ≡ false → Hears line line' p input (moved p t.len t.used) Nothing
  unfolding task_prints task_leaves
  hears-part q =
      let same : (b : List ℕ) → map line_of (lines_with (take p.len line) (drop p.used input ++ b)) ≡ map line_of (lines_with (take t.len line') (drop t.used input ++ b))
      = λ b. took.goes q b ∙ rw rest in
      record {
        size = took.size;
        same = refl;
        short = took.short;
        ahead = took.ahead some;
        taken = ends;
        sound = tt;
        prints = λ s b. output-said (lines_with (take p.len line) (drop p.used input ++ b)) s ∙ ap (output_of s) (same b) ∙ sym (output-said (lines_with (take t.len line') (drop t.used input ++ b)) s);
        leaves = λ s b. left-said (lines_with (take p.len line) (drop p.used input ++ b)) s ∙ ap (left_of s) (same b) ∙ sym (left-said (lines_with (take t.len line') (drop t.used input ++ b)) s);
      }

  -- it has ended
  pub hears-line : (task : Task) → t.ended ≡ true → task ≡ task_of (line_from (line_of (take t.len line')))
      → Hears line line' p input (moved p 0 t.used) task
  hears-line task q f =
      hears-end line line' p input t.used (take t.len line') took.size (took.ahead some) ends
      (λ b. took.ended q b ∙ rw rest) task f

-- where the output stands, and whose mappings are owed, stays
pub hears-still : (line line' : List ℕ) (p : Progress) (input : List ℕ) (r : Progress) (task : Task) → Hears line line' p input r task
    → (room : ℕ) → p.at + 25 ≤ room → p.lines ≤ p.at → 8 ≤ p.compartment → p.compartment ≤ 8
    → (r.at + 25 ≤ room) × (r.lines ≤ r.at) × (8 ≤ r.compartment) × (r.compartment ≤ 8)
hears-still line line' p input r task h room a l k b =
    let ea = ap (λ (x : Progress). x.at) h.same in
    let el = ap (λ (x : Progress). x.lines) h.same in
    let ek = ap (λ (x : Progress). x.compartment) h.same in
    (omega (arith, ea), omega (arith, ea, el), omega (arith, ek), omega (arith, ek))
