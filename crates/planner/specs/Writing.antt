-- What is written of a script's lines: as many as fit, from the slice's start on.
use Rattle.std.specs.Prelude.{ℕ, ◌-◌, ◌≤◌, ◌≡◌, List, [], ◌∷◌, ◌++◌, map, length, Result, Ok, Err}
use Rattle.std.proofs.lemmas.List.Edits.{sets}
use Rattle.definitions.specs.Tests.{each}
use Rattle.definitions.specs.Pages.{permission_group}
use Rattle.definitions.specs.Script.{whole_lines, script_line}
use Rattle.definitions.specs.Wishes.{besides, allowing, plan_text}
use Rattle.definitions.specs.declared.region.MemoryPermission.{MemoryPermission}

-- these lines are written, into what was `before`, up to a place
pub record Wrote (ls : List (List ℕ)) (before after : List ℕ) (at : ℕ) : Type 0 where
  pub text : after ≡ sets before 0 (each (λ l. l) ls)
  pub end : at ≡ length (each (λ l. l) ls)
  pub fits : at ≤ length before

-- the first of them are, because the next does not fit
pub record Stopped (ls : List (List ℕ)) (before after : List ℕ) (at : ℕ) : Type 0 where
  pub done : List (List ℕ)
  pub rest : List (List ℕ)
  pub split : ls ≡ done ++ rest
  pub written : Wrote done before after at
  pub stuck : (more : List (List ℕ)) → whole_lines (length before - at) (rest ++ more) ≡ []

abbrev pub Writes : List (List ℕ) → List ℕ → List ℕ → Result ℕ ℕ → Type 0
Writes ls before after (Ok at) = Wrote ls before after at
Writes ls before after (Err at) = Stopped ls before after at

-- new lines go behind those that are written
pub record Adds (new : List (List ℕ)) (now next : List ℕ) (at : ℕ) (r : Result ℕ ℕ) : Type 0 where
  pub adds : (ls : List (List ℕ)) (before : List ℕ) → Wrote ls before now at → Writes (ls ++ new) before next r

-- the lines of a script, part by part: allowances of so many compartments from j on but k, all that set allowances, and the adds
unfoldable pub other_lines : ℕ → ℕ → ℕ → ℕ → List (List ℕ)
other_lines k j n allowance = map (λ i. script_line 83 i (allowance ∷ [])) (besides k j n)

unfoldable pub allow_lines : ℕ → ℕ → List (List ℕ)
allow_lines k m = map (λ p. script_line 83 p.0 (p.1 ∷ [])) (allowing k m)

unfoldable pub add_lines : ℕ → List MemoryPermission → List (List ℕ)
add_lines k ws = map (λ w. script_line 65 k (permission_group w)) ws

-- as many whole lines as fit are in the slice, whose rest is untouched; the answer is how many bytes they have
pub record PrintsLines (ls : List (List ℕ)) (out out' : List ℕ) (r : ℕ) : Type 0 where
  pub slice : out' ≡ sets out 0 (each (λ l. l) (whole_lines (length out) ls))
  pub long : r ≡ length (each (λ l. l) (whole_lines (length out) ls))
  pub fits : r ≤ length out

-- those of the script for a wish, or of its refusal
abbrev pub PrintsPlan : ℕ → ℕ → List ℕ → List ℕ → List ℕ → ℕ → Type 0
PrintsPlan k m text out out' r = PrintsLines (plan_text k m text) out out' r
