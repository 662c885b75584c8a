-- Document 02, order 13: a wish as text, and the script that is printed for it. The columns are document 01's; which lines set
-- allowances, and the lines for a refusal, are our decision (docs/DECISIONS.md).
use Rattle.std.specs.Prelude.{ℕ, zero, suc, ◌+◌, ◌-◌, ◌/◌, not, List, [], ◌∷◌, ◌++◌, map, if◌then◌else◌}
use Rattle.definitions.specs.Tests.{◌<?◌, ◌≤?◌, ◌=?◌}
use Rattle.definitions.specs.Pages.{permission_group}
use Rattle.definitions.specs.Questions.{refusal_number}
use Rattle.definitions.specs.Script.{Read, numbers, unread, lines_of, columns_of, script_line, answer_columns, answer_line}
use Rattle.definitions.specs.Planner.{wanted, plan, adds, can_wish}
use Rattle.definitions.specs.declared.region.MemoryPermission.{MemoryPermission}
use Rattle.definitions.specs.declared.answer.Refusal.TheVariants.{NoCompartment, Malformed, PoolExceeded, NoScript}
use Rattle.std.specs.Prelude.{Err}
use Rattle.definitions.specs.declared.call.Call.{Call}
use Rattle.definitions.specs.declared.call.Call.TheVariants.{Allow}

-- A line of a wish is start, end and rights in 21 columns each, by the rules for the columns and numbers of a script.
unfoldable pub range_of : List ℕ → Read
range_of line = columns_of (21 ∷ 21 ∷ 21 ∷ []) line

-- what lines say: the numbers of all of them; or the number, counted on, of the first that is not of the form
pub data Wish : Type 0 where
  wish : List ℕ → Wish
  broken : ℕ → Wish

abbrev pub and_later : ℕ → Read → Wish → Wish
and_later n (numbers ns) (wish ms) = wish (ns ++ ms)
and_later n (numbers ns) (broken m) = broken m
and_later n unread later = broken n

unfoldable pub wish_from : ℕ → List (List ℕ) → Wish
wish_from n [] = wish []
wish_from n (line ∷ lines) = and_later n (range_of line) (wish_from (n + 1) lines)

-- lines are counted from 1
unfoldable pub wish_of : List ℕ → Wish
wish_of text = wish_from 1 (lines_of text)

-- so many compartments from j on, but k
unfoldable pub besides : ℕ → ℕ → ℕ → List ℕ
besides k j zero = []
besides k j (suc n) = if j =? k then besides k (suc j) n else j ∷ besides k (suc j) n

-- what gives compartment k of empty tables the allowance m. 128 it has at first; for more than that the others get less before it,
-- an even part each of what it leaves of the 1,024.
unfoldable pub allowing : ℕ → ℕ → List (ℕ × ℕ)
allowing k m =
    if m =? 128 then []
    else (if m <? 128 then [] else map (λ j. (j, (1024 - m) / 7)) (besides k 0 8)) ++ ((k, m) ∷ [])

-- the calls of the script, and its lines
unfoldable pub plan_calls : ℕ → ℕ → List MemoryPermission → List Call
plan_calls k m ws = map (λ p. Allow p.0 p.1) (allowing k m) ++ adds k (plan ws)

unfoldable pub plan_lines : ℕ → ℕ → List MemoryPermission → List (List ℕ)
plan_lines k m ws =
    map (λ p. script_line 83 p.0 (p.1 ∷ [])) (allowing k m) ++ map (λ w. script_line 65 k (permission_group w)) (plan ws)

-- a wish is answered with the script, or with one line: 17 and the number of the first line that is not of the form, or 25
abbrev pub wish_lines : ℕ → ℕ → Wish → List (List ℕ)
wish_lines k m (wish ns) = if can_wish m ns then plan_lines k m (wanted ns) else answer_line (Err NoScript) ∷ []
wish_lines k m (broken n) = answer_columns (refusal_number Malformed) n ∷ []

-- before it is read: 1, is there such a compartment? 18, can one have this allowance?
unfoldable pub plan_text : ℕ → ℕ → List ℕ → List (List ℕ)
plan_text k m text =
    if not (k <? 8) then answer_line (Err NoCompartment) ∷ []
    else if not (m ≤? 1024) then answer_line (Err PoolExceeded) ∷ []
    else wish_lines k m (wish_of text)
