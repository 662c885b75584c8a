-- What a line says as the code's value.
use Rattle.std.specs.Prelude.{ℕ, ◌+◌, ◌<◌, ◌≤◌, ◌≡◌, true, false, List, [], ◌∷◌, ◌++◌, length, take, drop, set, if◌then◌else◌, Option, Some, None}
use Rattle.definitions.specs.Tests.{◌<?◌, ◌=?◌}
use Rattle.definitions.specs.Script.{Read, numbers, unread, call, malformed, line_of, lines_of}
use Rattle.definitions.specs.Script as Script
use Rattle.definitions.specs.declared.call.Call as definitions
use Rattle.lines.specs.declared.Taken.{Taken}

abbrev pub line_from : Script.Line → Option definitions.Call
line_from (call c) = Some c
line_from malformed = None

-- the first n of numbers that were found, or none
abbrev pub read_as : ℕ → Option (List ℕ) → Read
read_as n (Some ns) = numbers (take n ns)
read_as n None = unread

-- the lines of bytes that go on with a line that has begun with others
unfoldable pub lines_with : List ℕ → List ℕ → List (List ℕ)
lines_with held [] = if length held =? 0 then [] else held ∷ []
lines_with held (b ∷ bs) = if b =? 10 then held ∷ lines_of bs else lines_with (held ++ (b ∷ [])) bs

-- bytes from a place on begin with a call's line, which ends before another place; any others may come behind them
pub record Begins (input : List ℕ) (from : ℕ) (c : definitions.Call) (end : ℕ) : Type 0 where
  pub line : List ℕ
  pub says : line_of line ≡ call c
  pub ahead : from < end
  pub taken : end ≤ length input
  pub lines : (more : List ℕ) → lines_with [] (drop from input ++ more) ≡ line ∷ lines_with [] (drop end input ++ more)

abbrev pub Leads : List ℕ → ℕ → Option (definitions.Call × ℕ) → Type 0
Leads input from (Some (c, end)) = Begins input from c end
Leads input from None = Unit {0}

-- the bytes of a line put behind the len that are held, as many as fit; up to its end, which is passed
unfoldable pub takes : List ℕ → ℕ → ℕ → List ℕ → List ℕ × Taken
takes line len used [] = (line, record { used = used; len = len; ended = false })
takes line len used (b ∷ bs) =
    if b =? 10 then (line, record { used = used + 1; len = len; ended = true })
    else if len <? length line then takes (set line len b) (len + 1) (used + 1) bs
    else takes line len (used + 1) bs
