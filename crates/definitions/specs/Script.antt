-- Document 01, "Script and output": lines in, lines out, as functions on bytes.
use Rattle.std.specs.Prelude.{ℕ, zero, suc, ◌+◌, ◌-◌, ◌*◌, ◌/◌, ◌%◌, Bool, ◌&&◌, List, [], ◌∷◌, ◌++◌, map, length, take, drop, replicate, if◌then◌else◌}
use Rattle.definitions.specs.Tests.{◌<?◌, ◌≤?◌, ◌=?◌, fits, host, guest, each}
use Rattle.definitions.specs.Pages.{mapping_group}
use Rattle.definitions.specs.Questions.{number_of, value_of}
use Rattle.definitions.specs.Calls.{State, start, compartment, stream_of, answer, next}
use Rattle.definitions.specs.declared.remapper.Mapping.{Mapping}
use Rattle.definitions.specs.declared.answer.Refusal.TheVariants.{Malformed}
use Rattle.definitions.specs.Answers.{Answer}
use Rattle.std.specs.Prelude.{Err}
use Rattle.definitions.specs.declared.call.Call.{Call}
use Rattle.definitions.specs.declared.call.Call.TheVariants.{Add, Remove, Refcount, Overlaps, Map, Unmap, UnmapGpa, Permissions, Remap, Mappings, Allow}

-- Lines end with byte 10, which the last may lack.
unfoldable pub cons_byte : ℕ → List (List ℕ) → List (List ℕ)
cons_byte b [] = (b ∷ []) ∷ []
cons_byte b (line ∷ lines) = (b ∷ line) ∷ lines

unfoldable pub lines_of : List ℕ → List (List ℕ)
lines_of [] = []
lines_of (b ∷ bs) = if b =? 10 then [] ∷ lines_of bs else cons_byte b (lines_of bs)

-- what bytes say: numbers, or nothing of the form
pub data Read : Type 0 where
  numbers : List ℕ → Read
  unread : Read

abbrev pub also_read : ℕ → Read → Read
also_read n (numbers ns) = numbers (n ∷ ns)
also_read n unread = unread

unfoldable pub is_digit : ℕ → Bool
is_digit b = (48 ≤? b) && (b ≤? 57)

-- the digits to the end of a column, after a number that begins with another digit than 0; each number below 2^64
unfoldable pub digits_of : ℕ → List ℕ → Read
digits_of n [] = numbers (n ∷ [])
digits_of n (b ∷ bs) = if is_digit b && fits (n * 10 + (b - 48)) then digits_of (n * 10 + (b - 48)) bs else unread

-- right-justified with spaces, no leading zeros
unfoldable pub column_of : List ℕ → Read
column_of [] = unread
column_of (b ∷ bs) =
    if b =? 32 then column_of bs
    else if b =? 48 then (if length bs =? 0 then numbers (0 ∷ []) else unread)
    else if is_digit b then digits_of (b - 48) bs
    else unread

-- columns of these widths, to the column
abbrev pub first_then : Read → Read → Read
first_then (numbers (n ∷ [])) more = also_read n more
first_then (numbers []) more = unread
first_then (numbers (n ∷ m ∷ ns)) more = unread
first_then unread more = unread

unfoldable pub columns_of : List ℕ → List ℕ → Read
columns_of [] [] = numbers []
columns_of [] (b ∷ bs) = unread
columns_of (w ∷ ws) bs =
    if w ≤? length bs then first_then (column_of (take w bs)) (columns_of ws (drop w bs)) else unread

-- A and D (add, remove) start end rights; C (`get_refcount`) start end; M hpa gpa size repeat; U hpa size; G gpa size; P none;
-- S with the allowance (document 02, order 4)
unfoldable pub arity : ℕ → ℕ
arity letter =
    if letter =? 65 then 3 else if letter =? 68 then 3 else if letter =? 67 then 2 else if letter =? 77 then 4
    else if letter =? 85 then 2 else if letter =? 71 then 2 else if letter =? 83 then 1 else 0

-- what a line says: a call, or 17
pub data Line : Type 0 where
  call : Call → Line
  malformed : Line

abbrev pub call_of : ℕ → Read → Line
call_of letter (numbers (k ∷ [])) = if letter =? 80 then call (Mappings k) else malformed
call_of letter (numbers (k ∷ a ∷ [])) = if letter =? 83 then call (Allow k a) else malformed
call_of letter (numbers (k ∷ a ∷ b ∷ [])) =
    if letter =? 67 then call (Refcount k (host a) (host b))
    else if letter =? 85 then call (Unmap k (host a) b)
    else if letter =? 71 then call (UnmapGpa k (guest a) b)
    else malformed
call_of letter (numbers (k ∷ a ∷ b ∷ c ∷ [])) =
    if letter =? 65 then call (Add k (host a) (host b) c)
    else if letter =? 68 then call (Remove k (host a) (host b) c)
    else malformed
call_of letter (numbers (k ∷ a ∷ b ∷ c ∷ d ∷ [])) =
    if letter =? 77 then call (Map k (host a) (guest b) c d) else malformed
call_of letter (numbers []) = malformed
call_of letter (numbers (k ∷ a ∷ b ∷ c ∷ d ∷ e ∷ ns)) = malformed
call_of letter unread = malformed

-- A line is a letter, the compartment in 2 columns, then numbers in 21 columns each.
unfoldable pub line_of : List ℕ → Line
line_of [] = malformed
line_of (letter ∷ bs) = call_of letter (columns_of (2 ∷ replicate (arity letter) 21) bs)

-- a number at the right of w columns: its digits, and spaces before them
abbrev pub digit_or_space : ℕ → ℕ
digit_or_space n = if n =? 0 then 32 else 48 + n % 10

unfoldable pub spaced : ℕ → ℕ → List ℕ
spaced zero n = []
spaced (suc w) n = spaced w (n / 10) ++ (digit_or_space n ∷ [])

unfoldable pub number_in : ℕ → ℕ → List ℕ
number_in w n = spaced (w - 1) (n / 10) ++ ((48 + n % 10) ∷ [])

-- a script's line, with its end: the letter, the compartment in 2 columns and numbers in 21 columns each
unfoldable pub script_line : ℕ → ℕ → List ℕ → List ℕ
script_line letter k ns = letter ∷ (number_in 2 k ++ (each (number_in 21) ns ++ (10 ∷ [])))

-- Each output line ends with byte 10. Output opens with the fixed heading bytes: "ans                value".
unfoldable pub heading : List ℕ
heading = 97 ∷ 110 ∷ 115 ∷ replicate 16 32 ++ (118 ∷ 97 ∷ 108 ∷ 117 ∷ 101 ∷ 10 ∷ [])

-- then per line the answer (0 or refusal) in 3 columns and a value in 21
unfoldable pub answer_line : Answer → List ℕ
answer_line a = number_in 3 (number_of a) ++ (number_in 21 (value_of a) ++ (10 ∷ []))

-- such a line of any number and value
abbrev pub answer_columns : ℕ → ℕ → List ℕ
answer_columns number value = number_in 3 number ++ (number_in 21 value ++ (10 ∷ []))

-- P adds its mappings, five columns of 21.
unfoldable pub mapping_line : Mapping → List ℕ
mapping_line m = each (number_in 21) (mapping_group m) ++ (10 ∷ [])

unfoldable pub mapping_lines : State → Call → List (List ℕ)
mapping_lines s (Mappings k) = if k <? 8 then map mapping_line (stream_of (compartment s k)) else []
mapping_lines s (Add k a e r) = []
mapping_lines s (Remove k a e r) = []
mapping_lines s (Refcount k a e) = []
mapping_lines s (Overlaps k g n) = []
mapping_lines s (Map k h g n t) = []
mapping_lines s (Unmap k h n) = []
mapping_lines s (UnmapGpa k g n) = []
mapping_lines s (Permissions k i n) = []
mapping_lines s (Remap k i n) = []
mapping_lines s (Allow k n) = []

-- what a line prints, and what it leaves
abbrev pub printed : State → Line → List (List ℕ)
printed s (call c) = answer_line (answer s c) ∷ mapping_lines s c
printed s malformed = answer_line (Err Malformed) ∷ []

abbrev pub left : State → Line → State
left s (call c) = next s c
left s malformed = s

unfoldable pub output_from : State → List (List ℕ) → List (List ℕ)
output_from s [] = []
output_from s (line ∷ lines) = printed s (line_of line) ++ output_from (left s (line_of line)) lines

-- what lines leave, each on what the last one left
unfoldable pub left_from : State → List (List ℕ) → State
left_from s [] = s
left_from s (line ∷ lines) = left_from (left s (line_of line)) lines

-- the output lines of a whole script, from empty tables
unfoldable pub output_of : List ℕ → List (List ℕ)
output_of script = heading ∷ output_from start (lines_of script)

-- as many whole output lines as fit into a slice of so many bytes
unfoldable pub whole_lines : ℕ → List (List ℕ) → List (List ℕ)
whole_lines room [] = []
whole_lines room (line ∷ lines) =
    if length line ≤? room then line ∷ whole_lines (room - length line) lines else []
