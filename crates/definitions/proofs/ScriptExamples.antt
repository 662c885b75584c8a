-- Lines of the script and of the output, worked out.
use Prim.Native.Nat.{ℕ}
use mathlib.Core.Path.{◌≡◌, refl}
use mathlib.Core.List.{List, [], ◌∷◌, ◌++◌}
use lib.ListN.{replicate}
use Rattle.definitions.specs.Tests.{fits, host, guest}
use Rattle.definitions.specs.Script
use Rattle.definitions.specs.Script.{lines_of, cons_byte, is_digit, digits_of, column_of, columns_of, arity, call, malformed, line_of, spaced, number_in, answer_line}
use Rattle.definitions.specs.declared.answer.Refusal.TheVariants.{Malformed}
use Rattle.std.specs.Prelude.{Ok, Err}
use Rattle.definitions.specs.declared.call.Call.TheVariants.{Add, UnmapGpa, Mappings, Allow}

-- a number of one or two digits at the right of 21 columns
one : ℕ → List ℕ
one d = replicate 20 32 ++ (d ∷ [])

pair : ℕ → ℕ → List ℕ
pair c d = replicate 19 32 ++ (c ∷ d ∷ [])

opened : Unit {0}
unfolding fits host guest is_digit digits_of column_of columns_of arity line_of one pair
opened = tt

-- "A 0", 0, 30 and 3
adding : line_of (65 ∷ 32 ∷ 48 ∷ one 48 ++ (pair 51 48 ++ one 51)) ≡ call (Add 0 (host 0) (host 30) 3)
unfolding opened
adding = refl

-- "G12", 40 and 5: the compartment is read here and refused later
unmapping : line_of (71 ∷ 49 ∷ 50 ∷ pair 52 48 ++ one 53) ≡ call (UnmapGpa 12 (guest 40) 5)
unfolding opened
unmapping = refl

printing : line_of (80 ∷ 32 ∷ 55 ∷ []) ≡ call (Mappings 7)
unfolding opened
printing = refl

-- "S 3" and 40; a number too few, a number too many
allowing : line_of (83 ∷ 32 ∷ 51 ∷ pair 52 48) ≡ call (Allow 3 40)
unfolding opened
allowing = refl

allowing-nothing : line_of (83 ∷ 32 ∷ 51 ∷ []) ≡ malformed
unfolding opened
allowing-nothing = refl

allowing-twice : line_of (83 ∷ 32 ∷ 51 ∷ one 52 ++ one 52) ≡ malformed
unfolding opened
allowing-twice = refl

-- a leading zero, a column too many, a column too few, another letter, a left-justified number, nothing
leading-zero : line_of (80 ∷ 48 ∷ 55 ∷ []) ≡ malformed
unfolding opened
leading-zero = refl

too_long : line_of (80 ∷ 32 ∷ 55 ∷ 32 ∷ []) ≡ malformed
unfolding opened
too_long = refl

too_short : line_of (80 ∷ 55 ∷ []) ≡ malformed
unfolding opened
too_short = refl

other-letter : line_of (112 ∷ 32 ∷ 55 ∷ []) ≡ malformed
unfolding opened
other-letter = refl

left-justified : line_of (80 ∷ 55 ∷ 32 ∷ []) ≡ malformed
unfolding opened
left-justified = refl

empty-line : line_of [] ≡ malformed
unfolding opened
empty-line = refl

-- 2 ^ 64 - 1 and 2 ^ 64
largest : column_of (49 ∷ 56 ∷ 52 ∷ 52 ∷ 54 ∷ 55 ∷ 52 ∷ 52 ∷ 48 ∷ 55 ∷ 51 ∷ 55 ∷ 48 ∷ 57 ∷ 53 ∷ 53 ∷ 49 ∷ 54 ∷ 49 ∷ 53 ∷ [])
    ≡ Script.numbers (18446744073709551615 ∷ [])
unfolding opened
largest = refl

too_large : column_of (49 ∷ 56 ∷ 52 ∷ 52 ∷ 54 ∷ 55 ∷ 52 ∷ 52 ∷ 48 ∷ 55 ∷ 51 ∷ 55 ∷ 48 ∷ 57 ∷ 53 ∷ 53 ∷ 49 ∷ 54 ∷ 49 ∷ 54 ∷ [])
    ≡ Script.unread
unfolding opened
too_large = refl

-- no line, an empty one, and a last one that lacks its end
no_lines : lines_of [] ≡ []
unfolding lines_of
no_lines = refl

one-empty : lines_of (10 ∷ []) ≡ [] ∷ []
unfolding lines_of cons_byte
one-empty = refl

unended : lines_of (80 ∷ 10 ∷ 80 ∷ 65 ∷ []) ≡ (80 ∷ []) ∷ (80 ∷ 65 ∷ []) ∷ []
unfolding lines_of cons_byte
unended = refl

-- 17 and 0; 0 and 30
refused-line : answer_line (Err Malformed) ≡ 32 ∷ 49 ∷ 55 ∷ one 48 ++ (10 ∷ [])
unfolding answer_line number_in spaced one
refused-line = refl

accepted-line : answer_line (Ok 30) ≡ 32 ∷ 32 ∷ 48 ∷ pair 51 48 ++ (10 ∷ [])
unfolding answer_line number_in spaced pair
accepted-line = refl
