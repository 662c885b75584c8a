-- A script's line that is written says the call that was meant, and a text of such lines runs these calls.
use Prim.Native.Nat.{ℕ, ◌^◌, ◌<◌, ◌≤◌}
use mathlib.Core.Path.{◌≡◌, refl, sym, ap, ap₂, ◌∙◌}
use mathlib.Core.Bool.{true}
use mathlib.Core.List.{List, [], ◌∷◌, ◌++◌, append_assoc}
use native.Mathlib.Omega.{arith}
use borrow.Author.Tests.{ltb-true}
use lib.ListN.{length, drop, replicate, length-append}
use lib.Seq.{take_at, drop-append_seam}
use Rattle.definitions.specs.Tests.{fits, host, all, each}
use Rattle.definitions.specs.Pages.{permission_group}
use Rattle.definitions.specs.Calls.{State, next, after_from}
use Rattle.definitions.specs.Script.{numbers, Line, call, column_of, first_then, columns_of, arity, call_of, line_of, lines_of, number_in, script_line, left, left_from}
use Rattle.definitions.specs.declared.region.MemoryPermission.{MemoryPermission}
use Rattle.definitions.specs.declared.call.Call.{Call}
use Rattle.definitions.specs.declared.call.Call.TheVariants.{Add, Allow}
use Rattle.definitions.proofs.Bools.{both}
use Rattle.columns.proofs.Room.{length-number}
use Rattle.columns.proofs.Again.{read-written}
use Rattle.lines.proofs.Fields.{first-column}
use Rattle.lines.proofs.Pieces.{lines-own}
use Rattle.lines.proofs.Whole.{line-none, first-line}
use Rattle.lines.proofs.Putting.{text}

-- a number, and what stands behind it
column_again : (w n : ℕ) (ws rest : List ℕ) → 1 ≤ w → n < 10 ^ w → n < 18446744073709551616
    → columns_of (w ∷ ws) (number_in w n ++ rest) ≡ first_then (numbers (n ∷ [])) (columns_of ws rest)
column_again w n ws rest one small fit =
    let len : length (number_in w n) ≡ w = length-number w n one in
    first-column w ws (number_in w n ++ rest) (simp length-append (omega arith))
    ∙ ap₂ first_then (ap column_of (take_at (number_in w n) rest w len) ∙ read-written w n one small fit)
    (ap (columns_of ws) (ap (λ (k : ℕ). drop k (number_in w n ++ rest)) (sym len) ∙ drop-append_seam (number_in w n) rest))

numbers-again : (ns : List ℕ) → all fits ns ≡ true → columns_of (replicate (length ns) 21) (each (number_in 21) ns) ≡ numbers ns
unfolding columns_of fits
numbers-again [] h = refl
numbers-again (n ∷ ns) h =
    let p = both (fits n) (all fits ns) h in
    let small : n < 18446744073709551616 = ltb-true n 18446744073709551616 p.0 in
    column_again 21 n (replicate (length ns) 21) (each (number_in 21) ns) (omega arith) (omega arith) small
    ∙ ap (first_then (numbers (n ∷ []))) (numbers-again ns p.1)

-- a line without its end
line-again : (letter k : ℕ) (ns : List ℕ) → k < 100 → all fits ns ≡ true → arity letter ≡ length ns
    → line_of (letter ∷ (number_in 2 k ++ each (number_in 21) ns)) ≡ call_of letter (numbers (k ∷ ns))
unfolding line_of
line-again letter k ns small h a =
    ap (λ (n : ℕ). call_of letter (columns_of (2 ∷ replicate n 21) (number_in 2 k ++ each (number_in 21) ns))) a
    ∙ ap (call_of letter)
    (column_again 2 k (replicate (length ns) 21) (each (number_in 21) ns) (omega arith) (omega arith) (omega arith)
    ∙ ap (first_then (numbers (k ∷ []))) (numbers-again ns h))

-- a line with its end says a call
pub record Says (line : List ℕ) (c : Call) : Type 0 where
  pub bytes : List ℕ
  pub ended : line ≡ bytes ++ (10 ∷ [])
  pub said : line_of bytes ≡ call c

says-line : (letter k : ℕ) (ns : List ℕ) (c : Call) → k < 100 → all fits ns ≡ true → arity letter ≡ length ns
    → call_of letter (numbers (k ∷ ns)) ≡ call c → Says (script_line letter k ns) c
unfolding script_line
says-line letter k ns c small h a e = record {
  bytes = letter ∷ (number_in 2 k ++ each (number_in 21) ns);
  ended = ap (λ (l : List ℕ). letter ∷ l) (sym (append_assoc (number_in 2 k) (each (number_in 21) ns) (10 ∷ [])));
  said = line-again letter k ns small h a ∙ e;
}

pub says-add : (k : ℕ) (w : MemoryPermission) → k < 100 → all fits (permission_group w) ≡ true
    → Says (script_line 65 k (permission_group w)) (Add k w.start w.end w.ops.0)
unfolding permission_group host arity
says-add k w small h = says-line 65 k (permission_group w) (Add k w.start w.end w.ops.0) small h refl refl

pub says-allow : (k m : ℕ) → k < 100 → fits m ≡ true → Says (script_line 83 k (m ∷ [])) (Allow k m)
unfolding arity
says-allow k m small h = says-line 83 k (m ∷ []) (Allow k m) small (rw h) refl refl

-- lines that say these calls, one each
abbrev pub SayAll : List (List ℕ) → List Call → Type 0
SayAll [] [] = Unit {0}
SayAll [] (c ∷ cs) = ⊥
SayAll (l ∷ ls) [] = ⊥
SayAll (l ∷ ls) (c ∷ cs) = Says l c × SayAll ls cs

pub say-both : (ls : List (List ℕ)) (cs : List Call) (ms : List (List ℕ)) (ds : List Call) → SayAll ls cs → SayAll ms ds → SayAll (ls ++ ms) (cs ++ ds)
say-both [] [] ms ds p q = q
say-both [] (c ∷ cs) ms ds p q = absurd p
say-both (l ∷ ls) [] ms ds p q = absurd p
say-both (l ∷ ls) (c ∷ cs) ms ds p q = (p.0, say-both ls cs ms ds p.1 q)

-- their text leaves what the calls leave
pub text-leaves : (ls : List (List ℕ)) (cs : List Call) (s : State) → SayAll ls cs → left_from s (lines_of (text ls)) ≡ after_from s cs
unfolding left_from lines_of after_from
text-leaves [] [] s p = refl
text-leaves [] (c ∷ cs) s p = absurd p
text-leaves (l ∷ ls) [] s p = absurd p
text-leaves (l ∷ ls) (c ∷ cs) s p =
    let q = p.0 in
    let split : text (l ∷ ls) ≡ q.bytes ++ (10 ∷ text ls)
    = ap (λ (x : List ℕ). x ++ text ls) q.ended ∙ append_assoc q.bytes (10 ∷ []) (text ls) in
    let first : lines_of (text (l ∷ ls)) ≡ q.bytes ∷ lines_of (text ls)
    = ap lines_of split ∙ lines-own (q.bytes ++ (10 ∷ text ls)) ∙ first-line q.bytes [] (text ls) (line-none q.bytes c q.said) in
    ap (left_from s) first ∙ ap (λ (x : Line). left_from (left s x) (lines_of (text ls))) q.said ∙ text-leaves ls cs (next s c) p.1
