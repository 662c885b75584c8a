-- A call's line holds no byte 10, so it ends where the first byte 10 stands behind it.
use Rattle.std.specs.Prelude.{if◌then◌else◌, Some}
use Prim.Native.Nat.{ℕ, suc, ◌+◌, ◌-◌, ◌*◌, ◌<◌, ◌≤◌}
use mathlib.Core.Path.{◌≡◌, refl, sym, ap, subst, ◌∙◌}
use mathlib.Core.Bool.{Bool, true, false, ◌&&◌}
use mathlib.Core.List.{List, [], ◌∷◌, ◌++◌, append_assoc, append-nil}
use native.Mathlib.Numerals.{add-one}
use native.Mathlib.Omega.{arith}
use lib.ListN.{length, get_or, take, drop, replicate, take-append-drop}
use lib.Seq.{drop-cons, drop-drop}
use borrow.Author.Tests.{ne_eqb}
use Rattle.definitions.specs.Tests.{◌≤?◌, ◌=?◌, fits}
use Rattle.definitions.specs.Script.{Read, numbers, unread, Line, call, malformed, is_digit, digits_of, column_of, first_then, columns_of, arity, call_of, line_of, cons_byte, lines_of}
use Rattle.definitions.specs.declared.call.Call.{Call}
use Rattle.lines.specs.Lines.{line_from, lines_with, Begins}
use Rattle.lines.proofs.Pieces.{lines-own}

-- ---- no byte 10

pub NoEnd : List ℕ → Type 0
NoEnd [] = Unit {0}
NoEnd (b ∷ bs) = (b ≡ 10 → ⊥) × NoEnd bs

both : (a b : List ℕ) → NoEnd a → NoEnd b → NoEnd (a ++ b)
unfolding NoEnd
both [] b p q = q
both (x ∷ a) b p q = (p.0, both a b p.1 q)

none : {ns : List ℕ} → unread ≡ numbers ns → ⊥
none e = let z : ◌≡◌ {A = ℕ} 0 1 = cc in omega arith

-- columns whose numbers are read
digits-none : (bs : List ℕ) (n : ℕ) (ns : List ℕ) → digits_of n bs ≡ numbers ns → NoEnd bs
unfolding NoEnd digits_of is_digit
digits-none [] n ns e = tt
digits-none (b ∷ bs) n ns e =
    ((λ z. none (rw z at e)), go (is_digit b && fits (n * 10 + (b - 48))) refl (digits-none bs (n * 10 + (b - 48)) ns))
  where
    go : (t : Bool) → (is_digit b && fits (n * 10 + (b - 48))) ≡ t → (digits_of (n * 10 + (b - 48)) bs ≡ numbers ns → NoEnd bs) → NoEnd bs
    go true d ih = ih (simp d at e)
    go false d ih = absurd (none (simp d at e))

column-none : (bs ns : List ℕ) → column_of bs ≡ numbers ns → NoEnd bs
unfolding NoEnd column_of is_digit
column-none [] ns e = tt
column-none (b ∷ bs) ns e =
    ((λ z. none (rw z at e)), space (b =? 32) refl (column-none bs ns))
  where
    digit : (t : Bool) → is_digit b ≡ t → (if is_digit b then digits_of (b - 48) bs else unread) ≡ numbers ns → NoEnd bs
    digit true d f = digits-none bs (b - 48) ns (simp d at f)
    digit false d f = absurd (none (simp d at f))

    last : (cs : List ℕ) → (if length cs =? 0 then numbers (0 ∷ []) else unread) ≡ numbers ns → NoEnd cs
    last [] f = tt
    last (x ∷ cs) f = absurd (none (simp (ne_eqb (suc (length cs)) 0 (λ z. omega arith)) at f))

    zero : (t : Bool) → (b =? 48) ≡ t
        → (if b =? 48 then (if length bs =? 0 then numbers (0 ∷ []) else unread) else if is_digit b then digits_of (b - 48) bs else unread) ≡ numbers ns
        → NoEnd bs
    zero true d f = last bs (simp d at f)
    zero false d f = digit (is_digit b) refl (simp d at f)

    space : (t : Bool) → (b =? 32) ≡ t → (column_of bs ≡ numbers ns → NoEnd bs) → NoEnd bs
    space true d ih = ih (simp d at e)
    space false d ih = zero (b =? 48) refl (simp d at e)

-- one number, and others behind it
read-both : (first more : Read) (ns : List ℕ) → first_then first more ≡ numbers ns
    → ((ks : List ℕ) × (first ≡ numbers ks)) × ((ms : List ℕ) × (more ≡ numbers ms))
read-both (numbers (n ∷ [])) (numbers ms) ns e = ((n ∷ [], refl), (ms, refl))
read-both (numbers (n ∷ [])) unread ns e = absurd (none e)
read-both (numbers []) more ns e = absurd (none e)
read-both (numbers (n ∷ m ∷ ks)) more ns e = absurd (none e)
read-both unread more ns e = absurd (none e)

pub columns-none : (ws bs ns : List ℕ) → columns_of ws bs ≡ numbers ns → NoEnd bs
unfolding NoEnd columns_of
columns-none [] [] ns e = tt
columns-none [] (b ∷ bs) ns e = absurd (none e)
columns-none (w ∷ ws) bs ns e = go (w ≤? length bs) refl (columns-none ws (drop w bs))
  where
    go : (t : Bool) → (w ≤? length bs) ≡ t → ((ms : List ℕ) → columns_of ws (drop w bs) ≡ numbers ms → NoEnd (drop w bs)) → NoEnd bs
    go true d ih =
        let f : first_then (column_of (take w bs)) (columns_of ws (drop w bs)) ≡ numbers ns = simp d at e in
        let r = read-both (column_of (take w bs)) (columns_of ws (drop w bs)) ns f in
        let whole : NoEnd (take w bs ++ drop w bs)
        = both (take w bs) (drop w bs) (column-none (take w bs) r.0.0 r.0.1) (ih r.1.0 r.1.1) in
        rw take-append-drop at whole
    go false d ih = absurd (none (simp d at e))

-- a line that says a call
no_line : {c : Call} → malformed ≡ call c → ⊥
no_line e = let z : ◌≡◌ {A = ℕ} 0 1 = cc in omega arith

-- no call has the letter 10
letter-none : (r : Read) (c : Call) → call_of 10 r ≡ call c → ⊥
letter-none (numbers []) c e = no_line e
letter-none (numbers (k ∷ [])) c e = no_line e
letter-none (numbers (k ∷ a ∷ [])) c e = no_line e
letter-none (numbers (k ∷ a ∷ b ∷ [])) c e = no_line e
letter-none (numbers (k ∷ a ∷ b ∷ x ∷ [])) c e = no_line e
letter-none (numbers (k ∷ a ∷ b ∷ x ∷ d ∷ [])) c e = no_line e
letter-none (numbers (k ∷ a ∷ b ∷ x ∷ d ∷ y ∷ ns)) c e = no_line e
letter-none unread c e = no_line e

pub line-none : (bs : List ℕ) (c : Call) → line_of bs ≡ call c → NoEnd bs
unfolding NoEnd line_of
line-none [] c e = absurd (no_line e)
line-none (b ∷ bs) c e =
    ((λ z. letter-none (columns_of (2 ∷ replicate (arity b) 21) bs) c (subst (λ (x : ℕ). call_of x (columns_of (2 ∷ replicate (arity b) 21) bs) ≡ call c) z e)), read (columns_of (2 ∷ replicate (arity b) 21) bs) refl)
  where
    read : (r : Read) → columns_of (2 ∷ replicate (arity b) 21) bs ≡ r → NoEnd bs
    read (numbers ns) q = columns-none (2 ∷ replicate (arity b) 21) bs ns q
    read unread q = absurd (no_line (ap (call_of b) (sym q) ∙ e))

-- ---- the lines of bytes that begin with such a line and its end

pub first-line : (bs held more : List ℕ) → NoEnd bs → lines_with held (bs ++ (10 ∷ more)) ≡ (held ++ bs) ∷ lines_of more
unfolding NoEnd lines_with
first-line [] held more p = ap (λ (l : List ℕ). l ∷ lines_of more) (sym (append-nil held))
first-line (b ∷ bs) held more p =
    simp (ne_eqb b 10 p.0)
    (first-line bs (held ++ (b ∷ [])) more p.1 ∙ ap (λ (l : List ℕ). l ∷ lines_of more) (append_assoc held (b ∷ []) bs))

-- bytes without an end are one line
pub only-line : (bs : List ℕ) → NoEnd bs → 1 ≤ length bs → lines_of bs ≡ bs ∷ []
unfolding NoEnd lines_of cons_byte
only-line [] h l = absurd (omega arith)
only-line (b ∷ []) h l = simp (ne_eqb b 10 h.0)
only-line (b ∷ c ∷ bs) h l = simp (ne_eqb b 10 h.0) (ap (cons_byte b) (only-line (c ∷ bs) h.1 (omega arith)))

says-call : (l : Line) (c : Call) → Some c ≡ line_from l → l ≡ call c
says-call (call d) c e = let q : d ≡ c = cc in ap call q
says-call malformed c e = absurd (let z : ◌≡◌ {A = ℕ} 0 1 = cc in omega arith)

pub begins : (input : List ℕ) (from size : ℕ) (c : Call) → size < length input - from → get_or input (from + size) 0 ≡ 10
    → Some c ≡ line_from (line_of (take (from + size - from) (drop from input))) → Begins input from c (from + size + 1)
begins input from size c h e q =
    let z : from + size - from ≡ size = omega arith in
    let bs : List ℕ = take size (drop from input) in
    let said : line_of bs ≡ call c = says-call (line_of bs) c (rw z at q) in
    let split : drop from input ≡ bs ++ (10 ∷ drop (from + size + 1) input)
    = sym (take-append-drop size (drop from input))
    ∙ ap (λ (l : List ℕ). bs ++ l)
    (drop-drop size from input ∙ drop-cons input (from + size) 0 (omega arith)
    ∙ ap (λ (b : ℕ). b ∷ drop (suc (from + size)) input) e ∙ ap (λ (k : ℕ). 10 ∷ drop k input) (sym (add-one (from + size)))) in
    record {
      line = bs;
      says = said;
      ahead = omega arith;
      taken = omega arith;
      lines = λ more. ap (λ (l : List ℕ). lines_with [] (l ++ more)) split
          ∙ ap (lines_with []) (append_assoc bs (10 ∷ drop (from + size + 1) input) more)
          ∙ first-line bs [] (drop (from + size + 1) input ++ more) (line-none bs c said)
          ∙ ap (λ (ls : List (List ℕ)). bs ∷ ls) (lines-own (drop (from + size + 1) input ++ more));
    }
