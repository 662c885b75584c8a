-- A script's bytes in pieces: what the lines say that begin with bytes held and go on with others. 88 bytes are held at most,
-- and no line so long is of the form.
use Rattle.std.specs.Prelude.{if◌then◌else◌, None}
use Prim.Native.Nat.{ℕ, suc, ◌+◌, ◌-◌, ◌<◌, ◌≤◌}
use mathlib.Core.Path.{◌≡◌, refl, sym, ap, ◌∙◌}
use mathlib.Core.Bool.{Bool, true, false, true≢false}
use mathlib.Core.List.{List, [], ◌∷◌, ◌++◌, map, append_assoc, append-nil}
use native.Mathlib.Numerals.{add-one}
use native.Mathlib.Omega.{arith}
use lib.ListN.{length, get_or, take, drop, set, length-append, length-set}
use lib.Seq.{drop-nil, take-suc-set, length-take-le}
use borrow.Author.Tests.{ltb-true, ltb-false, ne_eqb}
use Rattle.definitions.specs.Tests.{◌<?◌, ◌=?◌}
use Rattle.definitions.specs.Script.{Line, call, malformed, cons_byte, lines_of, arity, line_of}
use Rattle.lines.specs.Lines.{line_from, lines_with, takes}
use Rattle.lines.specs.declared.Taken.{Taken}
use Rattle.lines.proofs.Fields.{line-length}

-- ---- a line of 88 bytes is not of the form

few : (b : Bool) (x y : ℕ) → x ≤ 4 → y ≤ 4 → (if b then x else y) ≤ 4
few true x y p q = p
few false x y p q = q

arity-few : (letter : ℕ) → arity letter ≤ 4
unfolding arity
arity-few l =
    few (l =? 65) 3 _ (omega arith)
    (few (l =? 68) 3 _ (omega arith)
    (few (l =? 67) 2 _ (omega arith)
    (few (l =? 77) 4 _ (omega arith) (few (l =? 85) 2 _ (omega arith) (few (l =? 71) 2 _ (omega arith) (few (l =? 83) 1 0 (omega arith) (omega arith)))))))

no_call : (l : Line) → None ≡ line_from l → l ≡ malformed
no_call malformed e = refl
no_call (call c) e = absurd (let z : ◌≡◌ {A = ℕ} 0 1 = cc in omega arith)

pub long-line : (bs : List ℕ) → 88 ≤ length bs → line_of bs ≡ malformed
long-line bs h =
    no_call (line_of bs)
    (line-length bs (omega arith) (arity (get_or bs 0 0)) refl (λ e. omega (arith, arity-few (get_or bs 0 0))))

-- ---- lines that go on with bytes held

-- held bytes go before the first line
glued : List ℕ → List (List ℕ) → List (List ℕ)
glued held [] = if length held =? 0 then [] else held ∷ []
glued held (line ∷ lines) = (held ++ line) ∷ lines

not_none : (held : List ℕ) (b : ℕ) → (length (held ++ (b ∷ [])) =? 0) ≡ false
not_none held b = ne_eqb (length (held ++ (b ∷ []))) 0 (λ e. omega (arith, length-append held (b ∷ [])))

glued-byte : (held : List ℕ) (b : ℕ) (ls : List (List ℕ)) → glued (held ++ (b ∷ [])) ls ≡ glued held (cons_byte b ls)
unfolding cons_byte glued
glued-byte held b [] = simp (not_none held b)
glued-byte held b (l ∷ ls) = ap (λ (x : List ℕ). x ∷ ls) (append_assoc held (b ∷ []) l)

lines-glued : (bs held : List ℕ) → lines_with held bs ≡ glued held (lines_of bs)
unfolding lines_with lines_of glued
lines-glued [] held = refl
lines-glued (b ∷ bs) held = go (b =? 10) refl (lines-glued bs (held ++ (b ∷ [])))
  where
    go : (t : Bool) → (b =? 10) ≡ t → lines_with (held ++ (b ∷ [])) bs ≡ glued (held ++ (b ∷ [])) (lines_of bs)
        → lines_with held (b ∷ bs) ≡ glued held (lines_of (b ∷ bs))
    go true d ih = simp d (ap (λ (x : List ℕ). x ∷ lines_of bs) (sym (append-nil held)))
    go false d ih = simp d (ih ∙ glued-byte held b (lines_of bs))

-- with none held they are the bytes' own
pub lines-own : (bs : List ℕ) → lines_of bs ≡ lines_with [] bs
unfolding glued
lines-own bs = go (lines_of bs) refl
  where
    go : (ls : List (List ℕ)) → lines_of bs ≡ ls → lines_of bs ≡ lines_with [] bs
    go [] e = e ∙ sym (lines-glued bs [] ∙ ap (glued []) e)
    go (l ∷ ls) e = e ∙ sym (lines-glued bs [] ∙ ap (glued []) e)

-- lines that begin with 88 bytes or more say the same, whichever these are
said-long : (bs h h' : List ℕ) → 88 ≤ length h → 88 ≤ length h' → map line_of (lines_with h bs) ≡ map line_of (lines_with h' bs)
unfolding lines_with
said-long [] h h' p q =
    simp (ne_eqb (length h) 0 (λ e. omega arith), ne_eqb (length h') 0 (λ e. omega arith))
    (ap (λ (l : Line). l ∷ []) (long-line h p ∙ sym (long-line h' q)))
said-long (b ∷ bs) h h' p q =
    go (b =? 10) refl
    (said-long bs (h ++ (b ∷ [])) (h' ++ (b ∷ [])) (omega (arith, length-append h (b ∷ []))) (omega (arith, length-append h' (b ∷ []))))
  where
    go : (t : Bool) → (b =? 10) ≡ t → map line_of (lines_with (h ++ (b ∷ [])) bs) ≡ map line_of (lines_with (h' ++ (b ∷ [])) bs)
        → map line_of (lines_with h (b ∷ bs)) ≡ map line_of (lines_with h' (b ∷ bs))
    go true d ih = simp d (ap (λ (l : Line). l ∷ map line_of (lines_of bs)) (long-line h p ∙ sym (long-line h' q)))
    go false d ih = simp d ih

-- ---- bytes are taken

-- what is left of the bytes
abbrev pub left_of : ℕ → List ℕ → Taken → List ℕ
left_of used bs t = drop (t.used - used) bs

pub record Takes (line : List ℕ) (len used : ℕ) (bs line' : List ℕ) (t : Taken) : Type 0 where
  pub size : length line' ≡ 88
  pub short : t.len ≤ 88
  pub ahead : 0 < length bs → used < t.used
  pub from : used ≤ t.used
  pub to : t.used ≤ used + length bs
  -- the line goes on, or has ended
  pub goes : t.ended ≡ false → (more : List ℕ)
      → map line_of (lines_with (take len line) (bs ++ more)) ≡ map line_of (lines_with (take t.len line') (left_of used bs t ++ more))
  pub ended : t.ended ≡ true → (more : List ℕ)
      → map line_of (lines_with (take len line) (bs ++ more)) ≡ line_of (take t.len line') ∷ map line_of (lines_with [] (left_of used bs t ++ more))

module _ (line : List ℕ) (len used : ℕ) (size : length line ≡ 88) (short : len ≤ 88) where
  takes_none : Takes line len used [] line (record { used = used; len = len; ended = false })
  takes_none = record {
    size = size;
    short = short;
    ahead = λ h. absurd (omega arith);
    from = omega arith;
    to = omega arith;
    goes = λ e more. rw (drop-nil (used - used));
    ended = λ e. absurd (true≢false (sym e));
  }

  module _ (b : ℕ) (bs : List ℕ) where
    takes-end : (b =? 10) ≡ true → Takes line len used (b ∷ bs) line (record { used = used + 1; len = len; ended = true })
    unfolding lines_with
    takes-end d = record {
      size = size;
      short = short;
      ahead = λ h. omega arith;
      from = omega arith;
      to = omega arith;
      goes = λ e. absurd (true≢false e);
      ended = λ e more. let z : used + 1 - used ≡ 1 = omega arith in rw z (simp d (ap (λ (ls : List (List ℕ)). line_of (take len line) ∷ map line_of ls) (lines-own (bs ++ more))));
    }

    takes-byte : (b =? 10) ≡ false → (new : List ℕ) (now : ℕ) (line' : List ℕ) (t : Taken)
        → ((more : List ℕ) → map line_of (lines_with (take len line ++ (b ∷ [])) (bs ++ more)) ≡ map line_of (lines_with (take now new) (bs ++ more)))
        → Takes new now (used + 1) bs line' t → Takes line len used (b ∷ bs) line' t
    unfolding lines_with
    takes-byte d new now line' t e ih =
        let z : t.used - used ≡ suc (t.used - (used + 1)) = omega (arith, ih.from) in
        record {
          size = ih.size;
          short = ih.short;
          ahead = λ h. omega (arith, ih.from);
          from = omega (arith, ih.from);
          to = omega (arith, ih.to);
          goes = λ q more. rw z (simp d (e more ∙ ih.goes q more));
          ended = λ q more. rw z (simp d (e more ∙ ih.ended q more));
        }

pub taken : (bs line : List ℕ) (len used : ℕ) → length line ≡ 88 → len ≤ 88
    → Takes line len used bs (takes line len used bs).0 (takes line len used bs).1
unfolding takes
taken [] line len used size short = takes_none line len used size short
taken (b ∷ bs) line len used size short =
    go (b =? 10) refl (len <? length line) refl
    (λ l. taken bs (set line len b) (len + 1) (used + 1) (simp length-set size) (omega arith))
    (taken bs line len (used + 1) size short)
  where
    go : (s : Bool) → (b =? 10) ≡ s → (t : Bool) → (len <? length line) ≡ t
        → (len < 88 → Takes (set line len b) (len + 1) (used + 1) bs (takes (set line len b) (len + 1) (used + 1) bs).0 (takes (set line len b) (len + 1) (used + 1) bs).1)
        → Takes line len (used + 1) bs (takes line len (used + 1) bs).0 (takes line len (used + 1) bs).1
        → Takes line len used (b ∷ bs) (takes line len used (b ∷ bs)).0 (takes line len used (b ∷ bs)).1
    go true d t q ih₁ ih₂ = simp d (takes-end line len used size short b bs d)
    go false d true q ih₁ ih₂ =
        let l : len < length line = ltb-true len (length line) q in
        simp (d, q)
        (takes-byte line len used size short b bs d (set line len b) (len + 1) _ _
        (λ more. ap (λ (h : List ℕ). map line_of (lines_with h (bs ++ more))) (sym (take-suc-set line len b l) ∙ ap (λ (k : ℕ). take k (set line len b)) (sym (add-one len))))
        (ih₁ (omega arith)))
    go false d false q ih₁ ih₂ =
        let l : length line ≤ len = ltb-false len (length line) q in
        let w : length (take len line) ≡ len = length-take-le len line (omega arith) in
        simp (d, q)
        (takes-byte line len used size short b bs d line len _ _
        (λ more. said-long (bs ++ more) (take len line ++ (b ∷ [])) (take len line) (omega (arith, length-append (take len line) (b ∷ []))) (omega arith))
        ih₂)
