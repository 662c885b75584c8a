-- Lines put over a slice, part by part.
use mathlib.Core.Path.{◌≡◌, refl, sym, ap, subst, ◌∙◌}
use mathlib.Core.List.{List, [], ◌∷◌, ◌++◌, append_assoc, append-nil}
use Prim.Native.Nat.{ℕ, ◌+◌, ◌*◌, ◌<◌, ◌≤◌}
use native.Mathlib.Numerals.{add-one}
use native.Mathlib.Omega.{arith}
use lib.ListN.{length, get_or, take, set, length-append, length-set}
use lib.Seq.{sets, length-sets, take-suc, take_all, length-take-le}
use Rattle.definitions.specs.Tests.{each}
use Rattle.definitions.specs.Questions.{number_of, value_of}
use Rattle.definitions.specs.Pages.{mapping_group}
use Rattle.definitions.specs.Script.{number_in, script_line, heading, answer_columns, answer_line, mapping_line}
use Rattle.definitions.specs.Answers.{Answer}
use Rattle.definitions.specs.declared.remapper.Mapping.{Mapping}
use Rattle.columns.specs.Columns.{Wrote}
use Rattle.std.specs.Prelude.{Option, Some, None}
use borrow.Rule.Slice.PartMut.{put_mid}
use Rattle.columns.proofs.Over.{put-sets}
use Rattle.columns.proofs.Room.{length-number, sets_behind, set-behind, wrote-all, written}

-- numbers one by one, 21 columns each
each_append : (a b : List ℕ) → each (number_in 21) (a ++ b) ≡ each (number_in 21) a ++ each (number_in 21) b
each_append [] b = refl
each_append (x ∷ a) b =
    ap (λ (r : List ℕ). number_in 21 x ++ r) (each_append a b)
    ∙ sym (append_assoc (number_in 21 x) (each (number_in 21) a) (each (number_in 21) b))

pub length-each : (l : List ℕ) → length (each (number_in 21) l) ≡ 21 * length l
length-each [] = refl
length-each (x ∷ l) =
    length-append (number_in 21 x) (each (number_in 21) l)
    ∙ omega (arith, length-number 21 x (omega arith), length-each l)

each_more : (i : ℕ) (l : List ℕ) → i < length l
    → each (number_in 21) (take i l) ++ number_in 21 (get_or l i 0) ≡ each (number_in 21) (take (i + 1) l)
each_more i l h =
    ap (λ (r : List ℕ). each (number_in 21) (take i l) ++ r) (sym (append-nil (number_in 21 (get_or l i 0))))
    ∙ sym (each_append (take i l) (get_or l i 0 ∷ []))
    ∙ ap (each (number_in 21)) (sym (take-suc l i 0 h) ∙ ap (λ (k : ℕ). take k l) (sym (add-one i)))

-- a number in w columns behind k bytes
module _ (at k w n : ℕ) (done out l e : List ℕ) (r : Option ℕ) (one : 1 ≤ w) (len : length done ≡ k)
    (room : at + k + w ≤ length out) (q : out ≡ sets e at done) where
  behind : Wrote (at + k) (number_in w n) out r l → l ≡ sets e at (done ++ number_in w n)
  behind v =
      written (at + k) w (number_in w n) out r l (length-number w n one) room v
      ∙ ap (λ (x : List ℕ). sets x (at + k) (number_in w n)) q
      ∙ sets_behind at k done (number_in w n) e len

pub numbers-again : (at i : ℕ) (group out l e : List ℕ) (r : Option ℕ) → i < length group → at + 21 * length group ≤ length out
    → out ≡ sets e at (each (number_in 21) (take i group)) → Wrote (at + 21 * i) (number_in 21 (get_or group i 0)) out r l
    → l ≡ sets e at (each (number_in 21) (take (i + 1) group))
numbers-again at i group out l e r h room q w =
    behind at (21 * i) 21 (get_or group i 0) (each (number_in 21) (take i group)) out l e r (omega arith)
    (length-each (take i group) ∙ ap (λ (k : ℕ). 21 * k) (length-take-le i group (omega arith))) (omega arith) q w
    ∙ ap (λ (x : List ℕ). sets e at x) (each_more i group h)

-- what a loop left, once it is past the last
pub at_last : (f : List ℕ → List ℕ) (at i : ℕ) (l out e : List ℕ) → length l ≤ i → out ≡ sets e at (f (take i l))
    → out ≡ sets e at (f l)
at_last f at i l out e h q = q ∙ ap (λ (x : List ℕ). sets e at (f x)) (take_all i l h)

-- how long the lines are
pub length-heading : length heading ≡ 25
unfolding heading
length-heading = refl

pub length-columns : (number value : ℕ) → length (answer_columns number value) ≡ 25
length-columns number value =
    simp length-append (omega (arith, length-number 3 number (omega arith), length-number 21 value (omega arith)))

pub length-answer : (a : Answer) → length (answer_line a) ≡ 25
unfolding answer_line
length-answer a = length-columns (number_of a) (value_of a)

pub length-line : (letter k : ℕ) (ns : List ℕ) → length (script_line letter k ns) ≡ 4 + 21 * length ns
unfolding script_line
length-line letter k ns = simp length-append (omega (arith, length-number 2 k (omega arith), length-each ns))

pub length-mapping : (m : Mapping) → length (mapping_line m) ≡ 106
unfolding mapping_line mapping_group
length-mapping m =
    length-append (each (number_in 21) (mapping_group m)) (10 ∷ [])
    ∙ omega (arith, length-each (mapping_group m))

-- where they end
pub none-written : {at : ℕ} {new e : List ℕ} {r : Option ℕ} → r ≡ None → Wrote at new e None e → Wrote at new e r e
none-written {at} {new} {e} {r} q w = subst (λ (x : Option ℕ). Wrote at new e x e) (sym q) w

pub ends : {at : ℕ} (k : ℕ) {end : ℕ} {new e l : List ℕ} → end ≡ at + k → Wrote at new e (Some (at + k)) l → Wrote at new e (Some end) l
ends {at} k {end} {new} {e} {l} q w = subst (λ (x : ℕ). Wrote at new e (Some x) l) (sym q) w

pub heading-put : (at k : ℕ) (e new : List ℕ) → at + 25 ≤ length e → k ≡ 25 → new ≡ heading
    → put_mid at k e new ≡ sets e at heading
heading-put at k e new h p q = rw (p, q) (put-sets at 25 e heading h length-heading)

-- the whole lines
pub heading-all : (at : ℕ) (e l : List ℕ) → at + 25 ≤ length e → l ≡ sets e at heading → Wrote at heading e (Some (at + 25)) l
heading-all at e l h q = wrote-all at 25 heading e l length-heading h q

pub columns-all : (at x v : ℕ) (e l m : List ℕ) (r r' : Option ℕ) → at + 25 ≤ length e → Wrote at (number_in 3 x) e r l
    → Wrote (at + 3) (number_in 21 v) l r' m → Wrote at (answer_columns x v) e (Some (at + 25)) (set m (at + 24) 10)
columns-all at x v e l m r r' h w w' =
    let n3 : length (number_in 3 x) ≡ 3 = length-number 3 x (omega arith) in
    let n21 : length (number_in 21 v) ≡ 21 = length-number 21 v (omega arith) in
    let first : l ≡ sets e at (number_in 3 x) = written at 3 (number_in 3 x) e r l n3 (omega arith) w in
    let same : length l ≡ length e = ap length first ∙ length-sets e at (number_in 3 x) in
    wrote-all at 25 (answer_columns x v) e (set m (at + 24) 10) (length-columns x v) h
    (ap (λ (y : List ℕ). set y (at + 24) 10)
    (behind at 3 21 v (number_in 3 x) l m e r' (omega arith) n3 (omega arith) first w')
    ∙ set-behind at 24 10 (number_in 3 x ++ number_in 21 v) e (length-append (number_in 3 x) (number_in 21 v) ∙ omega arith)
    ∙ ap (λ (y : List ℕ). sets e at y) (append_assoc (number_in 3 x) (number_in 21 v) (10 ∷ [])))

pub answer-columns : (at x v : ℕ) (a : Answer) (e l : List ℕ) (r : Option ℕ) → x ≡ number_of a → v ≡ value_of a
    → Wrote at (answer_columns x v) e r l → Wrote at (answer_line a) e r l
unfolding answer_line
answer-columns at x v a e l r p q w = rw (p, q) at w

pub answer-all : (at : ℕ) (a : Answer) (x v : ℕ) (e l m : List ℕ) (r r' : Option ℕ) → at + 25 ≤ length e → x ≡ number_of a
    → v ≡ value_of a → Wrote at (number_in 3 x) e r l → Wrote (at + 3) (number_in 21 v) l r' m
    → Wrote at (answer_line a) e (Some (at + 25)) (set m (at + 24) 10)
answer-all at a x v e l m r r' h p q w w' =
    answer-columns at x v a e (set m (at + 24) 10) (Some (at + 25)) p q (columns-all at x v e l m r r' h w w')

-- a script's line, part by part
pub line-written : (at letter k : ℕ) (ns e l m : List ℕ) (r : Option ℕ) → at + (4 + 21 * length ns) ≤ length e
    → Wrote (at + 1) (number_in 2 k) (set e at letter) r l → m ≡ sets l (at + 3) (each (number_in 21) ns)
    → set m (at + (3 + 21 * length ns)) 10 ≡ sets e at (script_line letter k ns)
unfolding script_line
line-written at letter k ns e l m r h w q =
    let n2 : length (number_in 2 k) ≡ 2 = length-number 2 k (omega arith) in
    let first : l ≡ sets e at (letter ∷ number_in 2 k)
    = behind at 1 2 k (letter ∷ []) (set e at letter) l e r (omega arith) refl (simp length-set (omega arith)) refl w in
    let both : m ≡ sets e at ((letter ∷ number_in 2 k) ++ each (number_in 21) ns)
    = q ∙ ap (λ (y : List ℕ). sets y (at + 3) (each (number_in 21) ns)) first
    ∙ sets_behind at 3 (letter ∷ number_in 2 k) (each (number_in 21) ns) e (omega arith) in
    ap (λ (y : List ℕ). set y (at + (3 + 21 * length ns)) 10) both
    ∙ set-behind at (3 + 21 * length ns) 10 ((letter ∷ number_in 2 k) ++ each (number_in 21) ns) e
    (simp length-append (omega (arith, length-each ns)))
    ∙ ap (λ (y : List ℕ). sets e at y) (append_assoc (letter ∷ number_in 2 k) (each (number_in 21) ns) (10 ∷ []))

pub mapping-all : (at : ℕ) (m : Mapping) (e l : List ℕ) → at + 106 ≤ length e
    → l ≡ sets e at (each (number_in 21) (mapping_group m)) → Wrote at (mapping_line m) e (Some (at + 106)) (set l (at + 105) 10)
unfolding mapping_line mapping_group
mapping-all at m e l h q =
    wrote-all at 106 (mapping_line m) e (set l (at + 105) 10) (length-mapping m) h
    (ap (λ (y : List ℕ). set y (at + 105) 10) q
    ∙ set-behind at 105 10 (each (number_in 21) (mapping_group m)) e (length-each (mapping_group m)))
