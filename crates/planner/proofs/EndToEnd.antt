-- From the text of a wish to the permission list: the script that is printed for it, run on empty tables, yields it.
use Rattle.std.specs.Prelude.{if◌then◌else◌}
use Prim.Native.Nat.{ℕ, zero, suc, ◌+◌, ◌-◌, ◌*◌, ◌/◌, ◌<◌, ◌≤◌}
use mathlib.Core.Path.{◌≡◌, refl, sym, ap, ◌∙◌}
use mathlib.Core.Bool.{Bool, true, false, ◌&&◌}
use mathlib.Core.List.{List, [], ◌∷◌, ◌++◌, map}
use native.Mathlib.Omega.{arith}
use lib.ListN.{length, take, drop}
use borrow.Author.Tests.{lt-ltb, leb-true}
use Rattle.definitions.specs.Tests.{◌<?◌, ◌≤?◌, ◌=?◌, fits, host, all}
use Rattle.definitions.specs.Pages.{permission_group}
use Rattle.definitions.specs.Calls.{start, compartment, after_from}
use Rattle.definitions.specs.Script.{Read, numbers, unread, is_digit, digits_of, column_of, first_then, columns_of, lines_of, script_line, left_from}
use Rattle.definitions.specs.Planner.{wanted, touches, plan_after, plan, adds, can_wish}
use Rattle.definitions.specs.Wishes.{Wish, wish, broken, and_later, range_of, wish_from, wish_of, besides, allowing, plan_calls, plan_lines, wish_lines, plan_text}
use Rattle.definitions.specs.declared.region.MemoryPermission.{MemoryPermission}
use Rattle.definitions.specs.declared.call.Call.TheVariants.{Allow}
use Rattle.definitions.proofs.Bools.{both}
use Rattle.definitions.proofs.Bundles.{AllAccepted}
use Rattle.definitions.proofs.Planned.{listed}
use Rattle.definitions.proofs.Wished.{allow_calls, script-yields}
use Rattle.lines.proofs.Putting.{text}
use Rattle.lines.proofs.Again.{says-add, says-allow, SayAll, say-both, text-leaves}
use Rattle.planner.proofs.WriteLaws.{asked}

-- ---- numbers that are read fit 64 bits

none : {ns : List ℕ} {P : Type 0} → unread ≡ numbers ns → P
none e = absurd (let z : ◌≡◌ {A = ℕ} 0 1 = cc in omega arith)

same_numbers : {ns ms : List ℕ} → numbers ns ≡ numbers ms → ns ≡ ms
same_numbers e = cc

all_one : (n : ℕ) → fits n ≡ true → all fits (n ∷ []) ≡ true
all_one n h = rw h

digits-fit : (bs : List ℕ) (n : ℕ) (ns : List ℕ) → fits n ≡ true → digits_of n bs ≡ numbers ns → all fits ns ≡ true
unfolding digits_of
digits-fit [] n ns h e = ap (all fits) (sym (same_numbers e)) ∙ all_one n h
digits-fit (b ∷ bs) n ns h e = go (is_digit b) refl (fits (n * 10 + (b - 48))) refl (digits-fit bs (n * 10 + (b - 48)) ns)
  where
    go : (d : Bool) → is_digit b ≡ d → (f : Bool) → fits (n * 10 + (b - 48)) ≡ f
        → (fits (n * 10 + (b - 48)) ≡ true → digits_of (n * 10 + (b - 48)) bs ≡ numbers ns → all fits ns ≡ true) → all fits ns ≡ true
    go true d true f ih = ih f (simp (d, f) at e)
    go true d false f ih = none (simp (d, f) at e)
    go false d f g ih = none (simp d at e)

digit-fits : (b : ℕ) → is_digit b ≡ true → fits (b - 48) ≡ true
unfolding is_digit fits
digit-fits b d = lt-ltb (b - 48) 18446744073709551616 (omega (arith, leb-true b 57 (both (48 ≤? b) (b ≤? 57) d).1))

column_fits : (bs ns : List ℕ) → column_of bs ≡ numbers ns → all fits ns ≡ true
unfolding column_of fits
column_fits [] ns e = none e
column_fits (b ∷ bs) ns e = space (b =? 32) refl (column_fits bs ns)
  where
    digit : (t : Bool) → is_digit b ≡ t → (if is_digit b then digits_of (b - 48) bs else unread) ≡ numbers ns → all fits ns ≡ true
    digit true d f = digits-fit bs (b - 48) ns (digit-fits b d) (simp d at f)
    digit false d f = none (simp d at f)

    last : (t : Bool) → (if t then numbers (0 ∷ []) else unread) ≡ numbers ns → all fits ns ≡ true
    last true f = ap (all fits) (sym (same_numbers f)) ∙ all_one 0 (lt-ltb 0 18446744073709551616 (omega arith))
    last false f = none f

    zero-first : (t : Bool) → (b =? 48) ≡ t
        → (if b =? 48 then (if length bs =? 0 then numbers (0 ∷ []) else unread) else if is_digit b then digits_of (b - 48) bs else unread) ≡ numbers ns
        → all fits ns ≡ true
    zero-first true d f = last (length bs =? 0) (simp d at f)
    zero-first false d f = digit (is_digit b) refl (simp d at f)

    space : (t : Bool) → (b =? 32) ≡ t → (column_of bs ≡ numbers ns → all fits ns ≡ true) → all fits ns ≡ true
    space true d ih = ih (simp d at e)
    space false d ih = zero-first (b =? 48) refl (simp d at e)

both-fit : (xs ys : List ℕ) → all fits xs ≡ true → all fits ys ≡ true → all fits (xs ++ ys) ≡ true
both-fit [] ys p q = q
both-fit (x ∷ xs) ys p q = let r = both (fits x) (all fits xs) p in rw r.0 (both-fit xs ys r.1 q)

then-fits : (first more : Read) (ns : List ℕ) → ((ks : List ℕ) → first ≡ numbers ks → all fits ks ≡ true)
    → ((ms : List ℕ) → more ≡ numbers ms → all fits ms ≡ true) → first_then first more ≡ numbers ns → all fits ns ≡ true
then-fits (numbers (n ∷ [])) (numbers ms) ns f g e =
    ap (all fits) (sym (same_numbers e)) ∙ both-fit (n ∷ []) ms (f (n ∷ []) refl) (g ms refl)
then-fits (numbers (n ∷ [])) unread ns f g e = none e
then-fits (numbers []) more ns f g e = none e
then-fits (numbers (n ∷ m ∷ ks)) more ns f g e = none e
then-fits unread more ns f g e = none e

columns-fit : (ws bs ns : List ℕ) → columns_of ws bs ≡ numbers ns → all fits ns ≡ true
unfolding columns_of
columns-fit [] [] ns e = ap (all fits) (sym (same_numbers e))
columns-fit [] (b ∷ bs) ns e = none e
columns-fit (w ∷ ws) bs ns e = go (w ≤? length bs) refl (columns-fit ws (drop w bs))
  where
    go : (t : Bool) → (w ≤? length bs) ≡ t → ((ms : List ℕ) → columns_of ws (drop w bs) ≡ numbers ms → all fits ms ≡ true) → all fits ns ≡ true
    go true d ih = then-fits (column_of (take w bs)) (columns_of ws (drop w bs)) ns (column_fits (take w bs)) ih (simp d at e)
    go false d ih = none (simp d at e)

no-wish : {n : ℕ} {ns : List ℕ} {P : Type 0} → broken n ≡ wish ns → P
no-wish e = absurd (let z : ◌≡◌ {A = ℕ} 0 1 = cc in omega arith)

same-wish : {ns ms : List ℕ} → wish ns ≡ wish ms → ns ≡ ms
same-wish e = cc

later-fits : (n : ℕ) (r : Read) (w : Wish) (ns : List ℕ) → ((ks : List ℕ) → r ≡ numbers ks → all fits ks ≡ true)
    → ((ms : List ℕ) → w ≡ wish ms → all fits ms ≡ true) → and_later n r w ≡ wish ns → all fits ns ≡ true
later-fits n (numbers ks) (wish ms) ns f g e = ap (all fits) (sym (same-wish e)) ∙ both-fit ks ms (f ks refl) (g ms refl)
later-fits n (numbers ks) (broken m) ns f g e = no-wish e
later-fits n unread w ns f g e = no-wish e

wish-fits : (n : ℕ) (lines : List (List ℕ)) (ns : List ℕ) → wish_from n lines ≡ wish ns → all fits ns ≡ true
unfolding wish_from range_of
wish-fits n [] ns e = ap (all fits) (sym (same-wish e))
wish-fits n (line ∷ lines) ns e =
    later-fits n (range_of line) (wish_from (n + 1) lines) ns (columns-fit (21 ∷ 21 ∷ 21 ∷ []) line) (wish-fits (n + 1) lines) e

-- ---- the lines say the calls

-- ranges of 64-bit numbers, and those that are planned of them
abbrev Fit : List MemoryPermission → Type 0
Fit [] = Unit {0}
Fit (w ∷ ws) = (all fits (permission_group w) ≡ true) × Fit ws

wanted-fit : (ns : List ℕ) → all fits ns ≡ true → Fit (wanted ns)
unfolding wanted permission_group host
wanted-fit [] h = tt
wanted-fit (a ∷ []) h = tt
wanted-fit (a ∷ e ∷ []) h = tt
wanted-fit (a ∷ e ∷ r ∷ ns) h =
    let p = both (fits a) (all fits (e ∷ r ∷ ns)) h in
    let q = both (fits e) (all fits (r ∷ ns)) p.1 in
    let t = both (fits r) (all fits ns) q.1 in
    (rw (p.0, q.0, t.0), wanted-fit ns t.1)

after-fit : (p : MemoryPermission) (once : Bool) (ws : List MemoryPermission) → Fit ws → Fit (plan_after p once ws)
unfolding plan_after
after-fit p once [] h = tt
after-fit p once (w ∷ ws) h = go (once && touches p w) (after-fit w false ws h.1) (after-fit w true ws h.1)
  where
    go : (b : Bool) → Fit (plan_after w false ws) → Fit (plan_after w true ws) → Fit (if b then w ∷ w ∷ plan_after w false ws else w ∷ plan_after w true ws)
    go true two one = (h.0, (h.0, two))
    go false two one = (h.0, one)

plan-fit : (ws : List MemoryPermission) → Fit ws → Fit (plan ws)
unfolding plan
plan-fit [] h = tt
plan-fit (w ∷ ws) h = (h.0, after-fit w true ws h.1)

adds-said : (k : ℕ) (ws : List MemoryPermission) → k < 100 → Fit ws → SayAll (map (λ w. script_line 65 k (permission_group w)) ws) (adds k ws)
unfolding adds
adds-said k [] l h = tt
adds-said k (w ∷ ws) l h = (says-add k w l h.0, adds-said k ws l h.1)

-- compartments and allowances of lines that fit
abbrev Small : List (ℕ × ℕ) → Type 0
Small [] = Unit {0}
Small (p ∷ ps) = (p.0 < 100) × (fits p.1 ≡ true) × Small ps

allows-said : (ps : List (ℕ × ℕ)) → Small ps → SayAll (map (λ p. script_line 83 p.0 (p.1 ∷ [])) ps) (map (λ p. Allow p.0 p.1) ps)
allows-said [] h = tt
allows-said (p ∷ ps) h = (says-allow p.0 p.1 h.0 h.1, allows-said ps h.2)

small-both : (ps qs : List (ℕ × ℕ)) → Small ps → Small qs → Small (ps ++ qs)
small-both [] qs h g = g
small-both (p ∷ ps) qs h g = (h.0, h.1, small-both ps qs h.2 g)

besides-small : (k n cnt j : ℕ) → j + cnt ≤ 8 → fits n ≡ true → Small (map (λ j. (j, n)) (besides k j cnt))
unfolding besides
besides-small k n zero j l f = tt
besides-small k n (suc cnt) j l f = go (j =? k) (besides-small k n cnt (suc j) (omega arith) f)
  where
    go : (b : Bool) → Small (map (λ j. (j, n)) (besides k (suc j) cnt)) → Small (map (λ j. (j, n)) (if b then besides k (suc j) cnt else j ∷ besides k (suc j) cnt))
    go true h = h
    go false h = (omega arith, f, h)

allowing-small : (k m : ℕ) → k < 8 → m ≤ 1024 → Small (allowing k m)
unfolding allowing fits
allowing-small k m l h = go (m =? 128) (m <? 128)
  where
    own : Small ((k, m) ∷ [])
    own = (omega arith, lt-ltb m 18446744073709551616 (omega arith), tt)

    go : (b c : Bool) → Small (if b then [] else (if c then [] else map (λ j. (j, (1024 - m) / 7)) (besides k 0 8)) ++ ((k, m) ∷ []))
    go true c = tt
    go false true = own
    go false false =
        small-both (map (λ j. (j, (1024 - m) / 7)) (besides k 0 8)) ((k, m) ∷ [])
        (besides-small k ((1024 - m) / 7) 8 0 (omega arith) (lt-ltb ((1024 - m) / 7) 18446744073709551616 (omega arith))) own

lines-said : (k m : ℕ) (ws : List MemoryPermission) → k < 8 → m ≤ 1024 → Fit ws → SayAll (plan_lines k m ws) (plan_calls k m ws)
unfolding plan_lines plan_calls
lines-said k m ws l h f =
    say-both (map (λ p. script_line 83 p.0 (p.1 ∷ [])) (allowing k m)) (allow_calls k m) (map (λ w. script_line 65 k (permission_group w)) (plan ws)) (adds k (plan ws))
    (allows-said (allowing k m) (allowing-small k m l h)) (adds-said k (plan ws) (omega arith) (plan-fit ws f))

-- ---- the whole way

-- The script that is printed for a wish that can be, run on empty tables: it is a text of these calls, every one is accepted, and
-- the compartment's permission list is the wish.
pub record Printed (k m : ℕ) (bytes ns : List ℕ) : Type 0 where
  pub lines : plan_text k m bytes ≡ plan_lines k m (wanted ns)
  pub leaves : left_from start (lines_of (text (plan_text k m bytes))) ≡ after_from start (plan_calls k m (wanted ns))
  pub taken : AllAccepted start (plan_calls k m (wanted ns))
  pub yields : listed (compartment (left_from start (lines_of (text (plan_text k m bytes)))) k) ≡ ns

pub printed_script : (k m : ℕ) (bytes ns : List ℕ) → k < 8 → m ≤ 1024 → wish_of bytes ≡ wish ns → can_wish m ns ≡ true → Printed k m bytes ns
unfolding wish_of
printed_script k m bytes ns l h w can =
    let f : all fits ns ≡ true = wish-fits 1 (lines_of bytes) ns w in
    let same : plan_text k m bytes ≡ plan_lines k m (wanted ns) = asked k m bytes [] [] 0 l h ∙ ap (wish_lines k m) w ∙ rw can in
    let z = script-yields k m l h ns f can in
    let left : left_from start (lines_of (text (plan_text k m bytes))) ≡ after_from start (plan_calls k m (wanted ns)) =
    ap (λ t. left_from start (lines_of (text t))) same
    ∙ text-leaves (plan_lines k m (wanted ns)) (plan_calls k m (wanted ns)) start (lines-said k m (wanted ns) l h (wanted-fit ns f)) in
    record {
      lines = same;
      leaves = left;
      taken = z.taken;
      yields = ap (λ s. listed (compartment s k)) left ∙ z.yields;
    }
