-- Lines are written one after the other, as many as fit; those of a script, part by part.
use Rattle.std.specs.Prelude.{if◌then◌else◌, Option, None, Some, Result, Ok, Err}
use Rattle.std.specs.Option.{ok_or, unwrap_or}
use Prim.Native.Nat.{ℕ, zero, suc, ◌+◌, ◌-◌, ◌*◌, ◌/◌, ◌<◌, ◌≤◌}
use mathlib.Core.Path.{◌≡◌, refl, sym, ap, ◌∙◌, subst}
use mathlib.Core.Bool.{Bool, true, false, not}
use mathlib.Core.List.{List, [], ◌∷◌, ◌++◌, map, append-nil, append_assoc, map-append}
use native.Mathlib.Omega.{arith}
use lib.ListN.{length, take, length-append}
use lib.Seq.{sets, length-sets}
use borrow.Author.Tests.{le-leb, lt-leb, lt-ltb, le-ltb, eq-eqb, ne_eqb, not-true}
use Rattle.definitions.specs.Tests.{◌=?◌}
use Rattle.definitions.specs.Pages.{permission_group}
use Rattle.definitions.specs.Questions.{refusal_number}
use Rattle.definitions.specs.Script.{whole_lines, script_line, answer_columns, answer_line}
use Rattle.definitions.specs.Planner.{wanted, plan, can_be, can_wish}
use Rattle.definitions.specs.Wishes.{wish, broken, wish_of, besides, allowing, plan_lines, wish_lines, plan_text}
use Rattle.definitions.specs.declared.region.MemoryPermission.{MemoryPermission}
use Rattle.definitions.specs.declared.answer.Refusal.TheVariants.{NoCompartment, Malformed, PoolExceeded, NoScript}
use Rattle.definitions.proofs.Bools.{and-false}
use Rattle.definitions.proofs.UncoveredLaws.{each_append}
use Rattle.columns.specs.Columns as columns
use Rattle.columns.proofs.Room.{sets_behind}
use Rattle.lines.proofs.Putting.{put-at, put-none, none-whole, text, whole-lines}
use Rattle.planner.specs.declared.PlanCursor.{PlanCursor}
use Rattle.planner.specs.Cursor.{plan_from}
use Rattle.planner.specs.Reading.{Reads}
use Rattle.planner.specs.Writing.{Wrote, Stopped, Adds, other_lines, allow_lines, add_lines, PrintsLines}
use Rattle.planner.proofs.Cursors.{length-wanted}

-- ---- lines that are written

pub none_written : (out : List ℕ) → Wrote [] out out 0
none_written out = record { text = refl; end = refl; fits = omega arith }

-- to the end, or as many as fit
module _ (ls : List (List ℕ)) (before after : List ℕ) (at : ℕ) where
  prints : (done rest : List (List ℕ)) → ls ≡ done ++ rest → Wrote done before after at → whole_lines (length before - at) rest ≡ [] → PrintsLines ls before after at
  prints done rest split w stops =
      let all : whole_lines (length before) ls ≡ done =
      ap (whole_lines (length before)) split
      ∙ whole-lines (length before) done rest (omega (arith, w.end, w.fits)) (ap (λ (n : ℕ). whole_lines (length before - n) rest) (sym w.end) ∙ stops) in
      record { slice = w.text ∙ ap (λ (x : List (List ℕ)). sets before 0 (text x)) (sym all); long = w.end ∙ ap (λ (x : List (List ℕ)). length (text x)) (sym all); fits = w.fits }

  pub all-written : Wrote ls before after at → PrintsLines ls before after at
  unfolding whole_lines
  all-written w = prints ls [] (sym (append-nil ls)) w refl

  pub some-written : Stopped ls before after at → PrintsLines ls before after at
  some-written s = prints s.done s.rest s.split s.written (ap (whole_lines (length before - at)) (sym (append-nil s.rest)) ∙ s.stuck [])

-- ---- lines more

pub adds_none : (now : List ℕ) (at : ℕ) → Adds [] now now at (Ok at)
adds_none now at = record { adds = λ ls before g. rw (append-nil ls) g }

module _ (xs ys : List (List ℕ)) (now mid : List ℕ) (at : ℕ) where
  pub adds-both : (next : List ℕ) (v : ℕ) (r : Result ℕ ℕ) → Adds xs now mid at (Ok v) → Adds ys mid next v r → Adds (xs ++ ys) now next at r
  adds-both next v r a b = record {
    adds = λ ls before g. rw (sym (append_assoc ls xs ys)) (b.adds (ls ++ xs) before (a.adds ls before g));
  }

  -- once one did not fit, no other is tried
  pub adds-stop : (v : ℕ) → Adds xs now mid at (Err v) → Adds (xs ++ ys) now mid at (Err v)
  adds-stop v a = record {
    adds = λ ls before g.
        (let s = a.adds ls before g in
        record {
          done = s.done;
          rest = s.rest ++ ys;
          split = sym (append_assoc ls xs ys) ∙ ap (λ (x : List (List ℕ)). x ++ ys) s.split ∙ append_assoc s.done s.rest ys;
          written = s.written;
          stuck = λ more. ap (whole_lines (length before - v)) (append_assoc s.rest ys more) ∙ s.stuck (ys ++ more);
        });
  }

-- a line is put, or does not fit
module _ (line now next : List ℕ) (at : ℕ) where
  size-kept : (ls : List (List ℕ)) (before : List ℕ) → Wrote ls before now at → length now ≡ length before
  size-kept ls before g = ap length g.text ∙ length-sets before 0 (text ls)

  line-put : (put : Option ℕ) → columns.Wrote at line now put next → (k : ℕ) → put ≡ Some k → Adds (line ∷ []) now next at (Ok k)
  line-put put p k e =
      let q = put-at at line now next put p k e in
      record {
        adds = λ ls before g.
            (let z : 0 + at ≡ at = omega arith in
            let behind : sets (sets before 0 (text ls)) at line ≡ sets before 0 (text ls ++ line)
            = rw z at (sets_behind 0 at (text ls) line before (sym g.end)) in
            let bytes : text (ls ++ (line ∷ [])) ≡ text ls ++ line
            = each_append (λ l. l) ls (line ∷ []) ∙ ap (λ (x : List ℕ). text ls ++ x) (append-nil line) in
            record {
              text = q.2 ∙ ap (λ (x : List ℕ). sets x at line) g.text ∙ behind ∙ ap (sets before 0) (sym bytes);
              end = omega (arith, q.1, g.end, ap length bytes, length-append (text ls) line);
              fits = omega (arith, q.0, q.1, size-kept ls before g);
            });
      }

  line-full : (put : Option ℕ) → columns.Wrote at line now put next → put ≡ None → Adds (line ∷ []) now next at (Err at)
  line-full put p e =
      let q = put-none at line now next put p e in
      record {
        adds = λ ls before g. record {
          done = ls;
          rest = line ∷ [];
          split = refl;
          written = rw q.1 g;
          stuck = λ more. none-whole (length before - at) line more (omega (arith, q.0, g.fits, size-kept ls before g));
        };
      }

  pub line-more : (put : Option ℕ) → columns.Wrote at line now put next → (r : Result ℕ ℕ) → r ≡ ok_or put at → Adds (line ∷ []) now next at r
  line-more (Some k) p r e = rw e (line-put (Some k) p k refl)
  line-more None p r e = rw e (line-full None p refl)

-- ---- the parts of a script

-- some compartments, and others behind them
besides-both : (k i m n : ℕ) → besides k i (m + n) ≡ besides k i m ++ besides k (i + m) n
unfolding besides
besides-both k i zero n =
    let y : 0 + n ≡ n = omega arith in
    let z : i + 0 ≡ i = omega arith in
    ap (besides k i) y ∙ ap (λ (j : ℕ). besides k j n) (sym z)
besides-both k i (suc m) n =
    let y : suc m + n ≡ suc (m + n) = omega arith in
    let z : suc i + m ≡ i + suc m = omega arith in
    ap (besides k i) y ∙ go (i =? k) (besides-both k (suc i) m n ∙ ap (λ (j : ℕ). besides k (suc i) m ++ besides k j n) z)
  where
    go : (b : Bool) → besides k (suc i) (m + n) ≡ besides k (suc i) m ++ besides k (i + suc m) n
        → (if b then besides k (suc i) (m + n) else i ∷ besides k (suc i) (m + n))
        ≡ (if b then besides k (suc i) m else i ∷ besides k (suc i) m) ++ besides k (i + suc m) n
    go true h = h
    go false h = ap (λ (l : List ℕ). i ∷ l) h

module _ (k allowance : ℕ) where
  pub others-none : other_lines k 0 0 allowance ≡ []
  unfolding other_lines besides
  others-none = refl

  others-both : (m n : ℕ) → other_lines k 0 m allowance ++ other_lines k m n allowance ≡ other_lines k 0 (m + n) allowance
  unfolding other_lines
  others-both m n =
      let z : 0 + m ≡ m = omega arith in
      sym (map-append (λ i. script_line 83 i (allowance ∷ [])) (besides k 0 m) (besides k m n))
      ∙ ap (map (λ i. script_line 83 i (allowance ∷ []))) (sym (besides-both k 0 m n ∙ ap (λ (j : ℕ). besides k 0 m ++ besides k j n) z))

  -- compartment j's line is put, or does not fit
  module _ (j : ℕ) (now mid next : List ℕ) (at v : ℕ) (r : Result ℕ ℕ) (a : Adds (other_lines k 0 j allowance) now mid at (Ok v))
      (b : Adds (other_lines k j 1 allowance) mid next v r) where
    pub others-more : Adds (other_lines k 0 (j + 1) allowance) now next at r
    others-more =
        subst (λ (ls : List (List ℕ)). Adds ls now next at r) (others-both j 1)
        (adds-both (other_lines k 0 j allowance) (other_lines k j 1 allowance) now mid at next v r a b)

    pub others-stop : j < 8 → (u : ℕ) → r ≡ Err u → Adds (other_lines k 0 8 allowance) now next at (Err u)
    others-stop l u e =
        let z : (j + 1) + (7 - j) ≡ 8 = omega arith in
        subst (λ (ls : List (List ℕ)). Adds ls now next at (Err u)) (others-both (j + 1) (7 - j) ∙ ap (λ (n : ℕ). other_lines k 0 n allowance) z)
        (adds-stop (other_lines k 0 (j + 1) allowance) (other_lines k (j + 1) (7 - j) allowance) now next at u
        (subst (Adds (other_lines k 0 (j + 1) allowance) now next at) e others-more))

  pub other-same : (j : ℕ) → j ≡ k → other_lines k j 1 allowance ≡ []
  unfolding other_lines besides
  other-same j e = simp (eq-eqb j k e)

  pub other-not : (j : ℕ) → (j ≡ k → ⊥) → other_lines k j 1 allowance ≡ script_line 83 j (allowance ∷ []) ∷ []
  unfolding other_lines besides
  other-not j e = simp (ne_eqb j k e)

module _ (k m : ℕ) where
  pub allow-same : m ≡ 128 → allow_lines k m ≡ []
  unfolding allow_lines allowing
  allow-same e = simp (eq-eqb m 128 e)

  pub allow-less : (m ≡ 128 → ⊥) → m < 128 → allow_lines k m ≡ script_line 83 k (m ∷ []) ∷ []
  unfolding allow_lines allowing
  allow-less e l = simp (ne_eqb m 128 e, lt-ltb m 128 l)

  map-lines : (js : List ℕ) (n : ℕ) → map (λ (p : ℕ × ℕ). script_line 83 p.0 (p.1 ∷ [])) (map (λ j. (j, n)) js) ≡ map (λ i. script_line 83 i (n ∷ [])) js
  map-lines [] n = refl
  map-lines (j ∷ js) n = ap (λ (l : List (List ℕ)). script_line 83 j (n ∷ []) ∷ l) (map-lines js n)

  pub allow-more : (m ≡ 128 → ⊥) → 128 ≤ m → allow_lines k m ≡ other_lines k 0 8 ((1024 - m) / 7) ++ (script_line 83 k (m ∷ []) ∷ [])
  unfolding allow_lines allowing other_lines
  allow-more e l =
      simp (ne_eqb m 128 e, le-ltb m 128 l)
      (map-append (λ (p : ℕ × ℕ). script_line 83 p.0 (p.1 ∷ [])) (map (λ j. (j, (1024 - m) / 7)) (besides k 0 8)) ((k, m) ∷ [])
      ∙ ap (λ (l : List (List ℕ)). l ++ (script_line 83 k (m ∷ []) ∷ [])) (map-lines (besides k 0 8) ((1024 - m) / 7)))

-- some adds are written, and the others are still to come
pub record Adding (k : ℕ) (ns : List ℕ) (c : PlanCursor) (before now : List ℕ) (at v : ℕ) : Type 0 where
  pub front : List MemoryPermission
  pub split : plan (wanted ns) ≡ front ++ plan_from ns c
  pub adds : Adds (add_lines k front) before now at (Ok v)

module _ (k : ℕ) (ns : List ℕ) (c : PlanCursor) where
  pub adding-start : (out : List ℕ) (at : ℕ) → plan_from ns c ≡ plan (wanted ns) → Adding k ns c out out at at
  unfolding add_lines
  adding-start out at e = record { front = []; split = sym e; adds = adds_none out at }

  module _ (before now : List ℕ) (at v : ℕ) (g : Adding k ns c before now at v) where
    module _ (p : MemoryPermission) (d : PlanCursor) (next : List ℕ) (r : Result ℕ ℕ) (e : plan_from ns c ≡ p ∷ plan_from ns d)
        (a : Adds (script_line 65 k (permission_group p) ∷ []) now next v r) where
      more-split : plan (wanted ns) ≡ (g.front ++ (p ∷ [])) ++ plan_from ns d
      more-split = g.split ∙ ap (λ (x : List MemoryPermission). g.front ++ x) e ∙ sym (append_assoc g.front (p ∷ []) (plan_from ns d))

      more-adds : Adds (add_lines k (g.front ++ (p ∷ []))) before next at r
      unfolding add_lines
      more-adds =
          rw (map-append (λ w. script_line 65 k (permission_group w)) g.front (p ∷ []))
          (adds-both (add_lines k g.front) (script_line 65 k (permission_group p) ∷ []) before now at next v r g.adds a)

      pub adding-more : (u : ℕ) → r ≡ Ok u → Adding k ns d before next at u
      adding-more u h = record { front = g.front ++ (p ∷ []); split = more-split; adds = subst (Adds (add_lines k (g.front ++ (p ∷ []))) before next at) h more-adds }

      pub adding-stop : (u : ℕ) → r ≡ Err u → Adds (add_lines k (plan (wanted ns))) before next at (Err u)
      unfolding add_lines
      adding-stop u h =
          let stop : Adds (add_lines k (g.front ++ (p ∷ []))) before next at (Err u) = subst (Adds (add_lines k (g.front ++ (p ∷ []))) before next at) h more-adds in
          rw (more-split, map-append (λ w. script_line 65 k (permission_group w)) (g.front ++ (p ∷ [])) (plan_from ns d))
          (adds-stop (add_lines k (g.front ++ (p ∷ []))) (add_lines k (plan_from ns d)) before next at u stop)

-- ---- whole answers

-- what is added to nothing
module _ (ls : List (List ℕ)) (out out' : List ℕ) (at : ℕ) where
  pub prints-all : Adds ls out out' 0 (Ok at) → PrintsLines ls out out' at
  prints-all a = all-written ls out out' at (a.adds [] out (none_written out))

  pub prints-some : Adds ls out out' 0 (Err at) → PrintsLines ls out out' at
  prints-some a = some-written ls out out' at (a.adds [] out (none_written out))

-- one line by itself
pub one-line : (line out out' : List ℕ) (put : Option ℕ) → columns.Wrote 0 line out put out' → (k : ℕ) → k ≡ unwrap_or put 0 → PrintsLines (line ∷ []) out out' k
one-line line out out' (Some k) p n e = rw e (prints-all (line ∷ []) out out' k (line-more line out out' 0 (Some k) p (Ok k) refl))
one-line line out out' None p n e = rw e (prints-some (line ∷ []) out out' 0 (line-more line out out' 0 None p (Err 0) refl))

-- a script: first the allowances, then the adds
module _ (k m : ℕ) (ns out mid out' : List ℕ) where
  pub script-both : (v : ℕ) (r : Result ℕ ℕ) → Adds (allow_lines k m) out mid 0 (Ok v) → Adds (add_lines k (plan (wanted ns))) mid out' v r
      → Adds (plan_lines k m (wanted ns)) out out' 0 r
  unfolding plan_lines allow_lines add_lines
  script-both v r a b = adds-both (allow_lines k m) (add_lines k (plan (wanted ns))) out mid 0 out' v r a b

  pub script-stop : (v : ℕ) → Adds (allow_lines k m) out mid 0 (Err v) → Adds (plan_lines k m (wanted ns)) out mid 0 (Err v)
  unfolding plan_lines allow_lines add_lines
  script-stop v a = adds-stop (allow_lines k m) (add_lines k (plan (wanted ns))) out mid 0 v a

-- what becomes of a wish that cannot be
pub wish-refused : (k m : ℕ) (ns out out' : List ℕ) (n : ℕ) (b : Bool) → b ≡ can_wish m ns → not b ≡ true
    → PrintsLines (answer_columns (refusal_number NoScript) 0 ∷ []) out out' n → PrintsLines (wish_lines k m (wish ns)) out out' n
unfolding answer_line
wish-refused k m ns out out' n b e d p = rw (sym e ∙ not-true b d) p

-- more ranges than any allowance
too_many : (m : ℕ) (ns : List ℕ) (n : ℕ) → length ns ≡ 3 * n → m < n → can_wish m ns ≡ false
unfolding can_wish can_be
too_many m ns n e l = simp (lt-leb (length (wanted ns)) m (omega (arith, length-wanted ns)), and-false)

-- what a compartment that there is not and an allowance that none can have are told: equations, so that plan_script's first two
-- answers are found whatever its tests are
module _ (k m : ℕ) (bytes : List ℕ) where
  pub nowhere_text : 8 ≤ k → plan_text k m bytes ≡ answer_columns (refusal_number NoCompartment) 0 ∷ []
  unfolding plan_text answer_line
  nowhere_text l = simp (le-ltb k 8 l)

  pub over_text : k < 8 → 1024 < m → plan_text k m bytes ≡ answer_columns (refusal_number PoolExceeded) 0 ∷ []
  unfolding plan_text answer_line
  over_text l h = simp (lt-ltb k 8 l, lt-leb m 1024 h)

pub ruleset refused_texts = (nowhere_text, over_text)

module _ (k m : ℕ) (bytes out out' : List ℕ) (n : ℕ) (l : k < 8) (h : m ≤ 1024) where
  pub asked : plan_text k m bytes ≡ wish_lines k m (wish_of bytes)
  unfolding plan_text
  asked = simp (lt-ltb k 8 l, le-leb m 1024 h)

  pub text-broken : (i : ℕ) → wish_of bytes ≡ broken i → PrintsLines (answer_columns (refusal_number Malformed) i ∷ []) out out' n
      → PrintsLines (plan_text k m bytes) out out' n
  text-broken i e p = rw (asked ∙ ap (wish_lines k m) e) p

  pub text-many : (slice : List ℕ) (i : ℕ) → Reads bytes slice i → 1024 < i → PrintsLines (answer_columns (refusal_number NoScript) 0 ∷ []) out out' n
      → PrintsLines (plan_text k m bytes) out out' n
  unfolding answer_line
  text-many slice i r o p = rw (asked ∙ ap (wish_lines k m) r.says, too_many m r.all i r.many (omega arith)) p

  pub text-wish : (slice : List ℕ) (i : ℕ) → Reads bytes slice i → 3 * i ≤ length slice → PrintsLines (wish_lines k m (wish (take (3 * i) slice))) out out' n
      → PrintsLines (plan_text k m bytes) out out' n
  text-wish slice i r o p = rw (asked ∙ ap (wish_lines k m) (r.says ∙ ap wish (sym (r.stored o)))) p
