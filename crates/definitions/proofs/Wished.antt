-- Document 02, order 13: the lines before the adds of a printed script give the compartment its allowance, and behind them the
-- script gives the wish.
use Rattle.std.specs.Prelude.{if◌then◌else◌}
use Prim.Native.Nat.{ℕ, zero, suc, ◌+◌, ◌-◌, ◌*◌, ◌/◌, ◌<◌, ◌≤◌}
use mathlib.Core.Path.{◌≡◌, refl, sym, ap, ◌∙◌, subst}
use mathlib.Core.Bool.{Bool, true, false}
use mathlib.Core.List.{List, [], ◌∷◌, ◌++◌, map, map-append}
use lib.ListN.{length, get_or, set, length-set, get_or-replicate}
use lib.Seq.{get_or-set_same, get_or-set_other}
use native.Mathlib.Omega.{arith}
use native.Mathlib.Decide.{ℕ_discrete, dec_lt}
use borrow.Author.Tests.{lt-ltb, le-ltb, le-leb, eq-eqb, ne_eqb, eqb-false}
use Rattle.definitions.specs.Tests.{◌=?◌, fits, all}
use Rattle.definitions.specs.Reckoning.{empty, compartment_of}
use Rattle.definitions.specs.Questions.{ask, accepted, in_use, on_allow}
use Rattle.definitions.specs.Calls.{State, start, compartment, allowance, together, others, answer_in, answer, allowed, next, after_from}
use Rattle.definitions.specs.Independence.{allows}
use Rattle.definitions.specs.Planner.{wanted, plan, adds, can_wish}
use Rattle.definitions.specs.Wishes.{besides, allowing, plan_calls}
use Rattle.definitions.specs.declared.call.Call.{Call}
use Rattle.definitions.specs.declared.call.Call.TheVariants.{Allow}
use Rattle.definitions.proofs.Reckoned.{next-allowed, start-empty, length-after_from, after_from-append}
use Rattle.definitions.proofs.Pool.{together-set, together_at}
use Rattle.definitions.proofs.TableLaws.{regions-nothing}
use Rattle.definitions.proofs.Bundles.{AllAccepted}
use Rattle.definitions.proofs.Independence.{compartments-kept}
use Rattle.definitions.proofs.Planned.{listed, planned-on-tables}

-- ---- setting allowances on empty tables

bare-none : (s : State) (j : ℕ) → s.compartments ≡ start.compartments → compartment s j ≡ empty
unfolding compartment
bare-none s j e = ap (λ cs. get_or cs j empty) e ∙ start-empty j

none-used : (s : State) (j : ℕ) → s.compartments ≡ start.compartments → in_use (compartment s j) ≡ 0
unfolding empty
none-used s j e = ap in_use (bare-none s j e) ∙ ap length regions-nothing

allow-taken : (s : State) (j n : ℕ) → j < 8 → s.compartments ≡ start.compartments → others s.allowances j + n ≤ 1024
    → accepted (answer s (Allow j n)) ≡ true
unfolding answer answer_in on_allow ask compartment_of
allow-taken s j n l e h =
    simp (lt-ltb j 8 l, le-leb (others s.allowances j + n) 1024 h, le-leb (in_use (compartment s j)) n (omega (arith, none-used s j e)))

module _ (s : State) (j n : ℕ) (taken : accepted (answer s (Allow j n)) ≡ true) where
  allow-left : (next s (Allow j n)).allowances ≡ set s.allowances j n
  unfolding allowed compartment_of
  allow-left = next-allowed s (Allow j n) taken

  allow-bare : (next s (Allow j n)).compartments ≡ s.compartments
  unfolding allows
  allow-bare = compartments-kept s (Allow j n) refl

-- empty tables, where the compartments from j on have the allowance that they had at first, and k too
record Fresh (k j : ℕ) (s : State) : Type 0 where
  bare : s.compartments ≡ start.compartments
  eight : length s.allowances ≡ 8
  sum : together s.allowances ≤ 1024
  later : (i : ℕ) → j ≤ i → i < 8 → get_or s.allowances i 0 ≡ 128
  own : get_or s.allowances k 0 ≡ 128

-- the others' allowances are lowered one by one
abbrev lowering : ℕ → List ℕ → List Call
lowering n js = map (λ i. Allow i n) js

record Lowered (k n : ℕ) (js : List ℕ) (s : State) : Type 0 where
  taken : AllAccepted s (lowering n js)
  left : Fresh k 8 (after_from s (lowering n js))
  less : together (after_from s (lowering n js)).allowances + length js * (128 - n) ≡ together s.allowances

module _ (k n : ℕ) (most : n ≤ 128) where
  lower-one : (j : ℕ) (js : List ℕ) (s : State) → j < 8 → (j ≡ k → ⊥) → Fresh k j s → ((t : State) → Fresh k (suc j) t → Lowered k n js t) → Lowered k n (j ∷ js) s
  unfolding after_from
  lower-one j js s l ne g later =
      let here : get_or s.allowances j 0 ≡ 128 = g.later j (omega arith) l in
      let whole : together s.allowances ≡ others s.allowances j + get_or s.allowances j 0 = together_at s.allowances j (omega (arith, g.eight)) in
      let ok : accepted (answer s (Allow j n)) ≡ true = allow-taken s j n l g.bare (omega (arith, g.sum)) in
      let t : State = next s (Allow j n) in
      let now : t.allowances ≡ set s.allowances j n = allow-left s j n ok in
      let sum-now : together t.allowances ≡ others s.allowances j + n = ap together now ∙ together-set s.allowances j n (omega (arith, g.eight)) in
      let r = later t (record {
        bare = allow-bare s j n ok ∙ g.bare;
        eight = ap length now ∙ simp length-set g.eight;
        sum = omega (arith, g.sum);
        later = λ i from small. ap (λ ms. get_or ms i 0) now ∙ get_or-set_other s.allowances j i n 0 (λ z. omega arith) ∙ g.later i (omega arith) small;
        own = ap (λ ms. get_or ms k 0) now ∙ get_or-set_other s.allowances j k n 0 (λ z. ne (sym z)) ∙ g.own;
      }) in
      record {
        taken = (ok, r.taken);
        left = r.left;
        less = omega (arith, r.less);
      }

  lower-all : (cnt j : ℕ) (s : State) → j + cnt ≡ 8 → Fresh k j s → Lowered k n (besides k j cnt) s
  unfolding besides after_from
  lower-all zero j s e g = record {
    taken = tt;
    left = record { bare = g.bare; eight = g.eight; sum = g.sum; later = λ i from small. absurd (omega arith); own = g.own };
    less = omega arith;
  }
  lower-all (suc cnt) j s e g = go (j =? k) refl (λ t f. lower-all cnt (suc j) t (omega arith) f)
    where
      go : (b : Bool) → (j =? k) ≡ b → ((t : State) → Fresh k (suc j) t → Lowered k n (besides k (suc j) cnt) t)
          → Lowered k n (if b then besides k (suc j) cnt else j ∷ besides k (suc j) cnt) s
      go true d ih = ih s (record { bare = g.bare; eight = g.eight; sum = g.sum; later = λ i from small. g.later i (omega arith) small; own = g.own })
      go false d ih = lower-one j (besides k (suc j) cnt) s (omega arith) (eqb-false j k d) g ih

-- there are seven others
besides-behind : (k cnt j : ℕ) → k < j → length (besides k j cnt) ≡ cnt
unfolding besides
besides-behind k zero j l = refl
besides-behind k (suc cnt) j l = simp (ne_eqb j k (λ z. omega arith)) (ap suc (besides-behind k cnt (suc j) (omega arith)))

besides-length : (k cnt j : ℕ) → j ≤ k → k < j + cnt → length (besides k j cnt) + 1 ≡ cnt
unfolding besides
besides-length k zero j l h = absurd (omega arith)
besides-length k (suc cnt) j l h =
    elim (ℕ_discrete j k) [
      | yes e ↦ simp (eq-eqb j k e) (omega (arith, besides-behind k cnt (suc j) (omega arith)))
      | no e ↦ simp (ne_eqb j k e) (omega (arith, besides-length k cnt (suc j) (omega arith) (omega arith)))
    ]

-- ---- what the lines before the adds leave

pub record Allowed (k m : ℕ) (s : State) (calls : List Call) : Type 0 where
  pub taken : AllAccepted s calls
  pub none : compartment (after_from s calls) k ≡ empty
  pub may : allowance (after_from s calls) k ≡ m

eight-first : length start.compartments ≡ 8
unfolding start
eight-first = refl

first-sum : together start.allowances ≡ 1024
unfolding start together
first-sum = refl

first-is : (i : ℕ) → i < 8 → get_or start.allowances i 0 ≡ 128
unfolding start
first-is i l = get_or-replicate 8 i 128 0 l

start-fresh : (k : ℕ) → k < 8 → Fresh k 0 start
unfolding start
start-fresh k l = record { bare = refl; eight = refl; sum = omega (arith, first-sum); later = λ i from small. first-is i small; own = first-is k l }

both-accepted : (xs ys : List Call) (s : State) → AllAccepted s xs → AllAccepted (after_from s xs) ys → AllAccepted s (xs ++ ys)
unfolding after_from
both-accepted [] ys s p q = q
both-accepted (x ∷ xs) ys s p q = (p.0, both-accepted xs ys (next s x) p.1 q)

-- the compartment's own, last
own-last : (k m : ℕ) (s : State) → k < 8 → Fresh k 8 s → others s.allowances k + m ≤ 1024 → Allowed k m s (Allow k m ∷ [])
unfolding after_from allowance
own-last k m s l g h =
    let ok : accepted (answer s (Allow k m)) ≡ true = allow-taken s k m l g.bare h in
    record {
      taken = (ok, tt);
      none = bare-none (next s (Allow k m)) k (allow-bare s k m ok ∙ g.bare);
      may = ap (λ ms. get_or ms k 0) (allow-left s k m ok) ∙ get_or-set_same s.allowances k m 0 (omega (arith, g.eight));
    }

abbrev pub allow_calls : ℕ → ℕ → List Call
allow_calls k m = map (λ p. Allow p.0 p.1) (allowing k m)

lower-calls : (js : List ℕ) (n : ℕ) → map (λ (p : ℕ × ℕ). Allow p.0 p.1) (map (λ j. (j, n)) js) ≡ lowering n js
lower-calls [] n = refl
lower-calls (j ∷ js) n = ap (λ l. Allow j n ∷ l) (lower-calls js n)

module _ (k m : ℕ) (l : k < 8) (h : m ≤ 1024) where
  others-first : others start.allowances k ≡ 896
  others-first =
      let g = start-fresh k l in
      omega (arith, first-sum, together_at start.allowances k (omega (arith, g.eight)), g.own)

  -- nothing is to be set
  as_first : Allowed k 128 start []
  unfolding after_from allowance
  as_first = record { taken = tt; none = start-empty k; may = (start-fresh k l).own }

  last-8 : Fresh k 8 start
  last-8 = let g = start-fresh k l in record { bare = g.bare; eight = g.eight; sum = g.sum; later = λ i from small. absurd (omega arith); own = g.own }

  -- the others first
  after-others : 128 ≤ m → Allowed k m start (lowering ((1024 - m) / 7) (besides k 0 8) ++ (Allow k m ∷ []))
  after-others more =
      let n : ℕ = (1024 - m) / 7 in
      let small : n ≤ 128 = omega arith in
      let r = lower-all k n small 8 0 start refl (start-fresh k l) in
      let js : List ℕ = besides k 0 8 in
      let t : State = after_from start (lowering n js) in
      let seven : length js ≡ 7 = omega (arith, besides-length k 8 0 (omega arith) (omega arith)) in
      let sum : together t.allowances + 7 * (128 - n) ≡ together start.allowances = rw seven at r.less in
      let whole : together t.allowances ≡ others t.allowances k + get_or t.allowances k 0 = together_at t.allowances k (omega (arith, r.left.eight)) in
      let q = own-last k m t l r.left (omega (arith, first-sum, r.left.own)) in
      let joined : after_from start (lowering n js ++ (Allow k m ∷ [])) ≡ after_from t (Allow k m ∷ []) = after_from-append (lowering n js) (Allow k m ∷ []) start in
      record {
        taken = both-accepted (lowering n js) (Allow k m ∷ []) start r.taken q.taken;
        none = ap (λ u. compartment u k) joined ∙ q.none;
        may = ap (λ u. allowance u k) joined ∙ q.may;
      }

  pub allowed-so : Allowed k m start (allow_calls k m)
  unfolding allowing
  allowed-so =
      elim (ℕ_discrete m 128) [
        | yes e ↦ simp (eq-eqb m 128 e) (subst (λ n. Allowed k n start []) (sym e) as_first)
        | no e ↦ elim (dec_lt m 128) [
          | yes less ↦ simp (ne_eqb m 128 e, lt-ltb m 128 less) (own-last k m start l last-8 (omega (arith, others-first)))
          | no more ↦ simp (ne_eqb m 128 e, le-ltb m 128 (omega arith))
              (subst (Allowed k m start)
              (sym (map-append (λ (p : ℕ × ℕ). Allow p.0 p.1) (map (λ j. (j, (1024 - m) / 7)) (besides k 0 8)) ((k, m) ∷ [])
              ∙ ap (λ cs. cs ++ (Allow k m ∷ [])) (lower-calls (besides k 0 8) ((1024 - m) / 7))))
              (after-others (omega arith)))
        ]
      ]

  -- ---- the whole script, on empty tables

  -- every call is accepted, the compartment has the allowance, and its permission list is the wish
  pub record Scripted (ns : List ℕ) (calls : List Call) : Type 0 where
    pub taken : AllAccepted start calls
    pub may : allowance (after_from start (allow_calls k m)) k ≡ m
    pub yields : listed (compartment (after_from start calls) k) ≡ ns

  pub script-yields : (ns : List ℕ) → all fits ns ≡ true → can_wish m ns ≡ true → Scripted ns (plan_calls k m (wanted ns))
  unfolding plan_calls
  script-yields ns b can =
      let a = allowed-so in
      let s : State = after_from start (allow_calls k m) in
      let ready : can_wish (allowance s k) ns ≡ true = rw a.may can in
      let z = planned-on-tables s (length-after_from (allow_calls k m) start ∙ eight-first) k l a.none ns b ready in
      record {
        taken = both-accepted (allow_calls k m) (adds k (plan (wanted ns))) start a.taken z.0;
        may = a.may;
        yields = ap (λ u. listed (compartment u k)) (after_from-append (allow_calls k m) (adds k (plan (wanted ns))) start) ∙ z.1;
      }
