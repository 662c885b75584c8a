-- Document 02, order 13: a list of permissions is given by some script of accepted adds and removes from the empty compartment,
-- under an allowance, exactly if it can be; and then the planned adds give it.
use Rattle.std.specs.Prelude.{if◌then◌else◌}
use Prim.Native.Nat.{ℕ, zero, suc, ◌+◌, ◌*◌, ◌/◌, ◌%◌, ◌^◌, ◌<◌, ◌≤◌}
use mathlib.Core.Path.{◌≡◌, refl, sym, ap, ap₂, ◌∙◌, subst}
use mathlib.Core.Bool.{Bool, true, false, true≢false, not, ◌&&◌, ◌||◌}
use mathlib.Core.List.{List, [], ◌∷◌, ◌++◌, map}
use lib.ListN.{length, length-map}
use native.Mathlib.Omega.{arith}
use borrow.Author.Tests.{ltb-true, ltb-false, leb-true, lt-ltb, le-ltb, le-leb, eqb-true, eqb-false, eq-eqb}
use Rattle.definitions.specs.Tests.{◌<?◌, ◌≤?◌, ◌=?◌, inside, bit, fits, host, all, total, each}
use Rattle.definitions.specs.Rights.{Right, READ, WRITE, EXEC, SUPER, UNCACHEABLE, DEVICE, flag, RIGHTS, named, count_of}
use Rattle.definitions.specs.Values.{nothing, held, raise, rights_of, changed_in}
use Rattle.definitions.specs.Regions.{region, has, same, joins, regions, permission_of, unheld_in, new_records}
use Rattle.definitions.specs.Reckoning.{Compartment, empty, with_values, reckon, compartment_of}
use Rattle.definitions.specs.Pages.{permission_group, page}
use Rattle.definitions.specs.Questions.{ask, number_of, accepted, every_named, can_raise, on_add}
use Rattle.definitions.specs.Calls.{State, compartment, allowance, answer_in, answer, next, after_from}
use Rattle.definitions.specs.Independence.{allows}
use Rattle.definitions.specs.Planner.{wanted, finished, touches, plan_after, plan, adds, apart, can_be, can_wish, plan_groups, on_plan, plan_filled, plan_answer, plan_left, changes, all_taken, reckon_all, Gives, Grants}
use Rattle.definitions.specs.declared.addr.HostAddr.{HostAddr}
use Rattle.definitions.specs.declared.region.Values.{Values}
use Rattle.definitions.specs.declared.region.Region.{Region}
use Rattle.definitions.specs.declared.region.MemoryPermission.{MemoryPermission}
use Rattle.definitions.specs.declared.answer.Refusal.TheVariants.{NoCompartment, NoScript}
use Rattle.std.specs.Prelude.{Ok, Err}
use Rattle.definitions.specs.declared.call.Call.{Call}
use Rattle.definitions.specs.declared.call.Call.TheVariants.{Add, Remove, Refcount, Overlaps, Map, Unmap, UnmapGpa, Permissions, Remap, Mappings, Allow}
use Rattle.definitions.proofs.Bools.{Where, inn, low, high, where?, in-true, in-high, or-true, both}
use Rattle.definitions.proofs.RightLaws.{all_true, count-made, named-bit, bit-small, same-eq}
use Rattle.definitions.proofs.Lists.{values_at, Ordered, AllHeld, Ends, Longest, Runs, Blank}
use Rattle.definitions.proofs.RegionLaws.{nothing-below}
use Rattle.definitions.proofs.RunLaws.{EndBy, table_is, below_end, regions-below, regions-runs, regions-ext}
use Rattle.definitions.proofs.ChangeLaws.{raise-held}
use Rattle.definitions.proofs.RegionsAre.{raised-blank, added_is}
use Rattle.definitions.proofs.PeakLaws.{hole, gaps, unheld-gaps, length-added, peak-grows}
use Rattle.definitions.proofs.AddressLaws.{raise-nothing}
use Rattle.definitions.proofs.Passed.{asked, ranged-asked}
use Rattle.definitions.proofs.Reckoned.{next-at, length-next}
use Rattle.definitions.proofs.Stored.{Stored, call-stored, empty-stored}
use Rattle.definitions.proofs.Pool.{call_fits, no-split}
use Rattle.definitions.proofs.TableLaws.{regions-nothing}
use Rattle.definitions.proofs.Bundles.{AllAccepted}
use Rattle.definitions.proofs.Independence.{alone, others-leave, own-answer, allowance-kept}
use Rattle.definitions.proofs.Loan.{each-address, peak-back}

-- ---- the rights of what was added

total_ext : {A : Type 0} (f g : A → ℕ) → ((x : A) → f x ≡ g x) → (xs : List A) → total f xs ≡ total g xs
total_ext f g h [] = refl
total_ext f g h (x ∷ xs) = ap₂ ◌+◌ (h x) (total_ext f g h xs)

-- below 64 the rights are the sum of the named ones: half by half
sum-halves : (r p q s t u a b c d e : ℕ) → r ≡ 2 * p + a → p ≡ 2 * q + b → q ≡ 2 * s + c → s ≡ 2 * t + d → t ≡ 2 * u + e
    → 1 * a + (2 * b + (4 * c + (8 * d + (16 * e + (32 * u + 0))))) ≡ r
sum-halves r p q s t u a b c d e f g h i j = omega arith

rights-sum : (r : ℕ) → r < 64 → total (λ t. flag t * named t r) RIGHTS ≡ r
unfolding RIGHTS named
rights-sum r l =
    let top : r / 32 % 2 ≡ r / 32 = omega arith in
    rw top (sum-halves r (r / 2) (r / 4) (r / 8) (r / 16) (r / 32) (r / 1 % 2) (r / 2 % 2) (r / 4 % 2) (r / 8 % 2) (r / 16 % 2)
    (omega arith) (omega arith) (omega arith) (omega arith) (omega arith))

rights-small : (v : Values) → (rights_of v).0 < 64
unfolding rights_of RIGHTS
rights-small v =
    omega (
      arith,
      bit-small (0 <? count_of READ v),
      bit-small (0 <? count_of WRITE v),
      bit-small (0 <? count_of EXEC v),
      bit-small (0 <? count_of SUPER v),
      bit-small (0 <? count_of UNCACHEABLE v),
      bit-small (0 <? count_of DEVICE v),
    )

-- values whose counts are above 0 just for the named rights
rights-back : (r : ℕ) (v : Values) → r < 64 → ((t : Right) → bit (0 <? count_of t v) ≡ named t r) → (rights_of v).0 ≡ r
unfolding rights_of
rights-back r v l h = total_ext _ (λ t. flag t * named t r) (λ t. ap (λ n. flag t * n) (h t)) RIGHTS ∙ rights-sum r l

-- what one add, and two, of the rights leave on an address that nobody held
unfoldable times : Bool → ℕ → Values
times true r = raise r nothing
times false r = raise r (raise r nothing)

bit-above : (n m : ℕ) → n < 2 → n ≤ m → m ≤ 2 * n → bit (0 <? m) ≡ n
bit-above zero m l p q = rw (le-ltb 0 m (omega arith))
bit-above (suc n) m l p q = rw (lt-ltb 0 m (omega arith)) (omega arith)

raise-count : (r : ℕ) (v : Values) (t : Right) → count_of t (raise r v) ≡ count_of t v + named t r
unfolding raise
raise-count r v t = count-made (v.refcount + 1) (λ t. count_of t v + named t r) t

none-count : (t : Right) → count_of t nothing ≡ 0
unfolding nothing
none-count t = count-made 0 (λ t. 0) t

times-rights : (once : Bool) (r : ℕ) → r < 64 → (rights_of (times once r)).0 ≡ r
unfolding times
times-rights true r l =
    rights-back r (raise r nothing) l (λ t.
    let e : count_of t (raise r nothing) ≡ named t r = omega (arith, raise-count r nothing t, none-count t) in
    bit-above (named t r) (count_of t (raise r nothing)) (named-bit t r) (omega arith) (omega arith))
times-rights false r l =
    rights-back r (raise r (raise r nothing)) l (λ t.
    let e : count_of t (raise r (raise r nothing)) ≡ named t r + named t r =
    omega (arith, raise-count r (raise r nothing) t, raise-count r nothing t, none-count t) in
    bit-above (named t r) (count_of t (raise r (raise r nothing))) (named-bit t r) (omega arith) (omega arith))

-- ---- every script: what it leaves can be

is-apart : (lo : ℕ) (rs : List Region) → Ordered lo rs → apart lo (map permission_of rs) ≡ true
unfolding apart permission_of
is-apart lo [] o = refl
is-apart lo (r ∷ rs) o =
    simp (le-leb lo r.start.0 o.0, lt-ltb r.start.0 r.end.0 o.1, lt-ltb (rights_of r.values).0 64 (rights-small r.values))
    (is-apart r.end.0 rs o.2)

-- adds and removes are not S, and leave the allowance
not-allows : (call : Call) → changes call ≡ true → allows call ≡ false
unfolding changes allows
not-allows (Add k a e r) h = refl
not-allows (Remove k a e r) h = refl
not-allows (Map k p g n t) h = refl
not-allows (Unmap k p n) h = refl
not-allows (UnmapGpa k g n) h = refl
not-allows (Refcount k a e) h = refl
not-allows (Overlaps k g n) h = refl
not-allows (Permissions k i n) h = refl
not-allows (Remap k i n) h = refl
not-allows (Mappings k) h = refl
not-allows (Allow k n) h = sym h

module _ (allowance : ℕ) where
  few-left : (calls : List Call) (c : Compartment) → Stored c → length (regions c.values) ≤ allowance → all_taken allowance c calls ≡ true
      → length (regions (reckon_all c calls).values) ≤ allowance
  unfolding all_taken reckon_all
  few-left [] c s l h = l
  few-left (call ∷ calls) c s l h =
      let p = both (changes call && accepted (answer_in 0 allowance c call)) (all_taken allowance (reckon call c) calls) h in
      let q = both (changes call) (accepted (answer_in 0 allowance c call)) p.0 in
      few-left calls (reckon call c) (call-stored 0 allowance c call s q.1)
      (omega (arith, call_fits 0 allowance c call l s.blank q.1, others-leave allowance call (not-allows call q.0)))
      p.1

  -- what any script gives can be
  pub given : (calls : List Call) (ws : List MemoryPermission) → Gives allowance calls ws → can_be allowance ws ≡ true
  unfolding can_be empty
  given calls ws g =
      let rs = regions (reckon_all empty calls).values in
      let n : length rs ≤ allowance = few-left calls empty empty-stored (omega (arith, none_yet)) g.taken in
      subst (λ (vs : List MemoryPermission). can_be allowance vs ≡ true) g.yields
      (simp (is-apart 0 rs (regions-runs (reckon_all empty calls).values).ordered, le-leb (length (map permission_of rs)) allowance (omega (arith, length-map rs permission_of))))
    where
      none_yet : length (regions empty.values) ≡ 0
      none_yet = ap length regions-nothing

-- ---- one add behind all others, and the same add again

-- question 4 of an address
abbrev room_for : ℕ → Values → Bool
room_for r v = (v.refcount <? 65535) && every_named (λ n. n <? 65535) r v

one-holder : (r : ℕ) → (raise r nothing).refcount < 65535
unfolding raise nothing
one-holder r = omega arith

once-room : (r : ℕ) → room_for r (raise r nothing) ≡ true
unfolding every_named
once-room r =
    rw (lt-ltb (raise r nothing).refcount 65535 (one-holder r))
    (all_true (λ t. (named t r =? 0) || (count_of t (raise r nothing) <? 65535))
    (λ t. simp (lt-ltb (count_of t (raise r nothing)) 65535 (omega (arith, raise-count r nothing t, none-count t, named-bit t r)), or-true)) RIGHTS)

module _ (a e : HostAddr) (l : a.0 < e.0) (h : e.0 ≤ 2 ^ 64) where
  one-gap : (rs : List Region) → EndBy a.0 rs → length (gaps a e rs) ≤ 1
  unfolding gaps hole
  one-gap [] b = rw (lt-ltb a.0 e.0 l) (omega arith)
  one-gap (r ∷ rs) b = simp (le-leb r.end.0 a.0 b.0) (one-gap rs b.1)

  module _ (f : HostAddr → Values) (b : Blank f) where
    -- with nothing held from its start on, an add needs one record
    first-new : ((x : HostAddr) → a.0 ≤ x.0 → f x ≡ nothing) → new_records a e f ≤ 1
    unfolding new_records
    first-new z =
        let ends : EndBy a.0 (regions f) = rw (regions-below f b a.0 (omega arith) z) (below_end f a.0) in
        omega (
          arith,
          ap bit (no-split a.0 a (regions f) (omega arith) ends),
          ap bit (no-split a.0 e (regions f) (omega arith) ends),
          ap length (unheld-gaps a e f h b),
          one-gap (regions f) ends,
        )

    module _ (r : ℕ) where
      none-unheld : regions (unheld_in a e (changed_in (raise r) a e f)) ≡ []
      unfolding unheld_in changed_in
      none-unheld = regions-ext (unheld_in a e (changed_in (raise r) a e f)) (λ x. nothing) (λ x s. go x (inside a.0 e.0 x.0) refl) ∙ regions-nothing
        where
          go : (x : HostAddr) (t : Bool) → inside a.0 e.0 x.0 ≡ t → unheld_in a e (changed_in (raise r) a e f) x ≡ nothing
          go x true d = simp (d, raise-held r (f x))
          go x false d = simp d

      -- the same again needs no more at its peak than the first did
      again-new : length (regions (changed_in (raise r) a e f)) + new_records a e (changed_in (raise r) a e f) ≤ length (regions f) + new_records a e f
      unfolding new_records
      again-new = omega (arith, ap length none-unheld, peak-back a e l r f h b)

      grown : length (regions (changed_in (raise r) a e f)) ≤ length (regions f) + new_records a e f
      grown = omega (arith, ap length (added_is a e r f b h), length-added a e r (regions f), peak-grows a e f l h b)

-- ---- ranges that are in turn

-- the ends are 64-bit numbers
abbrev pub EndsBy : ℕ → List MemoryPermission → Type 0
EndsBy n [] = Unit {0}
EndsBy n (w ∷ ws) = (w.end.0 ≤ n) × EndsBy n ws

-- those of a list of 64-bit numbers are
pub wanted-ends : (ns : List ℕ) → all fits ns ≡ true → EndsBy (2 ^ 64) (wanted ns)
unfolding wanted host fits
wanted-ends [] h = tt
wanted-ends (a ∷ []) h = tt
wanted-ends (a ∷ e ∷ []) h = tt
wanted-ends (a ∷ e ∷ r ∷ ns) h =
    let p = both (fits a) (all fits (e ∷ r ∷ ns)) h in
    let q = both (fits e) (all fits (r ∷ ns)) p.1 in
    let t = both (fits r) (all fits ns) q.1 in
    (omega (arith, ltb-true e (2 ^ 64) q.0), wanted-ends ns t.1)

-- a range that is in turn
record Turn (lo : ℕ) (w : MemoryPermission) (ws : List MemoryPermission) : Type 0 where
  after : lo ≤ w.start.0
  some : w.start.0 < w.end.0
  rights : w.ops.0 < 64
  later : apart w.end.0 ws ≡ true

turn : (lo : ℕ) (w : MemoryPermission) (ws : List MemoryPermission) → apart lo (w ∷ ws) ≡ true → Turn lo w ws
unfolding apart
turn lo w ws h =
    let p = both ((lo ≤? w.start.0) && (w.start.0 <? w.end.0) && (w.ops.0 <? 64)) (apart w.end.0 ws) h in
    let q = both ((lo ≤? w.start.0) && (w.start.0 <? w.end.0)) (w.ops.0 <? 64) p.0 in
    let r = both (lo ≤? w.start.0) (w.start.0 <? w.end.0) q.0 in
    record {
      after = leb-true lo w.start.0 r.0;
      some = ltb-true w.start.0 w.end.0 r.1;
      rights = ltb-true w.ops.0 64 q.1;
      later = p.1;
    }

-- ---- the records that the planned adds leave

abbrev record_of : Bool → MemoryPermission → Region
record_of once w = region w.start w.end (times once w.ops.0)

plan_records : MemoryPermission → Bool → List MemoryPermission → List Region
plan_records p once [] = []
plan_records p once (w ∷ ws) = record_of (not (once && touches p w)) w ∷ plan_records w (not (once && touches p w)) ws

records-ordered : (ws : List MemoryPermission) (p : MemoryPermission) (once : Bool) (lo : ℕ) → apart lo ws ≡ true → Ordered lo (plan_records p once ws)
unfolding plan_records region
records-ordered [] p once lo t = tt
records-ordered (w ∷ ws) p once lo t =
    let u = turn lo w ws t in (u.after, u.some, records-ordered ws w (not (once && touches p w)) w.end.0 u.later)

times-held : (once : Bool) (r : ℕ) → held (times once r) ≡ true
unfolding times
times-held true r = raise-held r nothing
times-held false r = raise-held r (raise r nothing)

records-full : (ws : List MemoryPermission) (p : MemoryPermission) (once : Bool) → AllHeld (plan_records p once ws)
unfolding plan_records region
records-full [] p once = tt
records-full (w ∷ ws) p once = (times-held (not (once && touches p w)) w.ops.0, records-full ws w (not (once && touches p w)))

-- values that differ in holders or rights are not the same
same_not : (v w : Values) → (v ≡ w → ⊥) → same v w ≡ false
same_not v w h = go (same v w) refl
  where
    go : (t : Bool) → same v w ≡ t → same v w ≡ false
    go true d = absurd (h (same-eq v w d))
    go false d = d

holders-differ : (r s : ℕ) → raise r nothing ≡ raise s (raise s nothing) → ⊥
unfolding raise nothing
holders-differ r s e = let z : ◌≡◌ {A = ℕ} 1 2 = ap (λ v. v.refcount) e in omega arith

times-differ : (once : Bool) (r s : ℕ) → r < 64 → s < 64 → times once r ≡ times (not (once && (r =? s))) s → ⊥
unfolding times
times-differ false r s i j e = holders-differ s r (sym e)
times-differ true r s i j e = go (r =? s) refl e
  where
    go : (t : Bool) → (r =? s) ≡ t → raise r nothing ≡ times (not t) s → ⊥
    go true d f = holders-differ r s f
    go false d f =
        eqb-false r s d (sym (times-rights true r i) ∙ ap (λ v. (rights_of v).0) f ∙ times-rights true s j)

-- neighbours are not joined
record-ends : (once : Bool) (p : MemoryPermission) (ws : List MemoryPermission) → p.ops.0 < 64 → apart p.end.0 ws ≡ true
    → Ends (record_of once p) (plan_records p once ws)
unfolding plan_records region joins touches
record-ends once p [] l t = tt
record-ends once p (w ∷ ws) l t = go (p.end.0 =? w.start.0) refl
  where
    u : Turn p.end.0 w ws
    u = turn p.end.0 w ws t

    go : (b : Bool) → (p.end.0 =? w.start.0) ≡ b
        → ((p.end.0 =? w.start.0) && same (times once p.ops.0) (times (not (once && ((p.end.0 =? w.start.0) && (p.ops.0 =? w.ops.0)))) w.ops.0)) ≡ false
    go true d = simp d (same_not (times once p.ops.0) _ (times-differ once p.ops.0 w.ops.0 l u.rights))
    go false d = simp d

records-longest : (ws : List MemoryPermission) (p : MemoryPermission) (once : Bool) (lo : ℕ) → apart lo ws ≡ true → Longest (plan_records p once ws)
unfolding plan_records
records-longest [] p once lo t = tt
records-longest (w ∷ ws) p once lo t =
    let u = turn lo w ws t in
    (record-ends (not (once && touches p w)) w ws u.rights u.later, records-longest ws w (not (once && touches p w)) w.end.0 u.later)

-- they are the permissions that are wanted
permissions-are : (ws : List MemoryPermission) (p : MemoryPermission) (once : Bool) (lo : ℕ) → apart lo ws ≡ true → map permission_of (plan_records p once ws) ≡ ws
unfolding plan_records region permission_of
permissions-are [] p once lo t = refl
permissions-are (w ∷ ws) p once lo t =
    let u = turn lo w ws t in
    let r = times-rights (not (once && touches p w)) w.ops.0 u.rights in
    let q = permissions-are ws w (not (once && touches p w)) w.end.0 u.later in
    λ i. record { start = w.start; end = w.end; ops = record { 0 = r i } } ∷ q i

-- no region behind 2 ^ 64
records-end : (n : ℕ) (ws : List MemoryPermission) (p : MemoryPermission) (once : Bool) → EndsBy n ws → (x : HostAddr) → n ≤ x.0 → values_at (plan_records p once ws) x ≡ nothing
unfolding plan_records values_at has region
records-end n [] p once e x l = refl
records-end n (w ∷ ws) p once e x l =
    simp (in-high w.start.0 w.end.0 x.0 (omega arith)) (records-end n ws w (not (once && touches p w)) e.1 x l)

-- ---- the values that the planned adds leave

module _ (k : ℕ) (lo : ℕ) (w : MemoryPermission) (ws : List MemoryPermission) (t : Turn lo w ws) (c : Compartment)
    (free : (x : HostAddr) → lo ≤ x.0 → c.values x ≡ nothing) (x : HostAddr) where
  one : Call
  one = Add k w.start w.end w.ops.0

  free_in : (b : Bool) → inside w.start.0 w.end.0 x.0 ≡ b → b ≡ true → c.values x ≡ nothing
  free_in b d f = go (where? w.start.0 w.end.0 x.0)
    where
      go : Where w.start.0 w.end.0 x.0 → c.values x ≡ nothing
      go (inn g i j) = free x (omega (arith, t.after))
      go (low g i) = absurd (true≢false (sym f ∙ sym d ∙ g))
      go (high g i j) = absurd (true≢false (sym f ∙ sym d ∙ g))

  once-values : (reckon one c).values x ≡ (if inside w.start.0 w.end.0 x.0 then times true w.ops.0 else c.values x)
  unfolding one reckon with_values changed_in times
  once-values = go (inside w.start.0 w.end.0 x.0) refl
    where
      go : (b : Bool) → inside w.start.0 w.end.0 x.0 ≡ b
          → (if b then raise w.ops.0 (c.values x) else c.values x) ≡ (if b then raise w.ops.0 nothing else c.values x)
      go true d = ap (raise w.ops.0) (free_in true d refl)
      go false d = refl

  twice-values : (reckon one (reckon one c)).values x ≡ (if inside w.start.0 w.end.0 x.0 then times false w.ops.0 else c.values x)
  unfolding one reckon with_values changed_in times
  twice-values = go (inside w.start.0 w.end.0 x.0) refl
    where
      go : (b : Bool) → inside w.start.0 w.end.0 x.0 ≡ b
          → (if b then raise w.ops.0 (if b then raise w.ops.0 (c.values x) else c.values x) else (if b then raise w.ops.0 (c.values x) else c.values x))
          ≡ (if b then raise w.ops.0 (raise w.ops.0 nothing) else c.values x)
      go true d = ap (λ v. raise w.ops.0 (raise w.ops.0 v)) (free_in true d refl)
      go false d = refl

  -- a range in front of the rest
  front-values : (d v rest : Values) → (x.0 < w.end.0 → rest ≡ nothing) → d ≡ (if inside w.start.0 w.end.0 x.0 then v else c.values x)
      → (if x.0 <? w.end.0 then d else rest) ≡ (if x.0 <? lo then c.values x else (if inside w.start.0 w.end.0 x.0 then v else rest))
  front-values d v rest z e = go (where? w.start.0 w.end.0 x.0) (x.0 <? lo) refl e
    where
      a≤ : lo ≤ w.start.0
      a≤ = t.after

      some : w.start.0 < w.end.0
      some = t.some

      go : Where w.start.0 w.end.0 x.0 → (b : Bool) → (x.0 <? lo) ≡ b → d ≡ (if inside w.start.0 w.end.0 x.0 then v else c.values x)
          → (if x.0 <? w.end.0 then d else rest) ≡ (if x.0 <? lo then c.values x else (if inside w.start.0 w.end.0 x.0 then v else rest))
      go (inn f i j) b g e = simp (lt-ltb x.0 w.end.0 j, le-ltb x.0 lo (omega (arith, a≤)), f) (simp f at e)
      go (low f i) true g e = simp (lt-ltb x.0 w.end.0 (omega (arith, some)), g) (simp f at e)
      go (low f i) false g e =
          let s : x.0 < w.end.0 = omega (arith, some) in
          simp (lt-ltb x.0 w.end.0 s, g, f) ((simp f at e) ∙ free x (ltb-false x.0 lo g) ∙ sym (z s))
      go (high f i j) b g e = simp (le-ltb x.0 w.end.0 j, le-ltb x.0 lo (omega (arith, a≤, some)), f)

  -- nothing is held from the end on
  once-free : (y : HostAddr) → w.end.0 ≤ y.0 → (reckon one c).values y ≡ nothing
  unfolding one reckon with_values changed_in
  once-free y i = simp (in-high w.start.0 w.end.0 y.0 i) (free y (omega (arith, t.after, t.some)))

  twice-free : (y : HostAddr) → w.end.0 ≤ y.0 → (reckon one (reckon one c)).values y ≡ nothing
  unfolding one reckon with_values changed_in
  twice-free y i = simp (in-high w.start.0 w.end.0 y.0 i) (free y (omega (arith, t.after, t.some)))

plan-values : (k : ℕ) (ws : List MemoryPermission) (p : MemoryPermission) (once : Bool) (lo : ℕ) (c : Compartment)
    → ((x : HostAddr) → lo ≤ x.0 → c.values x ≡ nothing) → apart lo ws ≡ true → (x : HostAddr)
    → (reckon_all c (adds k (plan_after p once ws))).values x ≡ (if x.0 <? lo then c.values x else values_at (plan_records p once ws) x)
unfolding plan_after adds reckon_all plan_records values_at has region one
plan-values k [] p once lo c free t x = go (x.0 <? lo) refl
  where
    go : (b : Bool) → (x.0 <? lo) ≡ b → c.values x ≡ (if x.0 <? lo then c.values x else nothing)
    go true d = simp d
    go false d = simp d (free x (ltb-false x.0 lo d))
plan-values k (w ∷ ws) p once lo c free t x =
    go (once && touches p w) refl (λ d f. plan-values k ws w false w.end.0 d f u.later x) (λ d f. plan-values k ws w true w.end.0 d f u.later x)
  where
    u : Turn lo w ws
    u = turn lo w ws t

    none : (o : Bool) → x.0 < w.end.0 → values_at (plan_records w o ws) x ≡ nothing
    none o l = nothing-below x w.end.0 (plan_records w o ws) (records-ordered ws w o w.end.0 u.later) l

    go : (b : Bool) → (once && touches p w) ≡ b
        → ((d : Compartment) → ((y : HostAddr) → w.end.0 ≤ y.0 → d.values y ≡ nothing)
        → (reckon_all d (adds k (plan_after w false ws))).values x ≡ (if x.0 <? w.end.0 then d.values x else values_at (plan_records w false ws) x))
        → ((d : Compartment) → ((y : HostAddr) → w.end.0 ≤ y.0 → d.values y ≡ nothing)
        → (reckon_all d (adds k (plan_after w true ws))).values x ≡ (if x.0 <? w.end.0 then d.values x else values_at (plan_records w true ws) x))
        → (reckon_all c (adds k (plan_after p once (w ∷ ws)))).values x ≡ (if x.0 <? lo then c.values x else values_at (plan_records p once (w ∷ ws)) x)
    go true d two one =
        simp d (two _ (twice-free k lo w ws u c free x) ∙ front-values k lo w ws u c free x _ (times false w.ops.0) _ (none false) (twice-values k lo w ws u c free x))
    go false d two one =
        simp d (one _ (once-free k lo w ws u c free x) ∙ front-values k lo w ws u c free x _ (times true w.ops.0) _ (none true) (once-values k lo w ws u c free x))

-- ---- the planned adds are taken

-- a compartment with at most n records, and nothing held from lo on
record Ready (n lo : ℕ) (c : Compartment) : Type 0 where
  blank : Blank c.values
  few : length (regions c.values) ≤ n
  free : (x : HostAddr) → lo ≤ x.0 → c.values x ≡ nothing

module _ (allowance k : ℕ) where
  abbrev add_of : MemoryPermission → Call
  add_of w = Add k w.start w.end w.ops.0

  -- an add with room at each address and records enough
  add-taken : (w : MemoryPermission) (c : Compartment) → w.start.0 < w.end.0 → w.ops.0 < 64
      → ((x : HostAddr) → w.start.0 ≤ x.0 → x.0 < w.end.0 → room_for w.ops.0 (c.values x) ≡ true)
      → length (regions c.values) + new_records w.start w.end c.values ≤ allowance → accepted (answer_in 0 allowance c (add_of w)) ≡ true
  unfolding answer_in on_add can_raise
  add-taken w c l s t n =
      ranged-asked w.start w.end w.ops.0 _ s (omega arith) (λ d.
      asked _ _ (
        each-address (λ x. room_for w.ops.0 (c.values x)) w.start w.end t,
        (le-leb (length (regions c.values) + new_records w.start w.end c.values) allowance n, tt),
      )
      refl)

  module _ (n lo : ℕ) (w : MemoryPermission) (ws : List MemoryPermission) (t : Turn lo w ws) (h : w.end.0 ≤ 2 ^ 64) (c : Compartment) (s : Ready n lo c)
      (m : suc n ≤ allowance) where
    abbrev once : Compartment
    once = reckon (add_of w) c

    abbrev twice : Compartment
    twice = reckon (add_of w) once

    one-new : new_records w.start w.end c.values ≤ 1
    one-new = first-new w.start w.end t.some h c.values s.blank (λ x i. s.free x (omega (arith, t.after)))

    once-taken : accepted (answer_in 0 allowance c (add_of w)) ≡ true
    once-taken =
        add-taken w c t.some t.rights
        (λ x i j. ap (room_for w.ops.0) (s.free x (omega (arith, t.after))) ∙ raise-nothing w.ops.0)
        (omega (arith, s.few, one-new))

    once-ready : Ready (suc n) w.end.0 once
    unfolding reckon with_values changed_in
    once-ready = record {
      blank = raised-blank w.start w.end w.ops.0 c.values s.blank;
      few = omega (arith, s.few, one-new, grown w.start w.end t.some h c.values s.blank w.ops.0);
      free = λ x i. simp (in-high w.start.0 w.end.0 x.0 i) (s.free x (omega (arith, t.after, t.some)));
    }

    -- what the range holds after one add
    once-at : (x : HostAddr) → w.start.0 ≤ x.0 → x.0 < w.end.0 → once.values x ≡ raise w.ops.0 nothing
    unfolding reckon with_values changed_in
    once-at x i j = simp (in-true w.start.0 w.end.0 x.0 i j) (ap (raise w.ops.0) (s.free x (omega (arith, t.after))))

    twice-new : length (regions once.values) + new_records w.start w.end once.values ≤ suc n
    unfolding reckon with_values
    twice-new = omega (arith, s.few, one-new, again-new w.start w.end t.some h c.values s.blank w.ops.0)

    twice-taken : accepted (answer_in 0 allowance once (add_of w)) ≡ true
    twice-taken =
        add-taken w once t.some t.rights (λ x i j. ap (room_for w.ops.0) (once-at x i j) ∙ once-room w.ops.0)
        (omega (arith, twice-new))

    twice-ready : Ready (suc n) w.end.0 twice
    unfolding reckon with_values changed_in
    twice-ready = record {
      blank = raised-blank w.start w.end w.ops.0 once.values once-ready.blank;
      few = omega (arith, twice-new, grown w.start w.end t.some h once.values once-ready.blank w.ops.0);
      free = λ x i. simp (in-high w.start.0 w.end.0 x.0 i) (s.free x (omega (arith, t.after, t.some)));
    }

  plan-taken : (ws : List MemoryPermission) (p : MemoryPermission) (once : Bool) (n lo : ℕ) (c : Compartment) → Ready n lo c → apart lo ws ≡ true
      → EndsBy (2 ^ 64) ws → n + length ws ≤ allowance → all_taken allowance c (adds k (plan_after p once ws)) ≡ true
  unfolding plan_after adds all_taken changes
  plan-taken [] p once n lo c s t e m = refl
  plan-taken (w ∷ ws) p once n lo c s t e m =
      go (once && touches p w) refl
      (λ d r. plan-taken ws w false (suc n) w.end.0 d r u.later e.1 (omega arith))
      (λ d r. plan-taken ws w true (suc n) w.end.0 d r u.later e.1 (omega arith))
    where
      u : Turn lo w ws
      u = turn lo w ws t

      go : (b : Bool) → (once && touches p w) ≡ b
          → ((d : Compartment) → Ready (suc n) w.end.0 d → all_taken allowance d (adds k (plan_after w false ws)) ≡ true)
          → ((d : Compartment) → Ready (suc n) w.end.0 d → all_taken allowance d (adds k (plan_after w true ws)) ≡ true)
          → all_taken allowance c (adds k (plan_after p once (w ∷ ws))) ≡ true
      go true d two one =
          simp d (rw (once-taken n lo w ws u e.0 c s (omega arith), twice-taken n lo w ws u e.0 c s (omega arith))
          (two _ (twice-ready n lo w ws u e.0 c s (omega arith))))
      go false d two one =
          simp d (rw (once-taken n lo w ws u e.0 c s (omega arith)) (one _ (once-ready n lo w ws u e.0 c s (omega arith))))

-- ---- a list that can be is given by its plan

module _ (allowance k : ℕ) where
  given_by : (ws : List MemoryPermission) (p : MemoryPermission) → EndsBy (2 ^ 64) ws → can_be allowance ws ≡ true
      → Gives allowance (adds k (plan_after p false ws)) ws
  unfolding can_be empty regions
  given_by ws p e h =
      let q = both (apart 0 ws) (length ws ≤? allowance) h in
      let rs = plan_records p false ws in
      let f = (reckon_all empty (adds k (plan_after p false ws))).values in
      let same : (x : HostAddr) → f x ≡ values_at rs x = λ x. plan-values k ws p false 0 empty (λ y l. refl) q.0 x ∙ simp (le-ltb x.0 0 (omega arith)) in
      let runs : Runs 0 rs = record { ordered = records-ordered ws p false 0 q.0; full = records-full ws p false; longest = records-longest ws p false 0 q.0 } in
      let left : regions f ≡ rs = regions-ext f (values_at rs) (λ x l. same x) ∙ sym (table_is (2 ^ 64) rs runs (records-end (2 ^ 64) ws p false e)) in
      record {
        taken = plan-taken allowance k ws p false 0 0 empty
            (record { blank = λ y l. refl; few = omega (arith, ap length regions-nothing); free = λ y l. refl }) q.0 e (omega (arith, leb-true (length ws) allowance q.1));
        yields = ap (map permission_of) left ∙ permissions-are ws p false 0 q.0;
      }

  pub planned : (ws : List MemoryPermission) → EndsBy (2 ^ 64) ws → can_be allowance ws ≡ true → Gives allowance (adds k (plan ws)) ws
  unfolding plan plan_after
  planned [] e h = given_by [] (record { start = host 0; end = host 0; ops = record { 0 = 0 } }) e h
  planned (w ∷ ws) e h = given_by (w ∷ ws) w e h

  -- 25 exactly when no script gives the list
  pub no-script : (ws : List MemoryPermission) → can_be allowance ws ≡ false → (calls : List Call) → Gives allowance calls ws → ⊥
  no-script ws h calls g = true≢false (sym (given allowance calls ws g) ∙ h)

  pub some-script : (ws : List MemoryPermission) → EndsBy (2 ^ 64) ws → ((calls : List Call) → Gives allowance calls ws → ⊥) → can_be allowance ws ≡ false
  some-script ws e h = go (can_be allowance ws) refl
    where
      go : (b : Bool) → can_be allowance ws ≡ b → can_be allowance ws ≡ false
      go true d = absurd (h (adds k (plan ws)) (planned ws e d))
      go false d = d

-- ---- the wish as numbers

numbers-wanted : (ws : List MemoryPermission) → (wanted (each permission_group ws) ≡ ws) × (finished (each permission_group ws) ≡ true)
unfolding wanted finished permission_group host
numbers-wanted [] = (refl, refl)
numbers-wanted (w ∷ ws) = let p = numbers-wanted ws in (ap (λ l. w ∷ l) p.0, p.1)

wanted-numbers : (ns : List ℕ) → finished ns ≡ true → each permission_group (wanted ns) ≡ ns
unfolding wanted finished permission_group host
wanted-numbers [] h = refl
wanted-numbers (a ∷ []) h = absurd (true≢false (sym h))
wanted-numbers (a ∷ e ∷ []) h = absurd (true≢false (sym h))
wanted-numbers (a ∷ e ∷ r ∷ ns) h = ap (λ l. a ∷ e ∷ r ∷ l) (wanted-numbers ns h)

each_map : {A B : Type 0} (f : A → B) (g : B → List ℕ) (xs : List A) → each (λ x. g (f x)) xs ≡ each g (map f xs)
each_map f g [] = refl
each_map f g (x ∷ xs) = ap (λ l. g (f x) ++ l) (each_map f g xs)

-- a permission list is the wish exactly if it is what is wanted, and no number lacks
wish-of : (rs : List Region) (ns : List ℕ) → each (λ r. permission_group (permission_of r)) rs ≡ ns
    → (map permission_of rs ≡ wanted ns) × (finished ns ≡ true)
wish-of rs ns e =
    let p = numbers-wanted (map permission_of rs) in
    let q : each permission_group (map permission_of rs) ≡ ns = sym (each_map permission_of permission_group rs) ∙ e in
    (sym p.0 ∙ ap wanted q, ap finished (sym q) ∙ p.1)

of-wish : (rs : List Region) (ns : List ℕ) → map permission_of rs ≡ wanted ns → finished ns ≡ true
    → each (λ r. permission_group (permission_of r)) rs ≡ ns
of-wish rs ns e h = each_map permission_of permission_group rs ∙ ap (each permission_group) e ∙ wanted-numbers ns h

module _ (allowance : ℕ) where
  -- the planned adds grant a wish that can be
  pub planned-wish : (k : ℕ) (ns : List ℕ) → all fits ns ≡ true → can_wish allowance ns ≡ true
      → Grants allowance (adds k (plan (wanted ns))) ns
  unfolding can_wish
  planned-wish k ns b h =
      let p = both (finished ns) (can_be allowance (wanted ns)) h in
      let g = planned allowance k (wanted ns) (wanted-ends ns b) p.1 in
      record {
        taken = g.taken;
        yields = of-wish (regions (reckon_all empty (adds k (plan (wanted ns)))).values) ns g.yields p.0;
      }

  -- what any script grants can be
  pub granted : (calls : List Call) (ns : List ℕ) → Grants allowance calls ns → can_wish allowance ns ≡ true
  unfolding can_wish
  granted calls ns g =
      let p = wish-of (regions (reckon_all empty calls).values) ns g.yields in
      rw p.1 (given allowance calls (wanted ns) (record { taken = g.taken; yields = p.0 }))

  -- 25 exactly when no script grants the wish
  pub no-script-for : (ns : List ℕ) → can_wish allowance ns ≡ false → (calls : List Call) → Grants allowance calls ns → ⊥
  no-script-for ns h calls g = true≢false (sym (granted calls ns g) ∙ h)

  pub some-script-for : (ns : List ℕ) → all fits ns ≡ true → ((calls : List Call) → Grants allowance calls ns → ⊥)
      → can_wish allowance ns ≡ false
  some-script-for ns b h = go (can_wish allowance ns) refl
    where
      go : (t : Bool) → can_wish allowance ns ≡ t → can_wish allowance ns ≡ false
      go true d = absurd (h (adds 0 (plan (wanted ns))) (planned-wish 0 ns b d))
      go false d = d

  -- so the answer is 25 then and only then
  pub then-25 : (ns : List ℕ) (i room : ℕ) → all fits ns ≡ true → ((calls : List Call) → Grants allowance calls ns → ⊥)
      → on_plan allowance ns i room ≡ Err NoScript
  unfolding on_plan ask
  then-25 ns i room b h = rw (some-script-for ns b h)

  pub only-then-25 : (ns : List ℕ) (i room : ℕ) → on_plan allowance ns i room ≡ Err NoScript → (calls : List Call)
      → Grants allowance calls ns → ⊥
  unfolding on_plan ask
  only-then-25 ns i room e calls g =
      let d : can_wish allowance ns ≡ true = granted calls ns g in
      let a : accepted (on_plan allowance ns i room) ≡ true = simp d in
      true≢false (sym a ∙ ap accepted e)

-- ---- the same on the tables: scripts for a compartment that is empty, whatever the others hold

module _ (k : ℕ) (l : k < 8) where
  own-accepted : (s : State) (c : Call) → (compartment_of c =? k) ≡ true → changes c ≡ true
      → accepted (answer s c) ≡ accepted (answer_in 0 (allowance s k) (compartment s k) c)
  unfolding alone ask
  own-accepted s c e f =
      let q : compartment_of c ≡ k = eqb-true (compartment_of c) k e in
      ap accepted (rw q at (own-answer s c (not-allows c f))) ∙ simp (q, lt-ltb k 8 l)

  own-left : (s : State) (c : Call) → length s.compartments ≡ 8 → (compartment_of c =? k) ≡ true → accepted (answer s c) ≡ true
      → compartment (next s c) k ≡ reckon c (compartment s k)
  own-left s c m e h = next-at s c k m ∙ simp (e, h)

  -- a script that is taken is accepted call by call, and leaves what it leaves
  script-run : (calls : List Call) (s : State) → length s.compartments ≡ 8 → all (λ c. compartment_of c =? k) calls ≡ true
      → all_taken (allowance s k) (compartment s k) calls ≡ true
      → AllAccepted s calls × (compartment (after_from s calls) k ≡ reckon_all (compartment s k) calls)
  unfolding all_taken reckon_all after_from
  script-run [] s m o h = (tt, refl)
  script-run (c ∷ cs) s m o h =
      let x = both (compartment_of c =? k) (all (λ c. compartment_of c =? k) cs) o in
      let p = both (changes c && accepted (answer_in 0 (allowance s k) (compartment s k) c)) (all_taken (allowance s k) (reckon c (compartment s k)) cs) h in
      let q = both (changes c) (accepted (answer_in 0 (allowance s k) (compartment s k) c)) p.0 in
      let yes1 : accepted (answer s c) ≡ true = own-accepted s c x.0 q.0 ∙ q.1 in
      let left = own-left s c m x.0 yes1 in
      let may = allowance-kept s c k (not-allows c q.0) in
      let later = script-run cs (next s c) (length-next s c ∙ m) x.1 (rw (may, left) p.1) in
      ((yes1, later.0), later.1 ∙ ap (λ d. reckon_all d cs) left)

  -- and the other way round
  run-script : (calls : List Call) (s : State) → length s.compartments ≡ 8 → all (λ c. (compartment_of c =? k) && changes c) calls ≡ true
      → AllAccepted s calls
      → (all_taken (allowance s k) (compartment s k) calls ≡ true) × (compartment (after_from s calls) k ≡ reckon_all (compartment s k) calls)
  unfolding all_taken reckon_all after_from
  run-script [] s m o h = (refl, refl)
  run-script (c ∷ cs) s m o h =
      let x = both ((compartment_of c =? k) && changes c) (all (λ c. (compartment_of c =? k) && changes c) cs) o in
      let y = both (compartment_of c =? k) (changes c) x.0 in
      let left = own-left s c m y.0 h.0 in
      let may = allowance-kept s c k (not-allows c y.1) in
      let later = run-script cs (next s c) (length-next s c ∙ m) x.1 h.1 in
      let taken : all_taken (allowance s k) (reckon c (compartment s k)) cs ≡ true = rw (may, left) at later.0 in
      (rw (y.1, sym (own-accepted s c y.0 y.1) ∙ h.0, taken), later.1 ∙ ap (λ d. reckon_all d cs) left)

adds-own : (k : ℕ) (ws : List MemoryPermission) → all (λ c. compartment_of c =? k) (adds k ws) ≡ true
unfolding adds compartment_of
adds-own k [] = refl
adds-own k (w ∷ ws) = rw (eq-eqb k k refl, adds-own k ws)

-- a compartment's permission list, as numbers
abbrev pub listed : Compartment → List ℕ
listed c = each (λ r. permission_group (permission_of r)) (regions c.values)

module _ (s : State) (m : length s.compartments ≡ 8) (k : ℕ) (l : k < 8) (none : compartment s k ≡ empty) (ns : List ℕ) where
  -- the planned adds, run on the empty compartment under its allowance, are all accepted and yield the wish
  pub planned-on-tables : all fits ns ≡ true → can_wish (allowance s k) ns ≡ true
      → AllAccepted s (adds k (plan (wanted ns))) × (listed (compartment (after_from s (adds k (plan (wanted ns)))) k) ≡ ns)
  planned-on-tables b h =
      let g = planned-wish (allowance s k) k ns b h in
      let r = script-run k l (adds k (plan (wanted ns))) s m (adds-own k (plan (wanted ns))) (rw none g.taken) in
      (r.0, ap listed (r.1 ∙ ap (λ c. reckon_all c (adds k (plan (wanted ns)))) none) ∙ g.yields)

  -- where the wish is refused, no adds and removes for it that are all accepted yield it
  pub none-on-tables : can_wish (allowance s k) ns ≡ false → (script : List Call) → all (λ c. (compartment_of c =? k) && changes c) script ≡ true
      → AllAccepted s script → listed (compartment (after_from s script) k) ≡ ns → ⊥
  none-on-tables h script o y e =
      let r = run-script k l script s m o y in
      no-script-for (allowance s k) ns h script (record {
        taken = rw none at r.0;
        yields = ap listed (sym (r.1 ∙ ap (λ c. reckon_all c script) none)) ∙ e;
      })

-- what a page of the plan answers for a compartment tells whether the wish can be
module _ (s : State) (k : ℕ) (ns : List ℕ) (i room : ℕ) where
  pub page-taken : (many : ℕ) → Ok many ≡ plan_answer s k ns i room → (k < 8) × (can_wish (allowance s k) ns ≡ true)
  unfolding plan_answer on_plan ask
  page-taken many e = go (k <? 8) refl (can_wish (allowance s k) ns) refl (ap accepted e)
    where
      go : (b : Bool) → (k <? 8) ≡ b → (t : Bool) → can_wish (allowance s k) ns ≡ t
          → true ≡ accepted (if b then (if t then Ok (length (page 3 (plan_groups (wanted ns)) i room)) else Err NoScript) else Err NoCompartment)
          → (k < 8) × (can_wish (allowance s k) ns ≡ true)
      go true d true f h = (ltb-true k 8 d, f)
      go true d false f h = absurd (true≢false h)
      go false d t f h = absurd (true≢false h)

  pub page-refused : Err NoScript ≡ plan_answer s k ns i room → (k < 8) × (can_wish (allowance s k) ns ≡ false)
  unfolding plan_answer on_plan ask
  page-refused e = go (k <? 8) refl (can_wish (allowance s k) ns) refl (ap number_of e)
    where
      go : (b : Bool) → (k <? 8) ≡ b → (t : Bool) → can_wish (allowance s k) ns ≡ t
          → 25 ≡ number_of (if b then (if t then Ok (length (page 3 (plan_groups (wanted ns)) i room)) else Err NoScript) else Err NoCompartment)
          → (k < 8) × (can_wish (allowance s k) ns ≡ false)
      go true d true f h = absurd (omega (arith, h))
      go true d false f h = (ltb-true k 8 d, f)
      go false d t f h = absurd (omega (arith, h))

-- it is made of the compartment's allowance alone, whatever it or the others hold
module _ (s t : State) (k : ℕ) (e : allowance s k ≡ allowance t k) (ns : List ℕ) (i : ℕ) where
  pub same-plan : (room : ℕ) → plan_answer s k ns i room ≡ plan_answer t k ns i room
  unfolding plan_answer
  same-plan room = ap (λ m. ask ((k <? 8, NoCompartment) ∷ []) (on_plan m ns i room)) e

  pub same-page : (out : List ℕ) → plan_left s k ns i out ≡ plan_left t k ns i out
  unfolding plan_left
  same-page out = ap (λ m. if k <? 8 then plan_filled m ns i out else out) e
