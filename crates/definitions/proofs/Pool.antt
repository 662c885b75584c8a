-- Document 02, order 4: the pool is never short, over every list of calls. The allowances are together at most its 1,024 records,
-- no compartment uses more than its allowance, and an accepted add or remove finds its records at its peak.
use Rattle.std.specs.Prelude.{if◌then◌else◌}
use Prim.Native.Nat.{ℕ, zero, suc, ◌+◌, ◌^◌, ◌<◌, ◌≤◌}
use mathlib.Core.Path.{◌≡◌, refl, sym, ap, ap₂, ◌∙◌}
use mathlib.Core.Bool.{Bool, true, false, not, ◌&&◌}
use mathlib.Core.List.{List, [], ◌∷◌}
use lib.ListN.{length, get_or, set, replicate}
use native.Mathlib.Omega.{arith}
use borrow.Author.Tests.{ltb-true, ltb-false, le-ltb, eqb-true, eqb-false, ne_eqb}
use Rattle.definitions.specs.Tests.{◌<?◌, ◌=?◌, inside, bit, host, any}
use Rattle.definitions.specs.Values.{nothing, held, raise, lower, changed_in}
use Rattle.definitions.specs.Regions.{joined, singles, regions_below, regions, splits, unheld_in, new_records}
use Rattle.definitions.specs.Reckoning.{Compartment, empty, with_values, with_segments, reckon, compartment_of}
use Rattle.definitions.specs.Questions.{accepted, in_use, cuts_fit}
use Rattle.definitions.specs.Calls.{State, start, compartment, allowance, together, others, answer_in, answer, allowed, next, after_from, after}
use Rattle.definitions.specs.declared.addr.HostAddr.{HostAddr}
use Rattle.definitions.specs.declared.region.Values.{Values}
use Rattle.definitions.specs.declared.region.Region.{Region}
use Rattle.definitions.specs.declared.call.Call.{Call}
use Rattle.definitions.specs.declared.call.Call.TheVariants.{Add, Remove, Refcount, Overlaps, Map, Unmap, UnmapGpa, Permissions, Remap, Mappings, Allow}
use Rattle.definitions.proofs.Bools.{and-false, in-empty, in-low, in-ext}
use Rattle.definitions.proofs.Lists.{Blank}
use Rattle.definitions.proofs.RunLaws.{EndBy, regions-ext, regions-below, regions-end}
use Rattle.definitions.proofs.PeakLaws.{cuts-fit, cuts-told, add-fits, remove-fits}
use Rattle.definitions.proofs.Passed.{add-passed, remove-passed, allow-passed}
use Rattle.definitions.proofs.Reckoned.{accepted-in, next-accepted, next-allowed, next-refused, length-next, length-allowed, length-after}
use Rattle.definitions.proofs.Stored.{Stored, stored_next, start-stored}

-- the pool's records in use: those of all compartments
unfoldable pub used : List Compartment → ℕ
used [] = 0
used (c ∷ cs) = in_use c + used cs

-- An end past 2 ^ 64 does what 2 ^ 64 does

pub no-split : (n : ℕ) (e : HostAddr) (rs : List Region) → n ≤ e.0 → EndBy n rs → any (splits e) rs ≡ false
unfolding splits
no-split n e [] l h = refl
no-split n e (r ∷ rs) l h =
    simp (le-ltb e.0 r.end.0 (omega (arith, h.0)), and-false, no-split n e rs l h.1)

module _ (a e t : HostAddr) (f : HostAddr → Values) (far : 2 ^ 64 ≤ e.0) (top : t.0 ≡ 2 ^ 64) where
  in_top : (x : HostAddr) → x.0 < 2 ^ 64 → inside a.0 e.0 x.0 ≡ inside a.0 t.0 x.0
  in_top x l = in-ext a.0 e.0 a.0 t.0 x.0 (λ p. (p.0, omega arith)) (λ p. (p.0, omega arith))

  changed-top : (g : Values → Values) → regions (changed_in g a e f) ≡ regions (changed_in g a t f)
  unfolding changed_in
  changed-top g = regions-ext _ _ (λ x l. ap (λ b. if b then g (f x) else f x) (in_top x l))

  splits-top : any (splits e) (regions f) ≡ any (splits t) (regions f)
  splits-top =
      no-split (2 ^ 64) e (regions f) far (regions-end f) ∙ sym (no-split (2 ^ 64) t (regions f) (omega arith) (regions-end f))

  new-top : new_records a e f ≡ new_records a t f
  unfolding new_records unheld_in
  new-top =
      ap₂ (λ b rs. bit (any (splits a) (regions f)) + bit b + length rs) splits-top
      (regions-ext _ _ (λ x l. ap (λ b. if b && not (held (f x)) then raise 0 nothing else nothing) (in_top x l)))

  cuts-top : (n m : ℕ) → cuts_fit n m a e (regions f) ≡ true → cuts_fit n m a t (regions f) ≡ true
  unfolding cuts_fit
  cuts-top n m h =
      simp (no-split (2 ^ 64) t (regions f) (omega arith) (regions-end f))
      (simp (no-split (2 ^ 64) e (regions f) far (regions-end f)) at h)

-- what fits where n of m are used fits where more are used and as many are free
cuts-more : (n m n' m' : ℕ) (a e : HostAddr) (rs : List Region) → n ≤ n' → n' + m ≤ m' + n → cuts_fit n m a e rs ≡ true
    → cuts_fit n' m' a e rs ≡ true
cuts-more n m n' m' a e rs g l h =
    let p = cuts-told n m a e rs h in
    cuts-fit n' m' a e rs (omega (arith, p.0)) (λ d. omega (arith, p.0, p.1 d))

-- a bound that a question keeps for every end up to 2 ^ 64 is kept for every end
module _ (a : HostAddr) (g : Values → Values) (f : HostAddr → Values) (m : ℕ) (now : length (regions f) ≤ m)
    (asked : HostAddr → Type 0)
    (fit : (t : HostAddr) → a.0 < t.0 → t.0 ≤ 2 ^ 64 → asked t → length (regions (changed_in g a t f)) ≤ m) where
  -- no address of the range below 2 ^ 64
  unchanged : (e : HostAddr) → ((x : HostAddr) → x.0 < 2 ^ 64 → inside a.0 e.0 x.0 ≡ false)
      → length (regions (changed_in g a e f)) ≤ m
  unfolding changed_in
  unchanged e h =
      omega (arith, ap length (regions-ext (changed_in g a e f) f (λ x l. ap (λ b. if b then g (f x) else f x) (h x l))))

  every-end : (e : HostAddr) → a.0 ≤ e.0
      → ((t : HostAddr) → 2 ^ 64 ≤ e.0 → t.0 ≡ 2 ^ 64 → asked e → asked t)
      → ((a.0 =? e.0) ≡ false → asked e) → length (regions (changed_in g a e f)) ≤ m
  unfolding host
  every-end e l top q = go (a.0 =? e.0) refl (e.0 <? 2 ^ 64) refl (a.0 <? 2 ^ 64) refl
    where
      go : (b : Bool) → (a.0 =? e.0) ≡ b → (s : Bool) → (e.0 <? 2 ^ 64) ≡ s → (t : Bool) → (a.0 <? 2 ^ 64) ≡ t
          → length (regions (changed_in g a e f)) ≤ m
      go true d s i t n = unchanged e (λ x k. in-empty a.0 e.0 x.0 (omega (arith, eqb-true a.0 e.0 d)))
      go false d true i t n =
          let ne : a.0 ≡ e.0 → ⊥ = eqb-false a.0 e.0 d in
          fit e (omega arith) (omega (arith, ltb-true e.0 (2 ^ 64) i)) (q d)
      go false d false i false n =
          unchanged e (λ x k. in-low a.0 e.0 x.0 (omega (arith, ltb-false a.0 (2 ^ 64) n)))
      go false d false i true n =
          let far : 2 ^ 64 ≤ e.0 = ltb-false e.0 (2 ^ 64) i in
          rw (changed-top a e (host (2 ^ 64)) f far refl g)
          (fit (host (2 ^ 64)) (ltb-true a.0 (2 ^ 64) n) (omega arith) (top (host (2 ^ 64)) far refl (q d)))

-- One accepted call: what it leaves is within the allowance that it leaves

pub call_fits : (n m : ℕ) (c : Compartment) (call : Call) → in_use c ≤ m → Blank c.values
    → accepted (answer_in n m c call) ≡ true → in_use (reckon call c) ≤ allowed call m
unfolding answer_in reckon with_values with_segments allowed
call_fits n m c (Add k a e r) l b h =
    let p = add-passed m c a e r h in
    every-end a (raise r) c.values m l (λ t. in_use c + new_records a t c.values ≤ m)
    (λ t i j q. add-fits m a t r c.values i j b q) e p.range
    (λ t far top q. omega (arith, new-top a e t c.values far top)) p.records
call_fits n m c (Remove k a e r) l b h =
    let p = remove-passed m c a e r h in
    every-end a (lower r) c.values m l (λ t. cuts_fit (in_use c) m a t (regions c.values) ≡ true)
    (λ t i j q. remove-fits m a t r c.values i j b q) e p.range
    (λ t far top q. cuts-top a e t c.values far top (in_use c) m q) p.records
call_fits n m c (Allow k new) l b h = (allow-passed n c new h).enough
call_fits n m c (Map k h g size t) l b p = l
call_fits n m c (Unmap k h size) l b p = l
call_fits n m c (UnmapGpa k g size) l b p = l
call_fits n m c (Refcount k a e) l b h = l
call_fits n m c (Overlaps k g size) l b h = l
call_fits n m c (Permissions k i room) l b h = l
call_fits n m c (Remap k i room) l b h = l
call_fits n m c (Mappings k) l b h = l

-- and the allowances stay within the pool
call-allowed : (n m : ℕ) (c : Compartment) (call : Call) → n + m ≤ 1024 → accepted (answer_in n m c call) ≡ true
    → n + allowed call m ≤ 1024
unfolding answer_in allowed
call-allowed n m c (Allow k new) l h = (allow-passed n c new h).fit
call-allowed n m c (Add k a e r) l h = l
call-allowed n m c (Remove k a e r) l h = l
call-allowed n m c (Map k h g size t) l p = l
call-allowed n m c (Unmap k h size) l p = l
call-allowed n m c (UnmapGpa k g size) l p = l
call-allowed n m c (Refcount k a e) l h = l
call-allowed n m c (Overlaps k g size) l h = l
call-allowed n m c (Permissions k i room) l h = l
call-allowed n m c (Remap k i room) l h = l
call-allowed n m c (Mappings k) l h = l

-- All compartments

-- one allowance, and the others
pub together-set : (ms : List ℕ) (k n : ℕ) → k < length ms → together (set ms k n) ≡ others ms k + n
unfolding together others
together-set [] k n h = absurd (omega arith)
together-set (m ∷ ms) zero n h = omega arith
together-set (m ∷ ms) (suc k) n h = omega (arith, together-set ms k n (omega arith))

pub together_at : (ms : List ℕ) (k : ℕ) → k < length ms → together ms ≡ others ms k + get_or ms k 0
unfolding together others
together_at [] k h = absurd (omega arith)
together_at (m ∷ ms) zero h = omega arith
together_at (m ∷ ms) (suc k) h = omega (arith, together_at ms k (omega arith))

-- each compartment is within its allowance
abbrev Within : List Compartment → List ℕ → Type 0
Within [] [] = Unit {0}
Within [] (m ∷ ms) = ⊥
Within (c ∷ cs) [] = ⊥
Within (c ∷ cs) (m ∷ ms) = (in_use c ≤ m) × Within cs ms

within-at : (cs : List Compartment) (ms : List ℕ) (k : ℕ) → Within cs ms → k < length cs → in_use (get_or cs k empty) ≤ get_or ms k 0
within-at [] ms k h l = absurd (omega arith)
within-at (c ∷ cs) [] k h l = absurd h
within-at (c ∷ cs) (m ∷ ms) zero h l = h.0
within-at (c ∷ cs) (m ∷ ms) (suc k) h l = within-at cs ms k h.1 (omega arith)

within-set : (cs : List Compartment) (ms : List ℕ) (k : ℕ) (c : Compartment) (m : ℕ) → Within cs ms → in_use c ≤ m
    → Within (set cs k c) (set ms k m)
within-set [] [] k c m h l = tt
within-set [] (n ∷ ms) k c m h l = absurd h
within-set (d ∷ cs) [] k c m h l = absurd h
within-set (d ∷ cs) (n ∷ ms) zero c m h l = (l, h.1)
within-set (d ∷ cs) (n ∷ ms) (suc k) c m h l = (h.0, within-set cs ms k c m h.1 l)

-- the records of all of them, also with one at its allowance, are within the allowances together
used-within : (cs : List Compartment) (ms : List ℕ) → Within cs ms → used cs ≤ together ms
unfolding used together
used-within [] [] h = omega arith
used-within [] (m ∷ ms) h = absurd h
used-within (c ∷ cs) [] h = absurd h
used-within (c ∷ cs) (m ∷ ms) h = omega (arith, h.0, used-within cs ms h.1)

full-within : (cs : List Compartment) (ms : List ℕ) (k : ℕ) → Within cs ms → k < length cs
    → used cs + get_or ms k 0 ≤ together ms + in_use (get_or cs k empty)
unfolding used together
full-within [] ms k h l = absurd (omega arith)
full-within (c ∷ cs) [] k h l = absurd h
full-within (c ∷ cs) (m ∷ ms) zero h l = omega (arith, used-within cs ms h.1)
full-within (c ∷ cs) (m ∷ ms) (suc k) h l = omega (arith, h.0, full-within cs ms k h.1 (omega arith))

used-at : (cs : List Compartment) (k : ℕ) → k < length cs → in_use (get_or cs k empty) ≤ used cs
unfolding used
used-at [] k h = absurd (omega arith)
used-at (c ∷ cs) zero h = omega arith
used-at (c ∷ cs) (suc k) h = omega (arith, used-at cs k (omega arith))

-- what every call keeps
record Fitting (s : State) : Type 0 where
  pub compartments : length s.compartments ≡ 8
  pub allowances : length s.allowances ≡ 8
  pub stored : (k : ℕ) → Stored (compartment s k)
  pub within : Within s.compartments s.allowances
  pub together : together s.allowances ≤ 1024

next_fits : (s : State) (c : Call) → Fitting s → Fitting (next s c)
unfolding compartment allowance
next_fits s c f = record {
  compartments = length-next s c ∙ f.compartments;
  allowances = length-allowed s c ∙ f.allowances;
  stored = stored_next s c f.compartments f.stored;
  within = go (accepted (answer s c)) refl;
  together = to (accepted (answer s c)) refl;
}
  where
    go : (t : Bool) → accepted (answer s c) ≡ t → Within (next s c).compartments (next s c).allowances
    go false d = rw (next-refused s c d) f.within
    go true d =
        let p = accepted-in s c d in
        rw (next-accepted s c d, next-allowed s c d)
        (within-set s.compartments s.allowances (compartment_of c) _ _ f.within
        (call_fits _ _ _ c (within-at s.compartments s.allowances (compartment_of c) f.within (omega (arith, f.compartments))) (f.stored (compartment_of c)).blank p.1))

    to : (t : Bool) → accepted (answer s c) ≡ t → together (next s c).allowances ≤ 1024
    to false d = rw (next-refused s c d) f.together
    to true d =
        let p = accepted-in s c d in
        let l : compartment_of c < length s.allowances = omega (arith, f.allowances) in
        let q : others s.allowances (compartment_of c) + get_or s.allowances (compartment_of c) 0 ≤ 1024 =
        omega (arith, f.together, together_at s.allowances (compartment_of c) l) in
        rw (next-allowed s c d)
        (omega (arith, together-set s.allowances (compartment_of c) (allowed c (allowance s (compartment_of c))) l, call-allowed _ _ _ c q p.1))

fits-from : (calls : List Call) (s : State) → Fitting s → Fitting (after_from s calls)
unfolding after_from
fits-from [] s f = f
fits-from (c ∷ cs) s f = fits-from cs (next s c) (next_fits s c f)

-- at first none is in use
none-empty : in_use empty ≡ 0
unfolding empty regions_below singles joined
none-empty = ap length (regions-below empty.values (λ x h. refl) 0 (omega arith) (λ y h. refl))

none_within : (n : ℕ) → Within (replicate n empty) (replicate n 128)
none_within zero = tt
none_within (suc n) = (omega (arith, none-empty), none_within n)

start_fits : Fitting start
unfolding start together
start_fits = record {
  compartments = refl;
  allowances = refl;
  stored = start-stored;
  within = none_within 8;
  together = omega arith;
}

fitting : (calls : List Call) → Fitting (after calls)
unfolding after
fitting calls = fits-from calls start start_fits

-- whatever the numbers of the calls: the allowances are together at most 1,024
pub allowances-bound : (calls : List Call) → together (after calls).allowances ≤ 1024
allowances-bound calls = (fitting calls).together

-- a compartment's records in use are at most its allowance
pub within-allowance : (calls : List Call) (k : ℕ) → k < 8 → in_use (compartment (after calls) k) ≤ allowance (after calls) k
unfolding compartment allowance
within-allowance calls k l =
    let f = fitting calls in
    within-at (after calls).compartments (after calls).allowances k f.within (omega (arith, f.compartments))

-- the pool's records in use are at most 1,024
pub pool-bound : (calls : List Call) → used (after calls).compartments ≤ 1024
pool-bound calls =
    let f = fitting calls in
    omega (arith, f.together, used-within (after calls).compartments (after calls).allowances f.within)

-- also if a compartment should use its allowance to the last record
pub pool-never-short : (calls : List Call) (k : ℕ) → k < 8
    → used (after calls).compartments + allowance (after calls) k ≤ 1024 + in_use (compartment (after calls) k)
unfolding compartment allowance
pool-never-short calls k l =
    let f = fitting calls in
    omega (arith, f.together, full-within (after calls).compartments (after calls).allowances k f.within (omega (arith, f.compartments)))

-- So document 01's question 5, asked of the whole pool, gets a yes wherever an add or a remove is accepted: at its peak the records
-- of all compartments together are at most 1,024.
module _ (calls : List Call) (k : ℕ) (a e : HostAddr) (r : ℕ) (l : a.0 < e.0) where
  pub add-peak : accepted (answer (after calls) (Add k a e r)) ≡ true
      → used (after calls).compartments + new_records a e (compartment (after calls) k).values ≤ 1024
  unfolding answer_in compartment_of
  add-peak h =
      let p = accepted-in (after calls) (Add k a e r) h in
      let q = add-passed (allowance (after calls) k) (compartment (after calls) k) a e r p.1 in
      omega (arith, pool-never-short calls k p.0, q.records (ne_eqb a.0 e.0 (omega arith)))

  pub remove-peak : accepted (answer (after calls) (Remove k a e r)) ≡ true
      → cuts_fit (used (after calls).compartments) 1024 a e (regions (compartment (after calls) k).values) ≡ true
  unfolding answer_in compartment_of compartment
  remove-peak h =
      let p = accepted-in (after calls) (Remove k a e r) h in
      let q = remove-passed (allowance (after calls) k) (compartment (after calls) k) a e r p.1 in
      cuts-more (in_use (compartment (after calls) k)) (allowance (after calls) k) (used (after calls).compartments) 1024 a e
      (regions (compartment (after calls) k).values) (used-at (after calls).compartments k (omega (arith, length-after calls)))
      (pool-never-short calls k p.0) (q.records (ne_eqb a.0 e.0 (omega arith)))
