-- Document 02, order 11: a loan handed back leaves no trace. After an accepted add, a remove of the same range and rights is
-- accepted and brings back the compartment as it was.
use Rattle.std.specs.Prelude.{if◌then◌else◌}
use Prim.Native.Nat.{ℕ, zero, suc, ◌+◌, ◌-◌, ◌^◌, ◌<◌, ◌≤◌}
use mathlib.Core.Path.{◌≡◌, refl, sym, ap, ◌∙◌}
use mathlib.Core.Bool.{Bool, true, false, true≢false, not, ◌&&◌, ◌||◌}
use mathlib.Core.List.{List, [], ◌∷◌, ◌++◌, map, map-append}
use lib.ListN.{length, get_or}
use lib.Seq.{get_or-set_other}
use native.Mathlib.Omega.{arith}
use borrow.Author.Tests.{leb-true, lt-ltb, le-ltb, le-leb, lt-leb, eqb-true, eqb-false, eq-eqb, ne_eqb}
use Rattle.definitions.specs.Tests.{◌<?◌, ◌≤?◌, ◌=?◌, inside, bit, host, all, any, keep}
use Rattle.definitions.specs.Rights.{Right, RIGHTS, named, count_of}
use Rattle.definitions.specs.Values.{nothing, held, raise, lower, changed_in}
use Rattle.definitions.specs.Regions.{region, has, within, meets, same, joins, join, joined, regions, addresses_from, addresses, splits, cut, new_records}
use Rattle.definitions.specs.Reckoning.{Compartment, with_values, reckon, compartment_of}
use Rattle.definitions.specs.Questions.{accepted, every_named, begun, last_end, can_lower, on_add, on_remove}
use Rattle.definitions.specs.Calls.{State, compartment, allowance, stream_of, answer_in, answer, next, after_from, after}
use Rattle.definitions.specs.Bundles.{bundle_of, calls_in, bundle_answer, counted, Step, single, bundle, step_calls, step_leaves, done_from, done, calls_of}
use Rattle.definitions.specs.Independence.{allows, own}
use Rattle.definitions.specs.Loan.{step_of, reads, undisturbed, LeavesNoTrace}
use Rattle.definitions.specs.declared.addr.HostAddr.{HostAddr}
use Rattle.definitions.specs.declared.region.Values.{Values}
use Rattle.definitions.specs.declared.region.Region.{Region}
use Rattle.definitions.specs.declared.call.Call.{Call}
use Rattle.definitions.specs.declared.call.Call.TheVariants.{Add, Remove, Refcount, Overlaps, Map, Unmap, UnmapGpa, Permissions, Remap, Mappings, Allow}
use Rattle.definitions.proofs.Bools.{Where, inn, low, high, where?, in-true, or-true, both}
use Rattle.definitions.proofs.RightLaws.{all_true, count-made, bit-small, values_eq}
use Rattle.definitions.proofs.Lists.{values_at, change, peak, added, Ordered, Blank}
use Rattle.definitions.proofs.RegionLaws.{Cuts, splits-it, at_most, past, cuts?, nothing-below, Uncut, cut-ordered, cut-uncut, cut_keeps, fill-ordered, fill-uncut, change-ordered, joined-ordered}
use Rattle.definitions.proofs.RunLaws.{held-nothing, regions-runs, regions-values}
use Rattle.definitions.proofs.ChangeLaws.{raise-held}
use Rattle.definitions.proofs.RegionsAre.{raised-blank, added_is}
use Rattle.definitions.proofs.PeakLaws.{gaps, length-change, peak-grows, cuts-fit}
use Rattle.definitions.proofs.AddressLaws.{all-is}
use Rattle.definitions.proofs.Passed.{asked, ranged-asked, add-passed}
use Rattle.definitions.proofs.Reckoned.{accepted-in, next-allowed, next-refused, next-same, next-at, length-next}
use Rattle.definitions.proofs.Stored.{stored}
use Rattle.definitions.proofs.Bundles.{run-leaves-its-calls, done-length, done-append, calls-leave}
use Rattle.definitions.proofs.Independence.{allowance-kept, own_is, Own, bundle-own, step-length, step_other}

-- ---- what is taken back is what was lent: the values

pub lower-raise : (k : ℕ) (v : Values) → (held v ≡ false → v ≡ nothing) → lower k (raise k v) ≡ v
unfolding lower raise held
lower-raise k v b = go (v.refcount + 1 ≤? 1) refl
  where
    go : (t : Bool) → (v.refcount + 1 ≤? 1) ≡ t → lower k (raise k v) ≡ v
    go true d =
        let z : v.refcount ≡ 0 = omega (arith, leb-true (v.refcount + 1) 1 d) in
        simp d (sym (b (le-ltb 0 v.refcount (omega arith))))
    go false d =
        simp d (values_eq _ v (omega arith) (λ t. count-made (v.refcount + 1 - 1) (λ t. count_of t (raise k v) - named t k) t ∙ less t))
      where
        less : (t : Right) → count_of t (raise k v) - named t k ≡ count_of t v
        less t = omega (arith, count-made (v.refcount + 1) (λ t. count_of t v + named t k) t)

pub changed-back : (a e : HostAddr) (k : ℕ) (f : HostAddr → Values) → Blank f → (x : HostAddr)
    → changed_in (lower k) a e (changed_in (raise k) a e f) x ≡ f x
unfolding changed_in
changed-back a e k f b x = go (inside a.0 e.0 x.0) refl
  where
    go : (t : Bool) → inside a.0 e.0 x.0 ≡ t → changed_in (lower k) a e (changed_in (raise k) a e f) x ≡ f x
    go true d = simp d (lower-raise k (f x) (b x))
    go false d = simp d

-- the whole compartment
pub reckoned-back : (k : ℕ) (a e : HostAddr) (r : ℕ) (c : Compartment) → Blank c.values
    → reckon (Remove k a e r) (reckon (Add k a e r) c) ≡ c
unfolding reckon with_values
reckoned-back k a e r c b = λ i. record { values = λ x. changed-back a e r c.values b x i; segments = c.segments }

-- ---- there is room to take it back: question 5, since each cut of the remove undoes a join of the add

change-uncut : (g : Values → Values) (a e y : HostAddr) (rs : List Region) → Uncut y rs → Uncut y (change g a e rs)
unfolding change region splits
change-uncut g a e y [] u = tt
change-uncut g a e y (r ∷ rs) u = go (within a e r) refl (change-uncut g a e y rs u.1)
  where
    go : (t : Bool) → within a e r ≡ t → Uncut y (change g a e rs) → Uncut y (change g a e (r ∷ rs))
    go true d ih = simp d (u.0, ih)
    go false d ih = simp d (u.0, ih)

or-more : (s t : Bool) → bit t ≤ bit (s || t)
or-more true t = bit-small t
or-more false t = omega arith

-- a join puts no address inside a region that was not inside one, but for the border
join-splits : (y : HostAddr) (r q : Region) (qs : List Region) → r.end.0 ≡ q.start.0 → splits y r ≡ false
    → bit (any (splits y) (region r.start q.end q.values ∷ qs)) ≤ bit (any (splits y) (q ∷ qs)) + bit (y.0 =? q.start.0)
unfolding region
join-splits y r q qs m u = go (cuts? y (region r.start q.end q.values)) (cuts? y q) (cuts? y r)
  where
    wide : Region
    wide = region r.start q.end q.values

    go : Cuts y wide → Cuts y q → Cuts y r → bit (splits y wide || any (splits y) qs) ≤ bit (splits y q || any (splits y) qs) + bit (y.0 =? q.start.0)
    go (splits-it d i j) (splits-it f k l) w = simp (d, f) (omega arith)
    go (splits-it d i j) (past f k) w = absurd (omega arith)
    go (splits-it d i j) (at_most f k) (splits-it g n o) = absurd (true≢false (sym g ∙ u))
    go (splits-it d i j) (at_most f k) (at_most g n) = absurd (omega arith)
    go (splits-it d i j) (at_most f k) (past g n) =
        simp (d, eq-eqb y.0 q.start.0 (omega arith)) (omega (arith, bit-small (splits y q || any (splits y) qs)))
    go (at_most d i) v w = simp d (omega (arith, or-more (splits y q) (any (splits y) qs)))
    go (past d i) v w = simp d (omega (arith, or-more (splits y q) (any (splits y) qs)))

module _ (a e : HostAddr) (l : a.0 < e.0) where
  -- regions, and one more for each of the two addresses that is strictly inside one
  abbrev cut_length : List Region → ℕ
  cut_length rs = length rs + bit (any (splits a) rs) + bit (any (splits e) rs)

  join-cuts : (lo : ℕ) (r : Region) (rs : List Region) → Ordered lo (r ∷ rs) → splits a r ≡ false → splits e r ≡ false
      → cut_length (join r rs) ≤ suc (cut_length rs)
  unfolding join joins
  join-cuts lo r [] o u v = simp (u, v) (omega arith)
  join-cuts lo r (q ∷ qs) o u v = go (r.end.0 =? q.start.0) refl (same r.values q.values) refl
    where
      -- the border is one of the two addresses at most
      one : bit (a.0 =? q.start.0) + bit (e.0 =? q.start.0) ≤ 1
      one = at (a.0 =? q.start.0) refl
        where
          at : (t : Bool) → (a.0 =? q.start.0) ≡ t → bit t + bit (e.0 =? q.start.0) ≤ 1
          at true d = rw (ne_eqb e.0 q.start.0 (omega (arith, eqb-true a.0 q.start.0 d))) (omega arith)
          at false d = omega (arith, bit-small (e.0 =? q.start.0))

      apart : joins r q ≡ false → cut_length (join r (q ∷ qs)) ≤ suc (cut_length (q ∷ qs))
      apart d = simp (d, u, v) (omega arith)

      go : (s : Bool) → (r.end.0 =? q.start.0) ≡ s → (t : Bool) → same r.values q.values ≡ t → cut_length (join r (q ∷ qs)) ≤ suc (cut_length (q ∷ qs))
      go true d true f =
          let m : r.end.0 ≡ q.start.0 = eqb-true r.end.0 q.start.0 d in
          simp (d, f) (omega (arith, join-splits a r q qs m u, join-splits e r q qs m v, one))
      go true d false f = apart (simp (d, f))
      go false d t f = apart (simp d)

  joined-cuts : (lo : ℕ) (rs : List Region) → Ordered lo rs → Uncut a rs → Uncut e rs → cut_length (joined rs) ≤ length rs
  unfolding joined
  joined-cuts lo [] o u v = omega arith
  joined-cuts lo (r ∷ rs) o u v =
      omega (
        arith,
        join-cuts lo r (joined rs) (o.0, o.1, joined-ordered r.end.0 rs o.2) u.0 v.0,
        joined-cuts r.end.0 rs o.2 u.1 v.1,
      )

  -- the records after an add, and both cuts of a remove, are no more than the add had at its peak
  pub peak-back : (k : ℕ) (f : HostAddr → Values) → e.0 ≤ 2 ^ 64 → Blank f
      → cut_length (regions (changed_in (raise k) a e f)) ≤ length (regions f) + new_records a e f
  unfolding added peak
  peak-back k f h b =
      let rs = regions f in
      let o = cut-ordered e 0 (cut a rs) (cut-ordered a 0 rs (regions-runs f).ordered) in
      let p = change (raise k) a e (peak a e rs) in
      let m : cut_length (added a e k rs) ≤ length p =
      joined-cuts 0 p (change-ordered (raise k) a e 0 (peak a e rs) (fill-ordered a e 0 (cut e (cut a rs)) o (omega arith)))
      (change-uncut (raise k) a e a (peak a e rs) (fill-uncut a a e (cut e (cut a rs)) (λ i j. omega arith) (cut_keeps a e (cut a rs) (cut-uncut a 0 rs (regions-runs f).ordered))))
      (change-uncut (raise k) a e e (peak a e rs) (fill-uncut e a e (cut e (cut a rs)) (λ i j. omega arith) (cut-uncut e 0 (cut a rs) (cut-ordered a 0 rs (regions-runs f).ordered)))) in
      let n : cut_length (regions (changed_in (raise k) a e f)) ≤ length p = rw (added_is a e k f b h) at m in
      omega (arith, n, length-change (raise k) a e (peak a e rs), peak-grows a e f l h b)

-- ---- it is there to be taken back: questions 6 and 7, since a held address has a region that begins at or below it, and the last
-- such reaches above it

begun-none : (a : HostAddr) (lo : ℕ) (rs : List Region) → Ordered lo rs → a.0 < lo → begun a rs ≡ []
unfolding begun
begun-none a lo [] o h = refl
begun-none a lo (r ∷ rs) o h =
    simp (lt-leb r.start.0 a.0 (omega arith)) (begun-none a r.end.0 rs o.2 (omega arith))

held-begun : (a : HostAddr) (lo : ℕ) (rs : List Region) → Ordered lo rs → held (values_at rs a) ≡ true → (n : ℕ)
    → (1 ≤ length (begun a rs)) × (a.0 < last_end n (begun a rs))
unfolding values_at has begun last_end
held-begun a lo [] o h n = absurd (held-nothing h)
held-begun a lo (r ∷ rs) o h n = go (where? r.start.0 r.end.0 a.0) h (λ k. held-begun a r.end.0 rs o.2 k r.end.0)
  where
    go : Where r.start.0 r.end.0 a.0 → held (values_at (r ∷ rs) a) ≡ true
        → (held (values_at rs a) ≡ true → (1 ≤ length (begun a rs)) × (a.0 < last_end r.end.0 (begun a rs)))
        → (1 ≤ length (begun a (r ∷ rs))) × (a.0 < last_end n (begun a (r ∷ rs)))
    go (inn d i j) k ih =
        let z : keep (λ q. q.start.0 ≤? a.0) rs ≡ [] = begun-none a r.end.0 rs o.2 j in
        simp (le-leb r.start.0 a.0 i, z) (omega arith, j)
    go (low d i) k ih = absurd (held-nothing (ap held (sym (simp d (nothing-below a r.end.0 rs o.2 (omega arith)))) ∙ k))
    go (high d i j) k ih =
        let p = ih (simp d at k) in simp (le-leb r.start.0 a.0 (omega arith)) (omega arith, p.1)

-- and question 8, since every named count of the range was raised

from_all : (p : HostAddr → Bool) (y n : ℕ) → ((x : HostAddr) → y ≤ x.0 → x.0 < y + n → p x ≡ true) → all p (addresses_from y n) ≡ true
unfolding addresses_from host
from_all p y zero h = refl
from_all p y (suc n) h = rw (h (host y) (omega arith) (omega arith), from_all p (suc y) n (λ x i j. h x (omega arith) (omega arith)))

pub each-address : (p : HostAddr → Bool) (a e : HostAddr) → ((x : HostAddr) → a.0 ≤ x.0 → x.0 < e.0 → p x ≡ true) → all p (addresses a e) ≡ true
unfolding addresses
each-address p a e h = from_all p a.0 (e.0 - a.0) (λ x i j. h x i (omega arith))

all_keep : (p : Values → Bool) (m : Region → Bool) (rs : List Region) → all (λ q. p q.values) (keep m rs) ≡ all (λ q. not (m q) || p q.values) rs
all_keep p m [] = refl
all_keep p m (r ∷ rs) = go (m r) refl (all_keep p m rs)
  where
    go : (b : Bool) → m r ≡ b → all (λ q. p q.values) (keep m rs) ≡ all (λ q. not (m q) || p q.values) rs
        → all (λ q. p q.values) (keep m (r ∷ rs)) ≡ all (λ q. not (m q) || p q.values) (r ∷ rs)
    go true d ih = simp (d, ih)
    go false d ih = simp (d, ih)

raised-named : (k : ℕ) (v : Values) → every_named (λ n. 0 <? n) k (raise k v) ≡ true
unfolding every_named raise
raised-named k v = all_true (λ t. (named t k =? 0) || (0 <? count_of t (raise k v))) (λ t. go t (named t k =? 0) refl) RIGHTS
  where
    go : (t : Right) (b : Bool) → (named t k =? 0) ≡ b → ((named t k =? 0) || (0 <? count_of t (raise k v))) ≡ true
    go t true d = simp d
    go t false d =
        let n : named t k ≡ 0 → ⊥ = eqb-false (named t k) 0 d in
        simp (lt-ltb 0 (count_of t (raise k v)) (omega (arith, count-made (v.refcount + 1) (λ t. count_of t v + named t k) t)), or-true)

module _ (a e : HostAddr) (k : ℕ) (f : HostAddr → Values) (l : a.0 < e.0) (h : e.0 ≤ 2 ^ 64) (b : Blank f) where
  abbrev raised : HostAddr → Values
  raised = changed_in (raise k) a e f

  raised_at : (x : HostAddr) → a.0 ≤ x.0 → x.0 < e.0 → raised x ≡ raise k (f x)
  unfolding changed_in
  raised_at x i j = simp (in-true a.0 e.0 x.0 i j)

  pub reached : (1 ≤ length (begun a (regions raised))) × (a.0 < last_end 0 (begun a (regions raised)))
  reached =
      let v : values_at (regions raised) a ≡ raised a =
      regions-values raised (raised-blank a e k f b) a ∙ simp (lt-ltb a.0 (2 ^ 64) (omega arith)) in
      held-begun a 0 (regions raised) (regions-runs raised).ordered (ap held (v ∙ raised_at a (omega arith) l) ∙ raise-held k (f a)) 0

  pub lowerable : can_lower a e k (regions raised) ≡ true
  unfolding can_lower
  lowerable =
      let p : Values → Bool = every_named (λ n. 0 <? n) k in
      let each : all (λ x. p (raised x)) (addresses a e) ≡ true = each-address (λ x. p (raised x)) a e (λ x i j. ap p (raised_at x i j) ∙ raised-named k (f x)) in
      all_keep p (meets a e) (regions raised)
      ∙ (both (not (0 <? length (gaps a e (regions raised))) || p nothing) (all (λ q. not (meets a e q) || p q.values) (regions raised)) (sym (all-is a e raised l h (raised-blank a e k f b) p) ∙ each)).1

-- ---- the remove is accepted

-- under the same allowance, even one that the add used to the last record
module _ (k : ℕ) (a e : HostAddr) (r : ℕ) (c : Compartment) (h : e.0 ≤ 2 ^ 64) (b : Blank c.values) (m : ℕ) where
  pub removable : accepted (on_add m c a e r) ≡ true → accepted (on_remove m (reckon (Add k a e r) c) a e r) ≡ true
  unfolding on_remove reckon with_values
  removable y =
      let p = add-passed m c a e r y in
      ranged-asked a e r _ p.rights p.range (λ d.
      let ne : a.0 ≡ e.0 → ⊥ = eqb-false a.0 e.0 d in
      let l : a.0 < e.0 = omega (arith, p.range) in
      let f : HostAddr → Values = changed_in (raise r) a e c.values in
      let q = reached a e r c.values l h b in
      let room = peak-back a e l r c.values h b in
      asked _ _ (
        le-leb 1 (length (begun a (regions f))) q.0,
        (
          lt-ltb a.0 (last_end 0 (begun a (regions f))) q.1,
          (
            cuts-fit (length (regions f)) m a e (regions f) (omega (arith, p.records d, room)) (λ s. omega (arith, p.records d, room, ap bit s)),
            (lowerable a e r c.values l h b, tt),
          ),
        ),
      )
      refl)

-- ---- the loan: an add is accepted, and what happens then leaves the compartment and its allowance as they are

module _ (k : ℕ) (a e : HostAddr) (r : ℕ) (h : e.0 ≤ 2 ^ 64) (s t : State) (l : length s.compartments ≡ 8)
    (b : Blank (compartment s k).values) (lent : accepted (answer s (Add k a e r)) ≡ true) (m : length t.compartments ≡ 8)
    (kept : compartment t k ≡ compartment (next s (Add k a e r)) k) (allowed : allowance t k ≡ allowance s k) where
  there : compartment t k ≡ reckon (Add k a e r) (compartment s k)
  unfolding compartment_of
  there = kept ∙ next-same s (Add k a e r) l lent

  handed-back : accepted (answer t (Remove k a e r)) ≡ true
  unfolding answer answer_in compartment_of
  handed-back =
      let p = accepted-in s (Add k a e r) lent in
      asked _ _ (lt-ltb k 8 p.0, tt) (rw (there, allowed) (removable k a e r (compartment s k) h b (allowance s k) p.1))

  no-trace : compartment (next t (Remove k a e r)) k ≡ compartment s k
  unfolding compartment_of
  no-trace =
      next-same t (Remove k a e r) m handed-back ∙ ap (reckon (Remove k a e r)) there ∙ reckoned-back k a e r (compartment s k) b

  pub leaves-no-trace : LeavesNoTrace k a e r s t
  unfolding allows
  leaves-no-trace = record {
    taken = handed-back;
    left = no-trace;
    records = ap (λ c. regions c.values) no-trace;
    segments = ap (λ c. c.segments) no-trace;
    stream = ap stream_of no-trace;
    allowing = allowance-kept t (Remove k a e r) k refl ∙ allowed;
  }

-- ---- nobody has touched it: what is for another compartment, and what only reads, leaves this one and its allowance as they are

-- a read changes nothing
reads-leave : (c : Call) → reads (single c) ≡ true → ((d : Compartment) → reckon c d ≡ d) × (allows c ≡ false)
unfolding reads reckon allows
reads-leave (Allow k n) h = absurd (true≢false (sym h))
reads-leave (Add k a e r) h = absurd (true≢false (sym h))
reads-leave (Remove k a e r) h = absurd (true≢false (sym h))
reads-leave (Refcount k a e) h = (λ d. refl, refl)
reads-leave (Overlaps k g n) h = (λ d. refl, refl)
reads-leave (Map k p g n t) h = absurd (true≢false (sym h))
reads-leave (Unmap k p n) h = absurd (true≢false (sym h))
reads-leave (UnmapGpa k g n) h = absurd (true≢false (sym h))
reads-leave (Permissions k i n) h = (λ d. refl, refl)
reads-leave (Remap k i n) h = (λ d. refl, refl)
reads-leave (Mappings k) h = (λ d. refl, refl)

module _ (k : ℕ) where
  -- the compartment and its allowance are in both states the same
  abbrev Kept : State → State → Type 0
  Kept s t = (compartment t k ≡ compartment s k) × (allowance t k ≡ allowance s k)

  read_kept : (s : State) → length s.compartments ≡ 8 → (x : Step) → reads x ≡ true → Kept s (step_leaves s x)
  unfolding reads step_leaves step_calls after_from
  read_kept s l (bundle j ns) h = absurd (true≢false (sym h))
  read_kept s l (single c) h =
      let r = reads-leave c h in
      (next-at s c k l ∙ go (compartment_of c =? k) (accepted (answer s c)) r.0, allowance-kept s c k r.1)
    where
      go : (t u : Bool) → ((d : Compartment) → reckon c d ≡ d) → (if t && u then reckon c (compartment s k) else compartment s k) ≡ compartment s k
      go true true e = e (compartment s k)
      go true false e = refl
      go false u e = refl

  other-allowed : (s : State) (c : Call) → (compartment_of c =? k) ≡ false → allowance (next s c) k ≡ allowance s k
  unfolding allowance
  other-allowed s c e = go (accepted (answer s c)) refl
    where
      go : (t : Bool) → accepted (answer s c) ≡ t → allowance (next s c) k ≡ allowance s k
      go true d =
          let q : k ≡ compartment_of c → ⊥ = λ p. eqb-false (compartment_of c) k e (sym p) in
          rw (next-allowed s c d) (simp get_or-set_other)
      go false d = ap (λ t. get_or t.allowances k 0) (next-refused s c d)

  -- no call of a bundle is S
  bundle-allowed : (j : ℕ) (calls : List Call) (s : State) → Own j calls → allowance (after_from s calls) k ≡ allowance s k
  unfolding after_from
  bundle-allowed j [] s h = refl
  bundle-allowed j (c ∷ cs) s h = bundle-allowed j cs (next s c) h.1 ∙ allowance-kept s c k (own_is j c h.0).1

  step-allowed : (s : State) (x : Step) → (step_of x =? k) ≡ false → allowance (step_leaves s x) k ≡ allowance s k
  unfolding step_of step_leaves step_calls counted after_from
  step-allowed s (single c) e = other-allowed s c e
  step-allowed s (bundle j ns) e = go (accepted (bundle_answer s j (bundle_of j ns)))
    where
      go : (t : Bool) → allowance (after_from s (if t then calls_in (bundle_of j ns) else [])) k ≡ allowance s k
      go true = bundle-allowed j (calls_in (bundle_of j ns)) s (bundle-own j ns)
      go false = refl

  others-own : (x : Step) → (step_of x =? k) ≡ false → own k x ≡ false
  unfolding step_of own
  others-own (single c) e = rw e
  others-own (bundle j ns) e = e

  step_kept : (s : State) → length s.compartments ≡ 8 → (x : Step) → (not (step_of x =? k) || reads x) ≡ true → Kept s (step_leaves s x)
  step_kept s l x h = go (step_of x =? k) refl h
    where
      go : (t : Bool) → (step_of x =? k) ≡ t → (not t || reads x) ≡ true → Kept s (step_leaves s x)
      go true e r = read_kept s l x r
      go false e r = (step_other k s l x (others-own x e), step-allowed s x e)

  kept-steps : (xs : List Step) (s : State) → length s.compartments ≡ 8 → undisturbed k xs ≡ true → Kept s (done_from s xs)
  unfolding done_from
  kept-steps [] s l h = (refl, refl)
  kept-steps (x ∷ xs) s l h =
      let p = both (not (step_of x =? k) || reads x) (undisturbed k xs) h in
      let now = step_kept s l x p.0 in
      let later = kept-steps xs (step_leaves s x) (step-length k s l x) p.1 in
      (later.0 ∙ now.0, later.1 ∙ now.1)

-- ---- Over every run of calls and bundles: after an accepted add, and any calls and bundles for other compartments, and reads

pub loan : (steps between : List Step) (k : ℕ) (a e : HostAddr) (r : ℕ) → e.0 ≤ 2 ^ 64
    → accepted (answer (done steps) (Add k a e r)) ≡ true → undisturbed k between ≡ true
    → LeavesNoTrace k a e r (done steps) (done (steps ++ (single (Add k a e r) ∷ between)))
unfolding allows done_from step_leaves step_calls after_from
loan steps between k a e r h lent apart =
    let s : State = done steps in
    let o = kept-steps k between (next s (Add k a e r)) (length-next s (Add k a e r) ∙ done-length steps) apart in
    rw (done-append steps (single (Add k a e r) ∷ between)) (
    leaves-no-trace k a e r h s (done_from (next s (Add k a e r)) between) (done-length steps)
    (rw (← (run-leaves-its-calls steps)) at (stored (calls_of steps) k).blank) lent
    (rw (done-append steps (single (Add k a e r) ∷ between)) at (done-length (steps ++ (single (Add k a e r) ∷ between)))) o.0 (o.1 ∙ allowance-kept s (Add k a e r) k refl))

-- and so over every list of calls
pub loan-of-calls : (calls between : List Call) (k : ℕ) (a e : HostAddr) (r : ℕ) → e.0 ≤ 2 ^ 64
    → accepted (answer (after calls) (Add k a e r)) ≡ true → undisturbed k (map single between) ≡ true
    → LeavesNoTrace k a e r (after calls) (after (calls ++ (Add k a e r ∷ between)))
loan-of-calls calls between k a e r h lent apart =
    rw (← (calls-leave calls), ← (calls-leave (calls ++ (Add k a e r ∷ between))), map-append single calls (Add k a e r ∷ between))
    (loan (map single calls) (map single between) k a e r h (rw (calls-leave calls) lent) apart)
