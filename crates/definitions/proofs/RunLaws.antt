-- The longest runs are determined by the values of the addresses.
use Rattle.std.specs.Prelude.{if◌then◌else◌}
use Prim.Native.Nat.{ℕ, zero, suc, ◌+◌, ◌^◌, ◌<◌, ◌≤◌}
use mathlib.Core.Path.{◌≡◌, refl, sym, ap, ◌∙◌, ap₂}
use mathlib.Core.Bool.{Bool, true, false, true≢false}
use mathlib.Core.List.{List, [], ◌∷◌}
use native.Mathlib.Omega.{arith}
use borrow.Author.Tests.{ltb-true, ltb-false, lt-ltb, le-ltb, eq-eqb}
use Rattle.definitions.specs.Tests.{◌<?◌, inside, host}
use Rattle.definitions.proofs.Bools.{Where, inn, low, high, where?, in-true, in-low, in-high, in-ext, in-empty}
use Rattle.definitions.specs.Values.{nothing, held}
use Rattle.definitions.specs.Regions.{region, has, joins, join, joined, singles, regions_below, regions}
use Rattle.definitions.proofs.RightLaws.{same_refl}
use Rattle.definitions.proofs.Lists.{values_at, Ordered, AllHeld, Ends, Longest, Runs, Blank}
use Rattle.definitions.proofs.RegionLaws.{nothing-below, ordered-from, joined-ordered, joined-values}
use Rattle.definitions.specs.declared.addr.HostAddr.{HostAddr}
use Rattle.definitions.specs.declared.region.Values.{Values}
use Rattle.definitions.specs.declared.region.Region.{Region}

pub host-eq : (x y : HostAddr) → x.0 ≡ y.0 → x ≡ y
host-eq x y p = λ i. record { 0 = p i }

ends-run : (s : HostAddr) (q : Region) (qs : List Region) → Ends q qs → Ends (region s q.end q.values) qs
unfolding joins region
ends-run s q [] h = tt
ends-run s q (p ∷ ps) h = h

join-longest : (r : Region) (rs : List Region) → Longest rs → Longest (join r rs)
unfolding join
join-longest r [] l = (tt, tt)
join-longest r (q ∷ qs) l = go (joins r q) refl
  where
    go : (t : Bool) → joins r q ≡ t → Longest (join r (q ∷ qs))
    go true d = simp d (ends-run r.start q qs l.0, l.1)
    go false d = simp d (refl, l)

pub joined-longest : (rs : List Region) → Longest (joined rs)
unfolding joined
joined-longest [] = tt
joined-longest (r ∷ rs) = join-longest r (joined rs) (joined-longest rs)

join-full : (r : Region) (rs : List Region) → held r.values ≡ true → AllHeld rs → AllHeld (join r rs)
unfolding join region
join-full r [] h l = (h, tt)
join-full r (q ∷ qs) h l = go (joins r q) refl
  where
    go : (t : Bool) → joins r q ≡ t → AllHeld (join r (q ∷ qs))
    go true d = simp d (l.0, l.1)
    go false d = simp d (h, l)

pub joined-full : (rs : List Region) → AllHeld rs → AllHeld (joined rs)
unfolding joined
joined-full [] l = tt
joined-full (r ∷ rs) l = join-full r (joined rs) l.0 (joined-full rs l.1)

-- the first region of two tables that say the same of each address
pub held-nothing : held nothing ≡ true → ⊥
unfolding held nothing
held-nothing e = true≢false (sym e)

pub value-at-start : (lo : ℕ) (r : Region) (rs : List Region) → Ordered lo (r ∷ rs) → values_at (r ∷ rs) r.start ≡ r.values
unfolding values_at has
value-at-start lo r rs o = simp (in-true r.start.0 r.end.0 r.start.0 (omega arith) (omega arith))

-- one does not begin below the other
start-le : (lo : ℕ) (r q : Region) (rs qs : List Region) → Ordered lo (r ∷ rs) → Ordered lo (q ∷ qs) → held r.values ≡ true
    → ((x : HostAddr) → values_at (r ∷ rs) x ≡ values_at (q ∷ qs) x) → q.start.0 ≤ r.start.0
start-le lo r q rs qs o u h e = go (r.start.0 <? q.start.0) refl
  where
    go : (t : Bool) → (r.start.0 <? q.start.0) ≡ t → q.start.0 ≤ r.start.0
    go false d = ltb-false _ _ d
    go true d =
        let v : r.values ≡ nothing = sym (value-at-start lo r rs o) ∙ e r.start ∙ nothing-below r.start q.start.0 (q ∷ qs) (omega arith, u.1, u.2) (ltb-true _ _ d) in
        absurd (held-nothing (rw v at h))

joins_true : (r q : Region) → r.end.0 ≡ q.start.0 → r.values ≡ q.values → joins r q ≡ true
unfolding joins
joins_true r q e v = rw (e, v) (simp (eq-eqb q.start.0 q.start.0 refl, same_refl))

-- what follows a longest region, at its end, has other values
ends-fact : (r : Region) (rs : List Region) → Ordered r.end.0 rs → held r.values ≡ true → Ends r rs → values_at rs r.end ≡ r.values → ⊥
unfolding values_at
ends-fact r [] o h l e = held-nothing (rw (← e) at h)
ends-fact r (p ∷ ps) o h l e = go (r.end.0 <? p.start.0) refl
  where
    go : (t : Bool) → (r.end.0 <? p.start.0) ≡ t → ⊥
    go true d = held-nothing (rw (sym e ∙ nothing-below r.end p.start.0 (p ∷ ps) (omega arith, o.1, o.2) (ltb-true _ _ d)) at h)
    go false d =
        let s : r.end.0 ≡ p.start.0 = omega (arith, ltb-false r.end.0 p.start.0 d) in
        let v : p.values ≡ r.values = sym (value-at-start r.end.0 p ps o) ∙ ap (λ x. values_at (p ∷ ps) x) (sym (host-eq r.end p.start s)) ∙ e in
        true≢false (sym (joins_true r p s (sym v)) ∙ l)

end-le : (lo : ℕ) (r q : Region) (rs qs : List Region) → Ordered lo (r ∷ rs) → Ordered lo (q ∷ qs) → held r.values ≡ true → Ends r rs
    → r.start.0 ≡ q.start.0 → r.values ≡ q.values → ((x : HostAddr) → values_at (r ∷ rs) x ≡ values_at (q ∷ qs) x) → q.end.0 ≤ r.end.0
unfolding values_at has
end-le lo r q rs qs o u h l s v e = go (r.end.0 <? q.end.0) refl
  where
    go : (t : Bool) → (r.end.0 <? q.end.0) ≡ t → q.end.0 ≤ r.end.0
    go false d = ltb-false _ _ d
    go true d =
        absurd (ends-fact r rs o.2 h l
        ((simp (in-high r.start.0 r.end.0 r.end.0 (omega arith), in-true q.start.0 q.end.0 r.end.0 (omega arith) (ltb-true _ _ d)) at (e r.end)) ∙ sym v))

tail-values : (lo : ℕ) (r : Region) (rs : List Region) (x : HostAddr) → Ordered lo (r ∷ rs)
    → values_at rs x ≡ (if x.0 <? r.end.0 then nothing else values_at (r ∷ rs) x)
unfolding values_at has
tail-values lo r rs x o = go (x.0 <? r.end.0) refl
  where
    go : (t : Bool) → (x.0 <? r.end.0) ≡ t → values_at rs x ≡ (if x.0 <? r.end.0 then nothing else values_at (r ∷ rs) x)
    go true d = simp d (nothing-below x r.end.0 rs o.2 (ltb-true _ _ d))
    go false d = simp (d, in-high r.start.0 r.end.0 x.0 (ltb-false _ _ d))

-- two tables of longest runs that say the same of each address are equal
pub unique : (lo : ℕ) (rs qs : List Region) → Ordered lo rs → AllHeld rs → Longest rs → Ordered lo qs → AllHeld qs → Longest qs
    → ((x : HostAddr) → values_at rs x ≡ values_at qs x) → rs ≡ qs
unfolding values_at
unique lo [] [] o h l o' h' l' e = refl
unique lo [] (q ∷ qs) o h l o' h' l' e =
    absurd (held-nothing (rw (sym (value-at-start lo q qs o') ∙ sym (e q.start)) at h'.0))
unique lo (r ∷ rs) [] o h l o' h' l' e =
    absurd (held-nothing (rw (sym (value-at-start lo r rs o) ∙ e r.start) at h.0))
unique lo (r ∷ rs) (q ∷ qs) o h l o' h' l' e =
    let s : r.start.0 ≡ q.start.0 = omega (arith, start-le lo r q rs qs o o' h.0 e, start-le lo q r qs rs o' o h'.0 (λ x. sym (e x))) in
    let v : r.values ≡ q.values = sym (value-at-start lo r rs o) ∙ e r.start ∙ ap (λ x. values_at (q ∷ qs) x) (host-eq r.start q.start s) ∙ value-at-start lo q qs o' in
    let n : r.end.0 ≡ q.end.0 = omega (arith, end-le lo r q rs qs o o' h.0 l.0 s v e, end-le lo q r qs rs o' o h'.0 l'.0 (sym s) (sym v) (λ x. sym (e x))) in
    let t : rs ≡ qs = unique r.end.0 rs qs o.2 h.1 l.1 (rw (← n) at o'.2) h'.1 l'.1
    (λ x. tail-values lo r rs x o ∙ ap₂ (λ (m : ℕ) (w : Values). if x.0 <? m then nothing else w) n (e x) ∙ sym (tail-values lo q qs x o')) in
    λ i. record { start = record { 0 = s i }; end = record { 0 = n i }; values = v i } ∷ t i

pub unique-runs : (lo : ℕ) (rs qs : List Region) → Runs lo rs → Runs lo qs → ((x : HostAddr) → values_at rs x ≡ values_at qs x) → rs ≡ qs
unique-runs lo rs qs c d = unique lo rs qs c.ordered c.full c.longest d.ordered d.full d.longest

singles-ordered : (f : HostAddr → Values) (x n : ℕ) → Ordered x (singles f x n)
unfolding singles region host
singles-ordered f x zero = tt
singles-ordered f x (suc n) = go (held (f (host x))) refl (singles-ordered f (suc x) n)
  where
    go : (t : Bool) → held (f (host x)) ≡ t → Ordered (suc x) (singles f (suc x) n) → Ordered x (singles f x (suc n))
    go true d ih = simp d (omega arith, omega arith, ih)
    go false d ih = simp d (ordered-from (suc x) x (singles f (suc x) n) (omega arith) ih)

singles-full : (f : HostAddr → Values) (x n : ℕ) → AllHeld (singles f x n)
unfolding singles region
singles-full f x zero = tt
singles-full f x (suc n) = go (held (f (host x))) refl (singles-full f (suc x) n)
  where
    go : (t : Bool) → held (f (host x)) ≡ t → AllHeld (singles f (suc x) n) → AllHeld (singles f x (suc n))
    go true d ih = simp d (refl, ih)
    go false d ih = simp d ih

singles-values : (f : HostAddr → Values) → Blank f → (x n : ℕ) (y : HostAddr)
    → values_at (singles f x n) y ≡ (if inside x (x + n) y.0 then f y else nothing)
unfolding singles values_at has region host
singles-values f b x zero y = simp (in-empty x (x + 0) y.0 (omega arith))
singles-values f b x (suc n) y = go (held (f (host x))) refl (where? x (suc x) y.0) (singles-values f b (suc x) n y)
  where
    rest : suc x ≤ y.0 → (if inside (suc x) (suc x + n) y.0 then f y else nothing) ≡ (if inside x (x + suc n) y.0 then f y else nothing)
    rest i = ap (λ c. if c then f y else nothing) (in-ext (suc x) (suc x + n) x (x + suc n) y.0 (omega arith) (omega arith))

    go : (t : Bool) → held (f (host x)) ≡ t → Where x (suc x) y.0
        → values_at (singles f (suc x) n) y ≡ (if inside (suc x) (suc x + n) y.0 then f y else nothing)
        → values_at (singles f x (suc n)) y ≡ (if inside x (x + suc n) y.0 then f y else nothing)
    go true d (inn e i j) ih =
        simp (d, e, in-true x (x + suc n) y.0 i (omega arith)) (ap f (host-eq (host x) y (omega arith)))
    go true d (low e i) ih = simp (d, e, ih, in-low (suc x) (suc x + n) y.0 (omega arith), in-low x (x + suc n) y.0 i)
    go true d (high e i j) ih = simp (d, e, ih) (rest j)
    go false d (inn e i j) ih =
        simp (d, ih, in-low (suc x) (suc x + n) y.0 j, in-true x (x + suc n) y.0 i (omega arith))
        (sym (b y (ap (λ z. held (f z)) (host-eq y (host x) (omega arith)) ∙ d)))
    go false d (low e i) ih = simp (d, ih, in-low (suc x) (suc x + n) y.0 (omega arith), in-low x (x + suc n) y.0 i)
    go false d (high e i j) ih = simp (d, ih) (rest j)

-- where two functions agree, the single addresses do
singles-ext : (f g : HostAddr → Values) (x n m : ℕ) → x + n ≤ m → ((y : HostAddr) → y.0 < m → f y ≡ g y) → singles f x n ≡ singles g x n
unfolding singles host
singles-ext f g x zero m l h = refl
singles-ext f g x (suc n) m l h = rw (h (host x) (omega arith), singles-ext f g (suc x) n m (omega arith) h)

-- made address by address, the runs are ordered, held, longest, and have each address's values
pub below-runs : (f : HostAddr → Values) (n : ℕ) → Runs 0 (regions_below f n)
unfolding regions_below
below-runs f n = record {
  ordered = joined-ordered 0 (singles f 0 n) (singles-ordered f 0 n);
  full = joined-full (singles f 0 n) (singles-full f 0 n);
  longest = joined-longest (singles f 0 n);
}

pub below-values : (f : HostAddr → Values) → Blank f → (n : ℕ) (y : HostAddr) → values_at (regions_below f n) y ≡ (if y.0 <? n then f y else nothing)
unfolding regions_below
below-values f b n y =
    joined-values 0 (singles f 0 n) y (singles-ordered f 0 n) ∙ singles-values f b 0 n y ∙ ap (λ c. if c then f y else nothing) (go (where? 0 (0 + n) y.0))
  where
    go : Where 0 (0 + n) y.0 → inside 0 (0 + n) y.0 ≡ (y.0 <? n)
    go (inn e i j) = e ∙ sym (lt-ltb y.0 n (omega arith))
    go (low e i) = absurd (omega arith)
    go (high e i j) = e ∙ sym (le-ltb y.0 n (omega arith))

pub blank-table : (rs : List Region) → AllHeld rs → Blank (values_at rs)
unfolding values_at
blank-table [] h y e = refl
blank-table (r ∷ rs) h y e = go (has r y) refl e (λ k. blank-table rs h.1 y k)
  where
    go : (t : Bool) → has r y ≡ t → held (if has r y then r.values else values_at rs y) ≡ false → (held (values_at rs y) ≡ false → values_at rs y ≡ nothing)
        → (if has r y then r.values else values_at rs y) ≡ nothing
    go true d k ih = absurd (true≢false (sym h.0 ∙ simp d at k))
    go false d k ih = simp d (ih (simp d at k))

-- a table of longest runs below n is what is made address by address
pub table_is : (n : ℕ) (rs : List Region) → Runs 0 rs → ((y : HostAddr) → n ≤ y.0 → values_at rs y ≡ nothing) → rs ≡ regions_below (values_at rs) n
table_is n rs c z = unique-runs 0 rs (regions_below (values_at rs) n) c (below-runs (values_at rs) n) (λ y. go y (y.0 <? n) refl)
  where
    go : (y : HostAddr) (t : Bool) → (y.0 <? n) ≡ t → values_at rs y ≡ values_at (regions_below (values_at rs) n) y
    go y true d = rw (below-values (values_at rs) (blank-table rs c.full) n y, d)
    go y false d = rw (below-values (values_at rs) (blank-table rs c.full) n y, d) (z y (ltb-false y.0 n d))

-- what is made depends on the addresses below the bound only
pub below-ext : (f g : HostAddr → Values) (n : ℕ) → ((x : HostAddr) → x.0 < n → f x ≡ g x) → regions_below f n ≡ regions_below g n
unfolding regions_below
below-ext f g n h = ap joined (singles-ext f g 0 n n (omega arith) h)

-- where nothing is held from n on, only what is below n counts
below_more : (f : HostAddr → Values) → Blank f → (n m : ℕ) → n ≤ m → ((y : HostAddr) → n ≤ y.0 → f y ≡ nothing) → regions_below f m ≡ regions_below f n
below_more f b n m h z =
    unique-runs 0 (regions_below f m) (regions_below f n) (below-runs f m) (below-runs f n)
    (λ y. below-values f b m y ∙ go y (y.0 <? m) (y.0 <? n) refl refl ∙ sym (below-values f b n y))
  where
    go : (y : HostAddr) (s t : Bool) → (y.0 <? m) ≡ s → (y.0 <? n) ≡ t → (if y.0 <? m then f y else nothing) ≡ (if y.0 <? n then f y else nothing)
    go y true true d e = simp (d, e)
    go y true false d e = simp (d, e) (z y (ltb-false y.0 n e))
    go y false true d e = absurd (omega (arith, ltb-true y.0 n e, ltb-false y.0 m d))
    go y false false d e = simp (d, e)

-- the same at 2 ^ 64
pub regions-below : (f : HostAddr → Values) → Blank f → (n : ℕ) → n ≤ 2 ^ 64 → ((y : HostAddr) → n ≤ y.0 → f y ≡ nothing) → regions f ≡ regions_below f n
unfolding regions
regions-below f b n = below_more f b n (2 ^ 64)

pub regions-runs : (f : HostAddr → Values) → Runs 0 (regions f)
unfolding regions
regions-runs f = below-runs f (2 ^ 64)

pub regions-values : (f : HostAddr → Values) → Blank f → (x : HostAddr) → values_at (regions f) x ≡ (if x.0 <? 2 ^ 64 then f x else nothing)
unfolding regions
regions-values f b = below-values f b (2 ^ 64)

pub regions-ext : (f g : HostAddr → Values) → ((x : HostAddr) → x.0 < 2 ^ 64 → f x ≡ g x) → regions f ≡ regions g
unfolding regions
regions-ext f g = below-ext f g (2 ^ 64)

-- no region reaches past 2 ^ 64
abbrev pub EndBy : ℕ → List Region → Type 0
EndBy n [] = Unit {0}
EndBy n (r ∷ rs) = (r.end.0 ≤ n) × EndBy n rs

singles-end : (f : HostAddr → Values) (x n m : ℕ) → x + n ≤ m → EndBy m (singles f x n)
unfolding singles region host
singles-end f x zero m l = tt
singles-end f x (suc n) m l = go (held (f (host x))) refl (singles-end f (suc x) n m (omega arith))
  where
    go : (t : Bool) → held (f (host x)) ≡ t → EndBy m (singles f (suc x) n) → EndBy m (singles f x (suc n))
    go true d ih = simp d (omega arith, ih)
    go false d ih = simp d ih

join-end : (n : ℕ) (r : Region) (rs : List Region) → r.end.0 ≤ n → EndBy n rs → EndBy n (join r rs)
unfolding join region
join-end n r [] l h = (l, tt)
join-end n r (q ∷ qs) l h = go (joins r q) refl
  where
    go : (t : Bool) → joins r q ≡ t → EndBy n (join r (q ∷ qs))
    go true d = simp d h
    go false d = simp d (l, h)

joined_end : (n : ℕ) (rs : List Region) → EndBy n rs → EndBy n (joined rs)
unfolding joined
joined_end n [] h = tt
joined_end n (r ∷ rs) h = join-end n r (joined rs) h.0 (joined_end n rs h.1)

pub below_end : (f : HostAddr → Values) (n : ℕ) → EndBy n (regions_below f n)
unfolding regions_below
below_end f n = joined_end n (singles f 0 n) (singles-end f 0 n n (omega arith))

pub regions-end : (f : HostAddr → Values) → EndBy (2 ^ 64) (regions f)
unfolding regions
regions-end f = below_end f (2 ^ 64)
