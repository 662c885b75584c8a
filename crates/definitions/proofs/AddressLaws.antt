-- The questions and the change marks that go by address, as folds over the table.
use Prim.Native.Nat.{ℕ, zero, suc, ◌+◌, ◌-◌, ◌^◌, ◌<◌, ◌≤◌, max}
use mathlib.Core.Path.{◌≡◌, refl, sym, ap, ap₂, ◌∙◌}
use mathlib.Core.Bool.{Bool, true, false, true≢false, not, ◌&&◌, ◌||◌}
use mathlib.Core.List.{List, [], ◌∷◌}
use lib.ListN.{length}
use native.Mathlib.Omega.{arith}
use borrow.Author.Tests.{ltb-true, lt-ltb, le-leb, lt-leb, eqb-true, eqb-false, ne_eqb}
use Rattle.definitions.specs.Tests.{◌<?◌, ◌=?◌, bit, host, all, any}
use Rattle.definitions.specs.Rights.{RIGHTS, named, count_of}
use Rattle.definitions.specs.Values.{nothing, held, raise, lower}
use Rattle.definitions.specs.Regions.{has, meets, regions, addresses_from, addresses, some_count, add_change, remove_change, unheld_in}
use Rattle.definitions.specs.Questions.{every_named, can_raise}
use Rattle.definitions.specs.declared.addr.HostAddr.{HostAddr}
use Rattle.definitions.specs.declared.region.Values.{Values}
use Rattle.definitions.specs.declared.region.Region.{Region}
use Rattle.definitions.proofs.Bools.{Where, inn, low, high, where?, in-true, in-high, and-true, and-false, or-true}
use Rattle.definitions.proofs.RightLaws.{any-fails, count-made, named-bit}
use Rattle.definitions.proofs.Lists.{values_at, Ordered, AllHeld, Runs, Blank}
use Rattle.definitions.proofs.RunLaws.{host-eq, held-nothing, value-at-start, blank-table, regions-runs, regions-values}
use Rattle.definitions.proofs.ChangeLaws.{raise-held}
use Rattle.definitions.proofs.PeakLaws.{gaps, gaps-runs, gaps-values}

-- ---- some address of a range

from_found : (p : HostAddr → Bool) (x n : ℕ) (y : HostAddr) → x ≤ y.0 → y.0 < x + n → p y ≡ true → any p (addresses_from x n) ≡ true
unfolding addresses_from host
from_found p x zero y i j t = absurd (omega arith)
from_found p x (suc n) y i j t = go (where? x (suc x) y.0) (λ k. from_found p (suc x) n y k (omega arith) t)
  where
    go : Where x (suc x) y.0 → (suc x ≤ y.0 → any p (addresses_from (suc x) n) ≡ true) → any p (addresses_from x (suc n)) ≡ true
    go (inn d k l) ih = simp (ap p (host-eq (host x) y (omega arith)) ∙ t)
    go (low d k) ih = absurd (omega arith)
    go (high d k l) ih = simp (ih l, or-true)

from-ext : (p q : HostAddr → Bool) (x n : ℕ) → ((y : HostAddr) → x ≤ y.0 → y.0 < x + n → p y ≡ q y) → any p (addresses_from x n) ≡ any q (addresses_from x n)
unfolding addresses_from host
from-ext p q x zero h = refl
from-ext p q x (suc n) h = cc (h (host x) (omega arith) (omega arith), from-ext p q (suc x) n (λ y i j. h y (omega arith) (omega arith)))

any_false : (xs : List HostAddr) → any (λ x. false) xs ≡ false
any_false [] = refl
any_false (x ∷ xs) = any_false xs

module _ (a e : HostAddr) (l : a.0 < e.0) where
  any_found : (p : HostAddr → Bool) (x : HostAddr) → a.0 ≤ x.0 → x.0 < e.0 → p x ≡ true → any p (addresses a e) ≡ true
  unfolding addresses
  any_found p x i j t = from_found p a.0 (e.0 - a.0) x i (omega arith) t

  any-ext : (p q : HostAddr → Bool) → ((x : HostAddr) → a.0 ≤ x.0 → x.0 < e.0 → p x ≡ q x) → any p (addresses a e) ≡ any q (addresses a e)
  unfolding addresses
  any-ext p q h = from-ext p q a.0 (e.0 - a.0) (λ x i j. h x i (omega arith))

  any_none : (p : HostAddr → Bool) → ((x : HostAddr) → a.0 ≤ x.0 → x.0 < e.0 → p x ≡ false) → any p (addresses a e) ≡ false
  any_none p h = any-ext p (λ x. false) h ∙ any_false (addresses a e)

-- ---- a test of the values of the addresses, over the table

-- a region that meets [a, e) and passes the test
abbrev passes : (Values → Bool) → HostAddr → HostAddr → Region → Bool
passes p a e q = meets a e q && p q.values

-- an address of [a, e) that passes the test
record Spot (p : Values → Bool) (a e : HostAddr) (rs : List Region) (lo : ℕ) : Type 0 where
  spot : HostAddr
  above : lo ≤ spot.0
  reached : a.0 ≤ spot.0
  short : spot.0 < e.0
  passed : p (values_at rs spot) ≡ true

module _ (p : Values → Bool) (a e : HostAddr) (l : a.0 < e.0) where
  -- a region that passes has an address that does
  region-spot : (lo : ℕ) (rs : List Region) → Ordered lo rs → any (passes p a e) rs ≡ true → Spot p a e rs lo
  unfolding meets values_at has host
  region-spot lo [] o t = absurd (true≢false (sym t))
  region-spot lo (r ∷ rs) o t = go (a.0 <? r.end.0) (r.start.0 <? e.0) (p r.values) refl refl refl t (λ t. region-spot r.end.0 rs o.2 t)
    where
      later : Spot p a e rs r.end.0 → Spot p a e (r ∷ rs) lo
      later s = record {
        spot = s.spot;
        above = omega (arith, s.above);
        reached = s.reached;
        short = s.short;
        passed = simp (in-high r.start.0 r.end.0 s.spot.0 s.above) s.passed;
      }

      go : (s t b : Bool) → (a.0 <? r.end.0) ≡ s → (r.start.0 <? e.0) ≡ t → p r.values ≡ b → any (passes p a e) (r ∷ rs) ≡ true
          → (any (passes p a e) rs ≡ true → Spot p a e rs r.end.0) → Spot p a e (r ∷ rs) lo
      go true true true d f m t ih =
          let i : a.0 < r.end.0 = ltb-true _ _ d in
          let j : r.start.0 < e.0 = ltb-true _ _ f in
          record {
            spot = host (max a.0 r.start.0);
            above = omega arith;
            reached = omega arith;
            short = omega arith;
            passed = simp (in-true r.start.0 r.end.0 (max a.0 r.start.0) (omega arith) (omega arith)) m;
          }
      go true true false d f m t ih = later (ih (simp (d, f, m) at t))
      go true false b d f m t ih = later (ih (simp (d, f) at t))
      go false u b d f m t ih = later (ih (simp d at t))

  -- if no region passes, no held address does
  region-none : (x : HostAddr) (rs : List Region) → a.0 ≤ x.0 → x.0 < e.0 → held (values_at rs x) ≡ true → any (passes p a e) rs ≡ false
      → p (values_at rs x) ≡ false
  unfolding meets values_at has
  region-none x [] i j h t = absurd (held-nothing h)
  region-none x (r ∷ rs) i j h t = go (where? r.start.0 r.end.0 x.0) (p r.values) refl h t (λ h t. region-none x rs i j h t)
    where
      meeting : r.start.0 ≤ x.0 → x.0 < r.end.0 → meets a e r ≡ true
      meeting m n = simp (lt-ltb a.0 r.end.0 (omega arith), lt-ltb r.start.0 e.0 (omega arith))

      rest : (b c : Bool) → (b || c) ≡ false → c ≡ false
      rest true c z = absurd (true≢false z)
      rest false c z = z

      go : Where r.start.0 r.end.0 x.0 → (b : Bool) → p r.values ≡ b → held (values_at (r ∷ rs) x) ≡ true
          → (passes p a e r || any (passes p a e) rs) ≡ false → (held (values_at rs x) ≡ true → any (passes p a e) rs ≡ false → p (values_at rs x) ≡ false)
          → p (values_at (r ∷ rs) x) ≡ false
      go (inn d m n) true f h t ih = absurd (true≢false (simp (meeting m n, f) at t))
      go (inn d m n) false f h t ih = simp d f
      go (low d m) b f h t ih = simp d (ih (simp d at h) (rest (passes p a e r) (any (passes p a e) rs) t))
      go (high d m n) b f h t ih = simp d (ih (simp d at h) (rest (passes p a e r) (any (passes p a e) rs) t))

  -- if the range has a gap, it has an unheld address, and the other way round
  gap-spot : (rs : List Region) → Runs 0 rs → p nothing ≡ true → (0 <? length (gaps a e rs)) ≡ true → Spot p a e rs 0
  unfolding unheld_in
  gap-spot rs c t n = go (gaps a e rs) refl n
    where
      spot-at : (x : HostAddr) → Where a.0 e.0 x.0 → (b : Bool) → held (values_at rs x) ≡ b → held (unheld_in a e (values_at rs) x) ≡ true → Spot p a e rs 0
      spot-at x (inn d i j) false f k = record {
        spot = x;
        above = omega arith;
        reached = i;
        short = j;
        passed = ap p (blank-table rs c.full x f) ∙ t;
      }
      spot-at x (inn d i j) true f k = absurd (held-nothing (simp (d, f) at k))
      spot-at x (low d i) b f k = absurd (held-nothing (simp d at k))
      spot-at x (high d i j) b f k = absurd (held-nothing (simp d at k))

      go : (gs : List Region) → gaps a e rs ≡ gs → (0 <? length gs) ≡ true → Spot p a e rs 0
      go [] d n = absurd (true≢false (sym n))
      go (g ∷ gs) d n =
          let r : Runs a.0 (g ∷ gs) = rw d at (gaps-runs a e 0 rs c.ordered) in
          let v : unheld_in a e (values_at rs) g.start ≡ g.values =
          sym (gaps-values a e g.start 0 rs c.ordered c.full) ∙ ap (λ qs. values_at qs g.start) d ∙ value-at-start a.0 g gs r.ordered in
          spot-at g.start (where? a.0 e.0 g.start.0) (held (values_at rs g.start)) refl (ap held v ∙ r.full.0)

  gap-some : (x : HostAddr) (rs : List Region) → Runs 0 rs → a.0 ≤ x.0 → x.0 < e.0 → held (values_at rs x) ≡ false → (0 <? length (gaps a e rs)) ≡ true
  unfolding unheld_in values_at
  gap-some x rs c i j h = go (gaps a e rs) refl
    where
      go : (gs : List Region) → gaps a e rs ≡ gs → (0 <? length gs) ≡ true
      go [] d =
          let v : nothing ≡ raise 0 nothing =
          ap (λ qs. values_at qs x) (sym d) ∙ gaps-values a e x 0 rs c.ordered c.full ∙ simp (in-true a.0 e.0 x.0 i j, h) in
          absurd (held-nothing (ap held v ∙ raise-held 0 nothing))
      go (g ∷ gs) d = lt-ltb 0 (suc (length gs)) (omega arith)

  -- some address of the range passes: an unheld one, if there is a gap, or one of a region that meets the range
  pub any-table : (rs : List Region) → Runs 0 rs
      → any (λ x. p (values_at rs x)) (addresses a e) ≡ (((0 <? length (gaps a e rs)) && p nothing) || any (λ q. meets a e q && p q.values) rs)
  any-table rs c = go (0 <? length (gaps a e rs)) (p nothing) (any (passes p a e) rs) refl refl refl
    where
      found : Spot p a e rs 0 → any (λ x. p (values_at rs x)) (addresses a e) ≡ true
      found s = any_found a e l (λ x. p (values_at rs x)) s.spot s.reached s.short s.passed

      none : any (passes p a e) rs ≡ false → ((0 <? length (gaps a e rs)) ≡ true → p nothing ≡ false) → any (λ x. p (values_at rs x)) (addresses a e) ≡ false
      none t n = any_none a e l (λ x. p (values_at rs x)) (λ x i j. at_x x i j (held (values_at rs x)) refl)
        where
          at_x : (x : HostAddr) → a.0 ≤ x.0 → x.0 < e.0 → (b : Bool) → held (values_at rs x) ≡ b → p (values_at rs x) ≡ false
          at_x x i j true h = region-none x rs i j h t
          at_x x i j false h = ap p (blank-table rs c.full x h) ∙ n (gap-some x rs c i j h)

      go : (g n t : Bool) → (0 <? length (gaps a e rs)) ≡ g → p nothing ≡ n → any (passes p a e) rs ≡ t
          → any (λ x. p (values_at rs x)) (addresses a e) ≡ (((0 <? length (gaps a e rs)) && p nothing) || any (λ q. meets a e q && p q.values) rs)
      go g n true d f m = simp (m, or-true) (found (region-spot 0 rs c.ordered m))
      go true true false d f m = simp (d, f) (found (gap-spot rs c f d))
      go true false false d f m = simp (d, f, m) (none m (λ k. f))
      go false n false d f m = simp (d, m) (none m (λ k. absurd (true≢false (sym k ∙ d))))

any_held : (m : Region → Bool) (p q : Values → Bool) → ((v : Values) → held v ≡ true → p v ≡ q v) → (rs : List Region) → AllHeld rs
    → any (λ r. m r && p r.values) rs ≡ any (λ r. m r && q r.values) rs
any_held m p q k [] h = refl
any_held m p q k (r ∷ rs) h = cc (k r.values h.0, any_held m p q k rs h.1)

-- no element fails, or each passes
all-not : {A : Type 0} (m b : A → Bool) (xs : List A) → not (any (λ x. m x && not (b x)) xs) ≡ all (λ x. not (m x) || b x) xs
all-not m b [] = refl
all-not m b (x ∷ xs) = go (m x) (b x) (all-not m b xs)
  where
    go : (s t : Bool) → not (any (λ x. m x && not (b x)) xs) ≡ all (λ x. not (m x) || b x) xs
        → not ((s && not t) || any (λ x. m x && not (b x)) xs) ≡ ((not s || t) && all (λ x. not (m x) || b x) xs)
    go true true ih = ih
    go true false ih = refl
    go false t ih = ih

module _ (a e : HostAddr) (f : HostAddr → Values) (l : a.0 < e.0) (h : e.0 ≤ 2 ^ 64) (b : Blank f) where
  -- a test of the values of each address of the range, over the regions
  pub any-is : (p : Values → Bool)
      → any (λ x. p (f x)) (addresses a e) ≡ (((0 <? length (gaps a e (regions f))) && p nothing) || any (λ q. meets a e q && p q.values) (regions f))
  any-is p =
      any-ext a e l (λ x. p (f x)) (λ x. p (values_at (regions f) x))
      (λ x i j. ap p (sym (regions-values f b x ∙ simp (lt-ltb x.0 (2 ^ 64) (omega arith)))))
      ∙ any-table p a e l (regions f) (regions-runs f)

  -- the same where another test does for what is held
  pub any-held-is : (p q : Values → Bool) (n : Bool) → p nothing ≡ n → ((v : Values) → held v ≡ true → p v ≡ q v)
      → any (λ x. p (f x)) (addresses a e) ≡ (((0 <? length (gaps a e (regions f))) && n) || any (λ r. meets a e r && q r.values) (regions f))
  any-held-is p q n d k =
      any-is p ∙ ap₂ (λ (s t : Bool). ((0 <? length (gaps a e (regions f))) && s) || t) d (any_held (meets a e) p q k (regions f) (regions-runs f).full)

  pub all-is : (p : Values → Bool)
      → all (λ x. p (f x)) (addresses a e)
      ≡ ((not (0 <? length (gaps a e (regions f))) || p nothing) && all (λ q. not (meets a e q) || p q.values) (regions f))
  all-is p =
      sym (all-not (λ x. true) (λ x. p (f x)) (addresses a e)) ∙ ap not (any-is (λ v. not (p v)))
      ∙ go (0 <? length (gaps a e (regions f))) (p nothing) (any (λ q. meets a e q && not (p q.values)) (regions f))
      ∙ ap (λ t. (not (0 <? length (gaps a e (regions f))) || p nothing) && t) (all-not (meets a e) (λ q. p q.values) (regions f))
    where
      go : (g n t : Bool) → not ((g && not n) || t) ≡ ((not g || n) && not t)
      go true true t = refl
      go true false t = refl
      go false n t = refl

-- ---- the questions and the marks

-- one count, of 0 or 1 named: it becomes 1 from 0, or 0 from 1
rises : (c n : ℕ) → n < 2 → ((c =? 0) && (c + n =? 1)) ≡ not ((n =? 0) || (0 <? c))
rises zero zero l = refl
rises zero (suc zero) l = refl
rises zero (suc (suc n)) l = absurd (omega arith)
rises (suc c) n l = simp (ne_eqb (suc c) 0 (omega arith), lt-ltb 0 (suc c) (omega arith), or-true)

falls : (c n : ℕ) → n < 2 → ((c =? 1) && (c - n =? 0)) ≡ not ((n =? 0) || not (c =? 1))
falls zero n l = simp or-true
falls (suc zero) zero l = refl
falls (suc zero) (suc zero) l = refl
falls (suc zero) (suc (suc n)) l = absurd (omega arith)
falls (suc (suc c)) n l = simp (ne_eqb (suc (suc c)) 1 (omega arith), or-true)

-- does an add make a 1 of a 0, a remove a 0 of a 1?
abbrev begins : ℕ → Values → Bool
begins k v = some_count (λ b c. (b =? 0) && (c =? 1)) v (raise k v)

abbrev ceases : ℕ → Values → Bool
ceases k v = some_count (λ b c. (b =? 1) && (c =? 0)) v (lower k v)

-- of a held address
add-test : (k : ℕ) (v : Values) → held v ≡ true
    → begins k v ≡ not (every_named (λ n. 0 <? n) k v)
unfolding some_count every_named raise held
add-test k v h =
    rw (ne_eqb v.refcount 0 (omega (arith, ltb-true 0 v.refcount h)))
    (any-fails _ (λ t. (named t k =? 0) || (0 <? count_of t v))
    (λ t. rw (count-made (v.refcount + 1) (λ t. count_of t v + named t k) t) (rises (count_of t v) (named t k) (named-bit t k))) RIGHTS)

remove-test : (k : ℕ) (v : Values) → held v ≡ true
    → ceases k v ≡ ((v.refcount =? 1) || not (every_named (λ n. not (n =? 1)) k v))
unfolding some_count every_named lower held nothing
remove-test k v h = go (v.refcount =? 1) refl
  where
    go : (t : Bool) → (v.refcount =? 1) ≡ t
        → ceases k v ≡ ((v.refcount =? 1) || not (every_named (λ n. not (n =? 1)) k v))
    go true d = simp (d, le-leb v.refcount 1 (omega (arith, eqb-true v.refcount 1 d)))
    go false d =
        let n : v.refcount ≡ 1 → ⊥ = eqb-false v.refcount 1 d in
        rw (d, lt-leb v.refcount 1 (omega (arith, ltb-true 0 v.refcount h)))
        (any-fails _ (λ t. (named t k =? 0) || not (count_of t v =? 1))
        (λ t. rw (count-made (v.refcount - 1) (λ t. count_of t v - named t k) t) (falls (count_of t v) (named t k) (named-bit t k))) RIGHTS)

-- what an unheld address says
pub raise-nothing : (k : ℕ) → ((nothing.refcount <? 65535) && every_named (λ n. n <? 65535) k nothing) ≡ true
unfolding every_named nothing RIGHTS
raise-nothing k = simp or-true

add_nothing : (k : ℕ) → begins k nothing ≡ true
unfolding some_count raise nothing
add_nothing k = refl

remove-nothing : (k : ℕ) → ceases k nothing ≡ false
unfolding some_count lower nothing RIGHTS
remove-nothing k = refl

module _ (a e : HostAddr) (k : ℕ) (f : HostAddr → Values) (l : a.0 < e.0) (h : e.0 ≤ 2 ^ 64) (b : Blank f) where
  pub can-raise-is : can_raise a e k f
      ≡ all (λ q. not (meets a e q) || ((q.values.refcount <? 65535) && every_named (λ n. n <? 65535) k q.values)) (regions f)
  unfolding can_raise
  can-raise-is = all-is a e f l h b (λ v. (v.refcount <? 65535) && every_named (λ n. n <? 65535) k v) ∙ simp (raise-nothing k, or-true)

  -- an unheld address of the range gets its first holder, or a region that meets it has a named count of 0
  pub add-change-is : add_change a e k f
      ≡ bit ((0 <? length (gaps a e (regions f))) || any (λ q. meets a e q && not (every_named (λ n. 0 <? n) k q.values)) (regions f))
  unfolding add_change
  add-change-is =
      ap bit (simp and-true at (any-held-is a e f l h b (begins k) (λ v. not (every_named (λ n. 0 <? n) k v)) true (add_nothing k) (add-test k)))

  -- a region that meets the range loses its only holder, or has a named count of 1
  pub remove-change-is : remove_change a e k f
      ≡ bit (any (λ q. meets a e q && ((q.values.refcount =? 1) || not (every_named (λ n. not (n =? 1)) k q.values))) (regions f))
  unfolding remove_change
  remove-change-is =
      ap bit (simp and-false at (any-held-is a e f l h b (ceases k) (λ v. (v.refcount =? 1) || not (every_named (λ n. not (n =? 1)) k v)) false
      (remove-nothing k) (remove-test k)))
