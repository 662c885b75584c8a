-- What the list operations do to the values of each address.
use Rattle.std.specs.Prelude.{if◌then◌else◌}
use Prim.Native.Nat.{ℕ, ◌<◌, ◌≤◌}
use mathlib.Core.Path.{◌≡◌, refl, sym, ◌∙◌}
use mathlib.Core.Logic.{◌⊎◌, inl, inr, ⊎_elim}
use mathlib.Core.Bool.{Bool, true, false, true≢false, ◌&&◌}
use mathlib.Core.List.{List, [], ◌∷◌, ◌++◌, append-nil}
use native.Mathlib.Omega.{arith}
use borrow.Author.Tests.{ltb-true, ltb-false, leb-true, leb-false, lt-ltb, le-ltb, le-leb, lt-leb, eqb-true}
use Rattle.definitions.specs.Tests.{◌<?◌, ◌≤?◌, ◌=?◌, inside, any}
use Rattle.definitions.proofs.Bools.{Where, inn, low, high, where?, in-true, in-low, in-high, and-false, or-true}
use Rattle.definitions.specs.Values.{nothing, raise}
use Rattle.definitions.specs.Regions.{region, has, within, same, joins, join, joined, splits, cut}
use Rattle.definitions.proofs.RightLaws.{same-eq}
use Rattle.definitions.proofs.Lists.{values_at, gap, fill, change, peak, added, Ordered}
use Rattle.definitions.specs.declared.addr.HostAddr.{HostAddr}
use Rattle.definitions.specs.declared.region.Values.{Values}
use Rattle.definitions.specs.declared.region.Region.{Region}

-- where y lies for a region's cut
pub data Cuts (y : HostAddr) (r : Region) : Type 0 where
  splits-it : splits y r ≡ true → r.start.0 < y.0 → y.0 < r.end.0 → Cuts y r
  at_most : splits y r ≡ false → y.0 ≤ r.start.0 → Cuts y r
  past : splits y r ≡ false → r.end.0 ≤ y.0 → Cuts y r

pub cuts? : (y : HostAddr) (r : Region) → Cuts y r
unfolding splits
cuts? y r = go (r.start.0 <? y.0) (y.0 <? r.end.0) refl refl
  where
    go : (s t : Bool) → (r.start.0 <? y.0) ≡ s → (y.0 <? r.end.0) ≡ t → Cuts y r
    go true true p q = splits-it (simp (p, q)) (ltb-true _ _ p) (ltb-true _ _ q)
    go true false p q = past (simp (p, q)) (ltb-false _ _ q)
    go false t p q = at_most (simp p) (ltb-false _ _ p)

pub nothing-below : (x : HostAddr) (lo : ℕ) (rs : List Region) → Ordered lo rs → x.0 < lo → values_at rs x ≡ nothing
unfolding values_at has
nothing-below x lo [] o h = refl
nothing-below x lo (r ∷ rs) o h =
    simp (in-low r.start.0 r.end.0 x.0 (omega arith)) (nothing-below x r.end.0 rs o.2 (omega arith))

-- a range in two parts
in_two : (a m e x : ℕ) (v w : Values) → a ≤ m → m ≤ e
    → (if inside a m x then v else (if inside m e x then v else w)) ≡ (if inside a e x then v else w)
in_two a m e x v w p q = go (where? a e x) (where? m e x)
  where
    go : Where a e x → Where m e x → (if inside a m x then v else (if inside m e x then v else w)) ≡ (if inside a e x then v else w)
    go (inn h i j) (inn k l n) = simp (h, k, in-high a m x (omega arith))
    go (inn h i j) (low k l) = simp (h, k, in-true a m x i l)
    go (inn h i j) (high k l n) = absurd (omega arith)
    go (low h i) w = simp (h, in-low a m x i, in-low m e x (omega arith))
    go (high h i j) w = simp (h, in-high a m x (omega arith), in-high m e x j)

pub cut-values : (y x : HostAddr) (rs : List Region) → values_at (cut y rs) x ≡ values_at rs x
unfolding cut values_at has region
cut-values y x [] = refl
cut-values y x (r ∷ rs) = go (cuts? y r) (cut-values y x rs)
  where
    go : Cuts y r → values_at (cut y rs) x ≡ values_at rs x → values_at (cut y (r ∷ rs)) x ≡ values_at (r ∷ rs) x
    go (splits-it e p q) ih = simp e (in_two r.start.0 y.0 r.end.0 x.0 r.values (values_at rs x) (omega arith) (omega arith))
    go (at_most e p) ih = simp (e, ih)
    go (past e p) ih = simp (e, ih)

pub cut-ordered : (y : HostAddr) (lo : ℕ) (rs : List Region) → Ordered lo rs → Ordered lo (cut y rs)
unfolding cut region
cut-ordered y lo [] o = tt
cut-ordered y lo (r ∷ rs) o = go (cuts? y r) (cut-ordered y r.end.0 rs o.2)
  where
    go : Cuts y r → Ordered r.end.0 (cut y rs) → Ordered lo (cut y (r ∷ rs))
    go (splits-it e p q) ih = simp e (o.0, p, (omega arith, q, o.2))
    go (at_most e p) ih = simp e (o.0, o.1, ih)
    go (past e p) ih = simp e (o.0, o.1, ih)

-- where a range lies for a region
pub data Lies (a e : HostAddr) (r : Region) : Type 0 where
  after-it : (r.end.0 ≤? a.0) ≡ true → r.end.0 ≤ a.0 → Lies a e r
  before-it : (r.end.0 ≤? a.0) ≡ false → (e.0 ≤? r.start.0) ≡ true → a.0 < r.end.0 → e.0 ≤ r.start.0 → Lies a e r
  across : (r.end.0 ≤? a.0) ≡ false → (e.0 ≤? r.start.0) ≡ false → a.0 < r.end.0 → r.start.0 < e.0 → Lies a e r

pub lies? : (a e : HostAddr) (r : Region) → Lies a e r
lies? a e r = go (r.end.0 ≤? a.0) (e.0 ≤? r.start.0) refl refl
  where
    go : (s t : Bool) → (r.end.0 ≤? a.0) ≡ s → (e.0 ≤? r.start.0) ≡ t → Lies a e r
    go true t p q = after-it p (leb-true _ _ p)
    go false true p q = before-it p q (leb-false _ _ p) (leb-true _ _ q)
    go false false p q = across p q (leb-false _ _ p) (leb-false _ _ q)

gap-values : (a e x : HostAddr) (rs : List Region) → (a.0 ≤ x.0 → x.0 < e.0 → values_at rs x ≡ nothing) → values_at (gap a e ++ rs) x ≡ values_at rs x
unfolding gap values_at has region
gap-values a e x rs h = go (a.0 <? e.0) refl (where? a.0 e.0 x.0)
  where
    go : (t : Bool) → (a.0 <? e.0) ≡ t → Where a.0 e.0 x.0 → values_at (gap a e ++ rs) x ≡ values_at rs x
    go true d (inn p i j) = simp (d, p) (sym (h i j))
    go true d (low p i) = simp (d, p)
    go true d (high p i j) = simp (d, p)
    go false d w = simp d

pub fill-values : (a e x : HostAddr) (lo : ℕ) (rs : List Region) → Ordered lo rs → values_at (fill a e rs) x ≡ values_at rs x
unfolding fill values_at has
fill-values a e x lo [] o = rw (← append-nil (gap a e)) (gap-values a e x [] (λ i j. refl))
fill-values a e x lo (r ∷ rs) o = go (lies? a e r) (fill-values a e x r.end.0 rs o.2) (fill-values r.end e x r.end.0 rs o.2)
  where
    go : Lies a e r → values_at (fill a e rs) x ≡ values_at rs x → values_at (fill r.end e rs) x ≡ values_at rs x
        → values_at (fill a e (r ∷ rs)) x ≡ values_at (r ∷ rs) x
    go (after-it d p) ih jh = simp (d, ih)
    go (before-it d f p q) ih jh =
        simp (d, f) (gap-values a e x (r ∷ rs) (λ i j. nothing-below x r.start.0 (r ∷ rs) (omega arith, o.1, o.2) (omega arith)))
    go (across d f p q) ih jh =
        simp (d, f) (gap-values a r.start x (r ∷ fill r.end e rs)
        (λ i j. simp (in-low r.start.0 r.end.0 x.0 j, jh) (nothing-below x r.end.0 rs o.2 (omega arith))) ∙ simp jh)

gap-ordered : (lo : ℕ) (a e : HostAddr) (rs : List Region) → Ordered lo rs → (a.0 < e.0 → (lo ≤ a.0) × Ordered e.0 rs) → Ordered lo (gap a e ++ rs)
unfolding gap region
gap-ordered lo a e rs o h = go (a.0 <? e.0) refl
  where
    go : (t : Bool) → (a.0 <? e.0) ≡ t → Ordered lo (gap a e ++ rs)
    go true d = simp d ((h (ltb-true _ _ d)).0, ltb-true _ _ d, (h (ltb-true _ _ d)).1)
    go false d = simp d o

pub fill-ordered : (a e : HostAddr) (lo : ℕ) (rs : List Region) → Ordered lo rs → lo ≤ a.0 → Ordered lo (fill a e rs)
unfolding fill
fill-ordered a e lo [] o h = rw (← append-nil (gap a e)) (gap-ordered lo a e [] tt (λ i. (h, tt)))
fill-ordered a e lo (r ∷ rs) o h =
    go (lies? a e r) (λ i. fill-ordered a e r.end.0 rs o.2 i) (fill-ordered r.end e r.end.0 rs o.2 (omega arith))
  where
    go : Lies a e r → (r.end.0 ≤ a.0 → Ordered r.end.0 (fill a e rs)) → Ordered r.end.0 (fill r.end e rs) → Ordered lo (fill a e (r ∷ rs))
    go (after-it d p) ih jh = simp d (o.0, o.1, ih p)
    go (before-it d f p q) ih jh = simp (d, f) (gap-ordered lo a e (r ∷ rs) o (λ i. (h, (q, o.1, o.2))))
    go (across d f p q) ih jh =
        simp (d, f) (gap-ordered lo a r.start (r ∷ fill r.end e rs) (o.0, o.1, jh) (λ i. (h, (omega arith, o.1, jh))))

gap-has : (a e x : HostAddr) (rs : List Region) → a.0 ≤ x.0 → x.0 < e.0 → any (λ r. has r x) (gap a e ++ rs) ≡ true
unfolding gap region has
gap-has a e x rs p q = simp (lt-ltb a.0 e.0 (omega arith), in-true a.0 e.0 x.0 p q)

has-later : (x : HostAddr) (xs ys : List Region) → any (λ r. has r x) ys ≡ true → any (λ r. has r x) (xs ++ ys) ≡ true
has-later x [] ys h = h
has-later x (r ∷ rs) ys h = simp (has-later x rs ys h, or-true)

-- a filled range is held all over
pub fill-covers : (a e x : HostAddr) (rs : List Region) → a.0 ≤ x.0 → x.0 < e.0 → any (λ r. has r x) (fill a e rs) ≡ true
unfolding fill has
fill-covers a e x [] p q = rw (← append-nil (gap a e)) (gap-has a e x [] p q)
fill-covers a e x (r ∷ rs) p q =
    go (lies? a e r) (where? r.start.0 r.end.0 x.0) (fill-covers a e x rs p q) (λ i. fill-covers r.end e x rs i q)
  where
    go : Lies a e r → Where r.start.0 r.end.0 x.0 → any (λ r. has r x) (fill a e rs) ≡ true
        → (r.end.0 ≤ x.0 → any (λ r. has r x) (fill r.end e rs) ≡ true) → any (λ r. has r x) (fill a e (r ∷ rs)) ≡ true
    go (after-it d i) w ih jh = simp (d, ih, or-true)
    go (before-it d f i j) w ih jh = simp (d, f) (gap-has a e x (r ∷ rs) p q)
    go (across d f i j) (low w k) ih jh = simp (d, f) (gap-has a r.start x (r ∷ fill r.end e rs) p k)
    go (across d f i j) (inn w k l) ih jh = simp (d, f) (has-later x (gap a r.start) (r ∷ fill r.end e rs) (simp w))
    go (across d f i j) (high w k l) ih jh =
        simp (d, f) (has-later x (gap a r.start) (r ∷ fill r.end e rs) (simp (jh l, or-true)))

-- no region has y strictly inside
abbrev pub Uncut : HostAddr → List Region → Type 0
Uncut y [] = Unit {0}
Uncut y (r ∷ rs) = (splits y r ≡ false) × Uncut y rs

uncut-above : (y : HostAddr) (lo : ℕ) (rs : List Region) → Ordered lo rs → y.0 ≤ lo → Uncut y rs
unfolding splits
uncut-above y lo [] o h = tt
uncut-above y lo (r ∷ rs) o h = (simp (le-ltb r.start.0 y.0 (omega arith)), uncut-above y r.end.0 rs o.2 (omega arith))

-- y is not strictly inside [a, e)
splits-not : (y a e : HostAddr) (v : Values) → (a.0 < y.0 → y.0 < e.0 → ⊥) → splits y (region a e v) ≡ false
unfolding region
splits-not y a e v h = go (cuts? y (region a e v))
  where
    go : Cuts y (region a e v) → splits y (region a e v) ≡ false
    go (splits-it d p q) = absurd (h p q)
    go (at_most d p) = d
    go (past d p) = d

uncut-fact : (y : HostAddr) (r : Region) → splits y r ≡ false → r.start.0 < y.0 → y.0 < r.end.0 → ⊥
uncut-fact y r e p q = go (cuts? y r)
  where
    go : Cuts y r → ⊥
    go (splits-it d i j) = true≢false (sym d ∙ e)
    go (at_most d i) = omega arith
    go (past d i) = omega arith

pub cut-uncut : (y : HostAddr) (lo : ℕ) (rs : List Region) → Ordered lo rs → Uncut y (cut y rs)
unfolding cut
cut-uncut y lo [] o = tt
cut-uncut y lo (r ∷ rs) o = go (cuts? y r) (cut-uncut y r.end.0 rs o.2)
  where
    go : Cuts y r → Uncut y (cut y rs) → Uncut y (cut y (r ∷ rs))
    go (splits-it e p q) ih =
        simp e (
          splits-not y r.start y r.values (omega arith),
          (splits-not y y r.end r.values (omega arith), uncut-above y r.end.0 rs o.2 (omega arith)),
        )
    go (at_most e p) ih = simp e (refl, ih)
    go (past e p) ih = simp e (refl, ih)

-- a cut elsewhere leaves a region uncut
pub cut_keeps : (y z : HostAddr) (rs : List Region) → Uncut y rs → Uncut y (cut z rs)
unfolding cut
cut_keeps y z [] u = tt
cut_keeps y z (r ∷ rs) u = go (cuts? z r) (cut_keeps y z rs u.1)
  where
    go : Cuts z r → Uncut y (cut z rs) → Uncut y (cut z (r ∷ rs))
    go (splits-it e p q) ih =
        simp e (
          splits-not y r.start z r.values (λ i j. uncut-fact y r u.0 i (omega arith)),
          (splits-not y z r.end r.values (λ i j. uncut-fact y r u.0 (omega arith) j), u.1),
        )
    go (at_most e p) ih = simp e (u.0, ih)
    go (past e p) ih = simp e (u.0, ih)

gap-uncut : (y a e : HostAddr) (rs : List Region) → (a.0 < y.0 → y.0 < e.0 → ⊥) → Uncut y rs → Uncut y (gap a e ++ rs)
unfolding gap
gap-uncut y a e rs h u = go (a.0 <? e.0) refl
  where
    go : (t : Bool) → (a.0 <? e.0) ≡ t → Uncut y (gap a e ++ rs)
    go true d = simp d (splits-not y a e nothing h, u)
    go false d = simp d u

pub fill-uncut : (y a e : HostAddr) (rs : List Region) → (a.0 < y.0 → y.0 < e.0 → ⊥) → Uncut y rs → Uncut y (fill a e rs)
unfolding fill
fill-uncut y a e [] h u = rw (← append-nil (gap a e)) (gap-uncut y a e [] h tt)
fill-uncut y a e (r ∷ rs) h u = go (lies? a e r) (fill-uncut y a e rs h u.1) (λ k. fill-uncut y r.end e rs k u.1)
  where
    go : Lies a e r → Uncut y (fill a e rs) → ((r.end.0 < y.0 → y.0 < e.0 → ⊥) → Uncut y (fill r.end e rs)) → Uncut y (fill a e (r ∷ rs))
    go (after-it d p) ih jh = simp d (u.0, ih)
    go (before-it d f p q) ih jh = simp (d, f) (gap-uncut y a e (r ∷ rs) h u)
    go (across d f p q) ih jh =
        simp (d, f) (gap-uncut y a r.start (r ∷ fill r.end e rs) (λ i j. h i (omega arith)) (u.0, jh (λ i j. h (omega arith) j)))

uncut-side : (y : HostAddr) (r : Region) → splits y r ≡ false → (y.0 ≤ r.start.0) ⊎ (r.end.0 ≤ y.0)
uncut-side y r e = go (cuts? y r)
  where
    go : Cuts y r → (y.0 ≤ r.start.0) ⊎ (r.end.0 ≤ y.0)
    go (splits-it d i j) = absurd (true≢false (sym d ∙ e))
    go (at_most d i) = inl i
    go (past d i) = inr i

-- is a region within [a, e), if neither end is strictly inside it and it contains x
within_in : (a e x : HostAddr) (r : Region) → splits a r ≡ false → splits e r ≡ false → r.start.0 ≤ x.0 → x.0 < r.end.0 → within a e r ≡ inside a.0 e.0 x.0
unfolding within
within_in a e x r u v p q = go (where? a.0 e.0 x.0)
  where
    go : Where a.0 e.0 x.0 → within a e r ≡ inside a.0 e.0 x.0
    go (inn d i j) = simp (d, le-leb a.0 r.start.0 lo, le-leb r.end.0 e.0 hi)
      where
        lo : a.0 ≤ r.start.0
        lo = ⊎_elim (λ k. k) (λ k. absurd (omega arith)) (uncut-side a r u)

        hi : r.end.0 ≤ e.0
        hi = ⊎_elim (λ k. absurd (omega arith)) (λ k. k) (uncut-side e r v)
    go (low d i) = simp (d, lt-leb a.0 r.start.0 (omega arith))
    go (high d i j) = simp (d, lt-leb r.end.0 e.0 (omega arith), and-false)

pub change-values : (f : Values → Values) (a e x : HostAddr) (rs : List Region) → Uncut a rs → Uncut e rs
    → values_at (change f a e rs) x ≡ (if inside a.0 e.0 x.0 && any (λ r. has r x) rs then f (values_at rs x) else values_at rs x)
unfolding change values_at has region
change-values f a e x [] u v = simp and-false
change-values f a e x (r ∷ rs) u v = go (where? r.start.0 r.end.0 x.0) (inside a.0 e.0 x.0) refl (within a e r) refl (change-values f a e x rs u.1 v.1)
  where
    go : Where r.start.0 r.end.0 x.0 → (b : Bool) → inside a.0 e.0 x.0 ≡ b → (c : Bool) → within a e r ≡ c
        → values_at (change f a e rs) x ≡ (if inside a.0 e.0 x.0 && any (λ r. has r x) rs then f (values_at rs x) else values_at rs x)
        → values_at (change f a e (r ∷ rs)) x ≡ (if inside a.0 e.0 x.0 && any (λ r. has r x) (r ∷ rs) then f (values_at (r ∷ rs) x) else values_at (r ∷ rs) x)
    go (inn d i j) true m true n ih = simp (d, m, n)
    go (inn d i j) false m false n ih = simp (d, m, n)
    go (inn d i j) true m false n ih = absurd (true≢false (sym m ∙ sym (within_in a e x r u.0 v.0 i j) ∙ n))
    go (inn d i j) false m true n ih = absurd (true≢false (sym n ∙ within_in a e x r u.0 v.0 i j ∙ m))
    go (low d i) b m true n ih = simp (d, n, ih)
    go (low d i) b m false n ih = simp (d, n, ih)
    go (high d i j) b m true n ih = simp (d, n, ih)
    go (high d i j) b m false n ih = simp (d, n, ih)

pub change-ordered : (f : Values → Values) (a e : HostAddr) (lo : ℕ) (rs : List Region) → Ordered lo rs → Ordered lo (change f a e rs)
unfolding change region
change-ordered f a e lo [] o = tt
change-ordered f a e lo (r ∷ rs) o = go (within a e r) refl (change-ordered f a e r.end.0 rs o.2)
  where
    go : (c : Bool) → within a e r ≡ c → Ordered r.end.0 (change f a e rs) → Ordered lo (change f a e (r ∷ rs))
    go true n ih = simp n (o.0, o.1, ih)
    go false n ih = simp n (o.0, o.1, ih)

pub join-values : (r : Region) (rs : List Region) (x : HostAddr) → Ordered r.start.0 (r ∷ rs) → values_at (join r rs) x ≡ values_at (r ∷ rs) x
unfolding join joins values_at has region
join-values r [] x o = refl
join-values r (q ∷ qs) x o = go (r.end.0 =? q.start.0) (same r.values q.values) refl refl
  where
    go : (s t : Bool) → (r.end.0 =? q.start.0) ≡ s → same r.values q.values ≡ t → values_at (join r (q ∷ qs)) x ≡ values_at (r ∷ q ∷ qs) x
    go true true d f =
        simp (d, f) (simp (eqb-true r.end.0 q.start.0 d, same-eq r.values q.values f)
        (sym (in_two r.start.0 q.start.0 q.end.0 x.0 q.values (values_at qs x) (omega arith) (omega arith))))
    go true false d f = simp (d, f)
    go false t d f = simp d

pub ordered-from : (lo lo' : ℕ) (rs : List Region) → lo' ≤ lo → Ordered lo rs → Ordered lo' rs
ordered-from lo lo' [] h o = tt
ordered-from lo lo' (r ∷ rs) h o = (omega arith, o.1, o.2)

pub join-ordered : (lo : ℕ) (r : Region) (rs : List Region) → Ordered lo (r ∷ rs) → Ordered lo (join r rs)
unfolding join joins region
join-ordered lo r [] o = o
join-ordered lo r (q ∷ qs) o = go (r.end.0 =? q.start.0) (same r.values q.values) refl refl
  where
    go : (s t : Bool) → (r.end.0 =? q.start.0) ≡ s → same r.values q.values ≡ t → Ordered lo (join r (q ∷ qs))
    go true true d f = simp (d, f) (o.0, omega arith, o.2.2)
    go true false d f = simp (d, f) o
    go false t d f = simp d o

pub joined-ordered : (lo : ℕ) (rs : List Region) → Ordered lo rs → Ordered lo (joined rs)
unfolding joined
joined-ordered lo [] o = tt
joined-ordered lo (r ∷ rs) o = join-ordered lo r (joined rs) (o.0, o.1, joined-ordered r.end.0 rs o.2)

pub joined-values : (lo : ℕ) (rs : List Region) (x : HostAddr) → Ordered lo rs → values_at (joined rs) x ≡ values_at rs x
unfolding joined values_at
joined-values lo [] x o = refl
joined-values lo (r ∷ rs) x o =
    join-values r (joined rs) x (omega arith, o.1, joined-ordered r.end.0 rs o.2) ∙ simp (joined-values r.end.0 rs x o.2)

-- an add, at each address
pub added-values : (a e : HostAddr) (k : ℕ) (x : HostAddr) (rs : List Region) → Ordered 0 rs
    → values_at (added a e k rs) x ≡ (if inside a.0 e.0 x.0 then raise k (values_at rs x) else values_at rs x)
unfolding added peak
added-values a e k x rs o = joined-values 0 _ x (change-ordered (raise k) a e 0 _ filled) ∙ changed ∙ simp (values) (go (where? a.0 e.0 x.0))
  where
    cut1 : Ordered 0 (cut e (cut a rs))
    cut1 = cut-ordered e 0 _ (cut-ordered a 0 rs o)

    filled : Ordered 0 (fill a e (cut e (cut a rs)))
    filled = fill-ordered a e 0 _ cut1 (omega arith)

    changed : values_at (change (raise k) a e (fill a e (cut e (cut a rs)))) x
        ≡ (if inside a.0 e.0 x.0 && any (λ r. has r x) (fill a e (cut e (cut a rs))) then raise k (values_at (fill a e (cut e (cut a rs))) x) else values_at (fill a e (cut e (cut a rs))) x)
    changed = change-values (raise k) a e x _ (fill-uncut a a e _ (omega arith) (cut_keeps a e _ (cut-uncut a 0 rs o))) (fill-uncut e a e _ (omega arith) (cut-uncut e 0 _ (cut-ordered a 0 rs o)))

    values : values_at (fill a e (cut e (cut a rs))) x ≡ values_at rs x
    values = fill-values a e x 0 _ cut1 ∙ cut-values e x (cut a rs) ∙ cut-values a x rs

    go : Where a.0 e.0 x.0 → (if inside a.0 e.0 x.0 && any (λ r. has r x) (fill a e (cut e (cut a rs))) then raise k (values_at rs x) else values_at rs x) ≡ (if inside a.0 e.0 x.0 then raise k (values_at rs x) else values_at rs x)
    go (inn d i j) = simp (d, fill-covers a e x (cut e (cut a rs)) i j)
    go (low d i) = simp d
    go (high d i j) = simp d
