-- An accepted add or remove leaves longest runs, with the values that the reckoning says.
use Rattle.std.specs.Prelude.{if◌then◌else◌}
use Prim.Native.Nat.{ℕ, ◌+◌, ◌-◌, ◌≤◌}
use mathlib.Core.Path.{◌≡◌, refl, sym, ◌∙◌}
use mathlib.Core.Bool.{Bool, true, false, true≢false, ◌&&◌, ◌||◌}
use mathlib.Core.List.{List, [], ◌∷◌, ◌++◌, append-nil}
use native.Mathlib.Omega.{arith}
use borrow.Author.Tests.{leb-false, lt-ltb, le-leb}
use Rattle.definitions.specs.Tests.{◌<?◌, ◌≤?◌, inside, any, keep}
use Rattle.definitions.proofs.Bools.{Where, inn, low, high, where?, or-true}
use Rattle.definitions.specs.Values.{nothing, held, raise, lower}
use Rattle.definitions.specs.Regions.{region, has, within, splits, cut}
use Rattle.definitions.proofs.Lists.{values_at, gap, fill, change, peak, added, removed, Ordered, AllHeld, Runs}
use Rattle.definitions.proofs.RegionLaws.{nothing-below, ordered-from, joined-ordered, joined-values, cut-ordered, cut-values, cut-uncut, cut_keeps, change-ordered, change-values, fill-ordered, Lies, after-it, before-it, across, lies?}
use Rattle.definitions.specs.declared.addr.HostAddr.{HostAddr}
use Rattle.definitions.specs.declared.region.Values.{Values}
use Rattle.definitions.specs.declared.region.Region.{Region}
use Rattle.definitions.proofs.RunLaws.{joined-full, joined-longest}

pub raise-held : (k : ℕ) (v : Values) → held (raise k v) ≡ true
unfolding held raise
raise-held k v = lt-ltb 0 (v.refcount + 1) (omega arith)

pub cut-full : (y : HostAddr) (rs : List Region) → AllHeld rs → AllHeld (cut y rs)
unfolding cut region
cut-full y [] h = tt
cut-full y (r ∷ rs) h = go (splits y r) refl (cut-full y rs h.1)
  where
    go : (t : Bool) → splits y r ≡ t → AllHeld (cut y rs) → AllHeld (cut y (r ∷ rs))
    go true d ih = simp d (h.0, (h.0, h.1))
    go false d ih = simp d (h.0, ih)

-- each region is held, or within the range that is to be raised
abbrev HeldOr : HostAddr → HostAddr → List Region → Type 0
HeldOr a e [] = Unit {0}
HeldOr a e (r ∷ rs) = ((held r.values || within a e r) ≡ true) × HeldOr a e rs

full-or : (a e : HostAddr) (rs : List Region) → AllHeld rs → HeldOr a e rs
full-or a e [] h = tt
full-or a e (r ∷ rs) h = (simp h.0, full-or a e rs h.1)

gap-or : (a e b f : HostAddr) (rs : List Region) → a.0 ≤ b.0 → f.0 ≤ e.0 → HeldOr a e rs → HeldOr a e (gap b f ++ rs)
unfolding gap region within
gap-or a e b f rs p q h = go (b.0 <? f.0) refl
  where
    go : (t : Bool) → (b.0 <? f.0) ≡ t → HeldOr a e (gap b f ++ rs)
    go true d = simp d (simp (le-leb a.0 b.0 p, le-leb f.0 e.0 q, or-true), h)
    go false d = simp d h

fill-or : (a e b : HostAddr) (rs : List Region) → a.0 ≤ b.0 → AllHeld rs → HeldOr a e (fill b e rs)
unfolding fill
fill-or a e b [] p h = rw (← append-nil (gap b e)) (gap-or a e b e [] p (omega arith) tt)
fill-or a e b (r ∷ rs) p h = go (lies? b e r) (fill-or a e b rs p h.1) (λ i. fill-or a e r.end rs i h.1)
  where
    head : (held r.values || within a e r) ≡ true
    head = simp h.0

    go : Lies b e r → HeldOr a e (fill b e rs) → (a.0 ≤ r.end.0 → HeldOr a e (fill r.end e rs)) → HeldOr a e (fill b e (r ∷ rs))
    go (after-it d i) ih jh = simp d (head, ih)
    go (before-it d f i j) ih jh = simp (d, f) (gap-or a e b e (r ∷ rs) p (omega arith) (head, full-or a e rs h.1))
    go (across d f i j) ih jh = simp (d, f) (gap-or a e b r.start (r ∷ fill r.end e rs) p (omega arith) (head, jh (omega arith)))

or_left : (b : Bool) → (b || false) ≡ true → b ≡ true
or_left true e = refl
or_left false e = e

raise-full : (k : ℕ) (a e : HostAddr) (rs : List Region) → HeldOr a e rs → AllHeld (change (raise k) a e rs)
unfolding change region
raise-full k a e [] h = tt
raise-full k a e (r ∷ rs) h = go (within a e r) refl (raise-full k a e rs h.1) h.0
  where
    go : (t : Bool) → within a e r ≡ t → AllHeld (change (raise k) a e rs) → (held r.values || within a e r) ≡ true
        → AllHeld (change (raise k) a e (r ∷ rs))
    go true d ih u = simp d (raise-held k r.values, ih)
    go false d ih u = simp d (or_left (held r.values) (simp d at u), ih)

pub added-runs : (a e : HostAddr) (k : ℕ) (rs : List Region) → Runs 0 rs → Runs 0 (added a e k rs)
unfolding added peak
added-runs a e k rs c = record {
  ordered = joined-ordered 0 _ (change-ordered (raise k) a e 0 _ (fill-ordered a e 0 _ (cut-ordered e 0 _ (cut-ordered a 0 rs c.ordered)) (omega arith)));
  full = joined-full _ (raise-full k a e _ (fill-or a e a _ (omega arith) (cut-full e _ (cut-full a rs c.full))));
  longest = joined-longest _;
}

-- a remove: what is not held any more has no value, so its regions go
pub lower-blank : (k : ℕ) (v : Values) → held (lower k v) ≡ false → lower k v ≡ nothing
unfolding held lower
lower-blank k v e = go (v.refcount ≤? 1) refl e
  where
    go : (t : Bool) → (v.refcount ≤? 1) ≡ t → held (lower k v) ≡ false → lower k v ≡ nothing
    go true d f = simp d
    go false d f = absurd (true≢false (sym (lt-ltb 0 (v.refcount - 1) (omega (arith, leb-false v.refcount 1 d))) ∙ simp d at f))

pub lower-nothing : (k : ℕ) → lower k nothing ≡ nothing
unfolding lower nothing
lower-nothing k = refl

abbrev Tidy : List Region → Type 0
Tidy [] = Unit {0}
Tidy (r ∷ rs) = (held r.values ≡ false → r.values ≡ nothing) × Tidy rs

lower-tidy : (k : ℕ) (a e : HostAddr) (rs : List Region) → AllHeld rs → Tidy (change (lower k) a e rs)
unfolding change region
lower-tidy k a e [] h = tt
lower-tidy k a e (r ∷ rs) h = go (within a e r) refl (lower-tidy k a e rs h.1)
  where
    go : (t : Bool) → within a e r ≡ t → Tidy (change (lower k) a e rs) → Tidy (change (lower k) a e (r ∷ rs))
    go true d ih = simp d (lower-blank k r.values, ih)
    go false d ih = simp d (λ f. absurd (true≢false (sym h.0 ∙ f)), ih)

abbrev held_only : List Region → List Region
held_only rs = keep (λ q. held q.values) rs

keep-full : (rs : List Region) → AllHeld (held_only rs)
keep-full [] = tt
keep-full (r ∷ rs) = go (held r.values) refl (keep-full rs)
  where
    go : (t : Bool) → held r.values ≡ t → AllHeld (held_only rs) → AllHeld (held_only (r ∷ rs))
    go true d ih = simp d (refl, ih)
    go false d ih = simp d ih

keep-ordered : (lo : ℕ) (rs : List Region) → Ordered lo rs → Ordered lo (held_only rs)
keep-ordered lo [] o = tt
keep-ordered lo (r ∷ rs) o = go (held r.values) refl (keep-ordered r.end.0 rs o.2)
  where
    go : (t : Bool) → held r.values ≡ t → Ordered r.end.0 (held_only rs) → Ordered lo (held_only (r ∷ rs))
    go true d ih = simp d (o.0, o.1, ih)
    go false d ih = simp d (ordered-from r.end.0 lo (held_only rs) (omega arith) ih)

keep-values : (lo : ℕ) (x : HostAddr) (rs : List Region) → Ordered lo rs → Tidy rs → values_at (held_only rs) x ≡ values_at rs x
unfolding values_at has
keep-values lo x [] o t = refl
keep-values lo x (r ∷ rs) o t = go (held r.values) refl (where? r.start.0 r.end.0 x.0) (keep-values r.end.0 x rs o.2 t.1)
  where
    go : (b : Bool) → held r.values ≡ b → Where r.start.0 r.end.0 x.0 → values_at (held_only rs) x ≡ values_at rs x
        → values_at (held_only (r ∷ rs)) x ≡ values_at (r ∷ rs) x
    go true d w ih = simp (d, ih)
    go false d (inn e i j) ih = simp (d, ih, e) (nothing-below x r.end.0 rs o.2 j ∙ sym (t.0 d))
    go false d (low e i) ih = simp (d, ih, e)
    go false d (high e i j) ih = simp (d, ih, e)

no-region : (x : HostAddr) (rs : List Region) → any (λ r. has r x) rs ≡ false → values_at rs x ≡ nothing
unfolding values_at
no-region x [] e = refl
no-region x (r ∷ rs) e = go (has r x) refl e (λ f. no-region x rs f)
  where
    go : (b : Bool) → has r x ≡ b → (has r x || any (λ r. has r x) rs) ≡ false → (any (λ r. has r x) rs ≡ false → values_at rs x ≡ nothing)
        → (if has r x then r.values else values_at rs x) ≡ nothing
    go true d f ih = absurd (true≢false (simp d at f))
    go false d f ih = simp d (ih (simp d at f))

module _ (a e : HostAddr) (k : ℕ) (rs : List Region) (c : Runs 0 rs) where
  cuts : List Region
  cuts = cut e (cut a rs)

  lowered : List Region
  lowered = change (lower k) a e cuts

  cuts-ordered : Ordered 0 cuts
  unfolding cuts
  cuts-ordered = cut-ordered e 0 (cut a rs) (cut-ordered a 0 rs c.ordered)

  lowered-ordered : Ordered 0 lowered
  unfolding lowered
  lowered-ordered = change-ordered (lower k) a e 0 cuts cuts-ordered

  lowered-tidy : Tidy lowered
  unfolding lowered cuts
  lowered-tidy = lower-tidy k a e cuts (cut-full e (cut a rs) (cut-full a rs c.full))

  pub removed-runs : Runs 0 (removed a e k rs)
  unfolding removed lowered cuts
  removed-runs = record {
    ordered = joined-ordered 0 (held_only lowered) (keep-ordered 0 lowered lowered-ordered);
    full = joined-full (held_only lowered) (keep-full lowered);
    longest = joined-longest (held_only lowered);
  }

  pub removed-values : (x : HostAddr) → values_at (removed a e k rs) x ≡ (if inside a.0 e.0 x.0 then lower k (values_at rs x) else values_at rs x)
  unfolding removed lowered cuts
  removed-values x =
      joined-values 0 (held_only lowered) x (keep-ordered 0 lowered lowered-ordered) ∙ keep-values 0 x lowered lowered-ordered lowered-tidy
      ∙ change-values (lower k) a e x cuts (cut_keeps a e (cut a rs) (cut-uncut a 0 rs c.ordered)) (cut-uncut e 0 (cut a rs) (cut-ordered a 0 rs c.ordered))
      ∙ simp values (go (inside a.0 e.0 x.0) (any (λ r. has r x) cuts) refl)
    where
      values : values_at cuts x ≡ values_at rs x
      values = cut-values e x (cut a rs) ∙ cut-values a x rs

      go : (b t : Bool) → any (λ r. has r x) cuts ≡ t → (if b && t then lower k (values_at rs x) else values_at rs x) ≡ (if b then lower k (values_at rs x) else values_at rs x)
      go true true f = refl
      go false t f = refl
      go true false f = let z : values_at rs x ≡ nothing = sym values ∙ no-region x cuts f in rw z (sym (lower-nothing k))
