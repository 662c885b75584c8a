-- A remove lowers in two passes: first what lies in the range, which frees slots, then the part of the region that reaches
-- past the range's end. Both together are one pass over the list that is cut at both ends.
use Rattle.std.specs.Prelude.{if◌then◌else◌}
use Prim.Native.Nat.{ℕ, ◌≤◌, ◌<◌}
use mathlib.Core.Path.{◌≡◌, refl, sym, ap, ap₂, ◌∙◌}
use mathlib.Core.Bool.{Bool, true, false}
use mathlib.Core.List.{List, [], ◌∷◌}
use native.Mathlib.Omega.{arith}
use borrow.Author.Tests.{le-leb, lt-leb}
use Rattle.definitions.specs.Values.{held, lower}
use Rattle.definitions.specs.Regions.{region, within, splits, cut}
use Rattle.definitions.specs.declared.addr.HostAddr.{HostAddr}
use Rattle.definitions.specs.declared.region.Values.{Values}
use Rattle.definitions.specs.declared.region.Region.{Region}
use Rattle.definitions.proofs.Bools.{and-false}
use Rattle.definitions.proofs.Lists.{change, Ordered, AllHeld}
use Rattle.definitions.proofs.RegionLaws.{Cuts, splits-it, at_most, past, cuts?, Uncut, ordered-from}
use Rattle.capability_engine.specs.RegionPasses.{lowered, start_of, changed_one}

-- a region stays if it is held
abbrev kept : Region → List Region → List Region
kept q t = if held q.values then q ∷ t else t

lowered-cons : (k : ℕ) (b e : HostAddr) (r : Region) (t : List Region) → lowered k b e (r ∷ t) ≡ kept (changed_one (lower k) b e r) (lowered k b e t)
unfolding lowered change changed_one
lowered-cons k b e r t = refl

one_same : (f : Values → Values) (b e : HostAddr) (r : Region) → within b e r ≡ false → changed_one f b e r ≡ r
unfolding changed_one
one_same f b e r d = rw d

one-bounds : (f : Values → Values) (b e : HostAddr) (r : Region) → ((changed_one f b e r).start ≡ r.start) × ((changed_one f b e r).end ≡ r.end)
unfolding changed_one region
one-bounds f b e r = go (within b e r) refl
  where
    go : (t : Bool) → within b e r ≡ t → ((changed_one f b e r).start ≡ r.start) × ((changed_one f b e r).end ≡ r.end)
    go true d = rw d (refl, refl)
    go false d = rw d (refl, refl)

kept-held : (q : Region) (t : List Region) → held q.values ≡ true → kept q t ≡ q ∷ t
kept-held q t d = rw d

outside_low : (b e : HostAddr) (r : Region) → r.start.0 < b.0 → within b e r ≡ false
unfolding within
outside_low b e r l = simp (lt-leb b.0 r.start.0 l)

outside_high : (b e : HostAddr) (r : Region) → e.0 < r.end.0 → within b e r ≡ false
unfolding within
outside_high b e r l = simp (lt-leb r.end.0 e.0 l, and-false)

-- what lies past the range stays
beyond : (k : ℕ) (b e : HostAddr) (lo : ℕ) (ts : List Region) → e.0 ≤ lo → Ordered lo ts → AllHeld ts → lowered k b e ts ≡ ts
unfolding lowered change
beyond k b e lo [] l o h = refl
beyond k b e lo (r ∷ ts) l o h =
    lowered-cons k b e r ts
    ∙ rw (one_same (lower k) b e r (outside_high b e r (omega (arith, o.0, o.1))), h.0, beyond k b e r.end.0 ts (omega (arith, o.0, o.1)) o.2 h.1)

kept-ordered : (lo : ℕ) (q : Region) (t : List Region) → lo ≤ q.start.0 → q.start.0 < q.end.0 → Ordered q.end.0 t → Ordered lo (kept q t)
kept-ordered lo q t a b o = go (held q.values)
  where
    go : (s : Bool) → Ordered lo (if s then q ∷ t else t)
    go true = (a, b, o)
    go false = ordered-from q.end.0 lo t (omega arith) o

lowered-ordered : (k : ℕ) (b e : HostAddr) (lo : ℕ) (ts : List Region) → Ordered lo ts → Ordered lo (lowered k b e ts)
unfolding lowered change
lowered-ordered k b e lo [] o = tt
lowered-ordered k b e lo (r ∷ ts) o =
    let s = one-bounds (lower k) b e r in
    rw lowered-cons
    (kept-ordered lo (changed_one (lower k) b e r) (lowered k b e ts) (rw s.0 o.0) (rw (s.0, s.1) o.1) (rw s.1 (lowered-ordered k b e r.end.0 ts o.2)))

-- where the part begins that is lowered last
start-past : (e : HostAddr) (lo : ℕ) (rs : List Region) → Ordered lo rs → e.0 ≤ lo → start_of e rs ≡ e
unfolding start_of
start-past e lo [] o l = refl
start-past e lo (r ∷ rs) o l = go (cuts? e r) (start-past e r.end.0 rs o.2 (omega (arith, o.0, o.1)))
  where
    go : Cuts e r → start_of e rs ≡ e → start_of e (r ∷ rs) ≡ e
    go (splits-it d p q) ih = absurd (omega (arith, o.0))
    go (at_most d p) ih = rw d ih
    go (past d p) ih = rw d ih

start-from : (e : HostAddr) (lo : ℕ) (rs : List Region) → Ordered lo rs → lo ≤ e.0 → lo ≤ (start_of e rs).0
unfolding start_of
start-from e lo [] o l = l
start-from e lo (r ∷ rs) o l = go (cuts? e r) (start-from e r.end.0 rs o.2)
  where
    go : Cuts e r → (r.end.0 ≤ e.0 → r.end.0 ≤ (start_of e rs).0) → lo ≤ (start_of e (r ∷ rs)).0
    go (splits-it d p q) ih = rw d o.0
    go (at_most d p) ih = rw (d, start-past e r.end.0 rs o.2 (omega (arith, o.1))) l
    go (past d p) ih = rw d (omega (arith, ih p, o.0, o.1))

-- a region is changed in two ranges alike that it lies in both
one-both : (f : Values → Values) (b a e : HostAddr) (r : Region) → b.0 ≤ r.start.0 → a.0 ≤ r.start.0 → r.end.0 ≤ e.0 → changed_one f b e r ≡ changed_one f a e r
unfolding changed_one within
one-both f b a e r p q l = simp (le-leb b.0 r.start.0 p, le-leb a.0 r.start.0 q, le-leb r.end.0 e.0 l)

cut-yes : (y : HostAddr) (r : Region) (t : List Region) → splits y r ≡ true → cut y (r ∷ t) ≡ region r.start y r.values ∷ region y r.end r.values ∷ t
unfolding cut
cut-yes y r t d = rw d

cut-no : (y : HostAddr) (r : Region) (t : List Region) → splits y r ≡ false → cut y (r ∷ t) ≡ r ∷ cut y t
unfolding cut
cut-no y r t d = rw d

start-yes : (y : HostAddr) (r : Region) (t : List Region) → splits y r ≡ true → start_of y (r ∷ t) ≡ r.start
unfolding start_of
start-yes y r t d = rw d

start-no : (y : HostAddr) (r : Region) (t : List Region) → splits y r ≡ false → start_of y (r ∷ t) ≡ start_of y t
unfolding start_of
start-no y r t d = rw d

splits-bounds : (y : HostAddr) (r q : Region) → q.start ≡ r.start → q.end ≡ r.end → splits y q ≡ splits y r
unfolding splits
splits-bounds y r q a b = rw (a, b)

unsplit-low : (a e : HostAddr) (r : Region) → splits a r ≡ false → a.0 < r.end.0 → a.0 ≤ r.start.0
unsplit-low a e r d l = go (cuts? a r)
  where
    go : Cuts a r → a.0 ≤ r.start.0
    go (splits-it h p q) = absurd (let w : ◌≡◌ {A = ℕ} 0 1 = cc in omega arith)
    go (at_most h p) = p
    go (past h p) = absurd (omega arith)

-- the second half of a region that e cuts is not changed, the first half is
module _ (k : ℕ) (b a e : HostAddr) (r : Region) (ts : List Region) (p : r.start.0 < e.0) (q : e.0 < r.end.0)
    (lb : b.0 ≤ r.start.0) (la : a.0 ≤ r.start.0) (o : Ordered r.end.0 ts) (h : AllHeld ts) where
  halves : lowered k b e (region r.start e r.values ∷ region e r.end r.values ∷ ts)
      ≡ lowered k a e (region r.start e r.values ∷ region e r.end r.values ∷ ts)
  unfolding region
  halves =
      let r1 : Region = region r.start e r.values in
      let r2 : Region = region e r.end r.values in
      let e1 : changed_one (lower k) b e r1 ≡ changed_one (lower k) a e r1 = one-both (lower k) b a e r1 lb la (omega arith) in
      let rest : (c : HostAddr) → lowered k c e (r2 ∷ ts) ≡ kept r2 ts
      = λ c. lowered-cons k c e r2 ts ∙ rw (one_same (lower k) c e r2 (outside_high c e r2 q), beyond k c e r.end.0 ts (omega arith) o h) in
      lowered-cons k b e r1 (r2 ∷ ts) ∙ ap₂ kept e1 (rest b ∙ sym (rest a)) ∙ sym (lowered-cons k a e r1 (r2 ∷ ts))

module _ (k : ℕ) (a e : HostAddr) (l : a.0 < e.0) where
  abbrev Twice : List Region → Type 0
  Twice ts = lowered k (start_of e (lowered k a e ts)) e (cut e (lowered k a e ts)) ≡ lowered k a e (cut e ts)

  twice-split : (r : Region) (ts : List Region) → splits e r ≡ true → r.start.0 < e.0 → e.0 < r.end.0 → splits a r ≡ false
      → Ordered r.end.0 ts → held r.values ≡ true → AllHeld ts → Twice (r ∷ ts)
  twice-split r ts d p q u o h hs =
      let la : a.0 ≤ r.start.0 = unsplit-low a e r u (omega arith) in
      let first : lowered k a e (r ∷ ts) ≡ r ∷ ts =
      lowered-cons k a e r ts ∙ rw (one_same (lower k) a e r (outside_high a e r q), h, beyond k a e r.end.0 ts (omega arith) o hs) in
      rw (first, start-yes e r ts d, cut-yes e r ts d) (halves k r.start a e r ts p q (omega arith) la o hs)

  -- a region that e does not cut is not lowered a second time
  again : (r : Region) (ts : List Region) → r.start.0 < r.end.0 → Ordered r.end.0 ts → Cuts e r → splits e r ≡ false
      → within (start_of e (lowered k a e ts)) e (changed_one (lower k) a e r) ≡ false
  again r ts n o (splits-it d p q) f = absurd (let w : ◌≡◌ {A = ℕ} 0 1 = cc in omega arith)
  again r ts n o (at_most d p) f =
      let s = one-bounds (lower k) a e r in
      outside_high _ e (changed_one (lower k) a e r) (rw s.1 (omega arith))
  again r ts n o (past d p) f =
      let s = one-bounds (lower k) a e r in
      outside_low _ e (changed_one (lower k) a e r)
      (rw s.0 (omega (arith, start-from e r.end.0 (lowered k a e ts) (lowered-ordered k a e r.end.0 ts o) p)))

  twice-pass : (r : Region) (ts : List Region) → Cuts e r → splits e r ≡ false → r.start.0 < r.end.0 → Ordered r.end.0 ts → Twice ts → Twice (r ∷ ts)
  twice-pass r ts w d n o ih = go (held (changed_one (lower k) a e r).values) refl
    where
      go : (s : Bool) → held (changed_one (lower k) a e r).values ≡ s → Twice (r ∷ ts)
      go false f =
          rw (lowered-cons k a e r ts, cut-no e r ts d, lowered-cons k a e r (cut e ts), f) ih
      go true f =
          let q : Region = changed_one (lower k) a e r in
          let s = one-bounds (lower k) a e r in
          let dq : splits e q ≡ false = splits-bounds e r q s.0 s.1 ∙ d in
          let same : changed_one (lower k) (start_of e (lowered k a e ts)) e q ≡ q = one_same (lower k) (start_of e (lowered k a e ts)) e q (again r ts n o w d) in
          let left : lowered k a e (r ∷ ts) ≡ q ∷ lowered k a e ts = lowered-cons k a e r ts ∙ kept-held q (lowered k a e ts) f in
          let right : lowered k a e (cut e (r ∷ ts)) ≡ q ∷ lowered k a e (cut e ts) = ap (lowered k a e) (cut-no e r ts d) ∙ lowered-cons k a e r (cut e ts) ∙ kept-held q (lowered k a e (cut e ts)) f in
          let mid : lowered k (start_of e (lowered k a e ts)) e (q ∷ cut e (lowered k a e ts)) ≡ q ∷ lowered k (start_of e (lowered k a e ts)) e (cut e (lowered k a e ts)) =
          lowered-cons k (start_of e (lowered k a e ts)) e q (cut e (lowered k a e ts)) ∙ ap (λ (v : Region). kept v (lowered k (start_of e (lowered k a e ts)) e (cut e (lowered k a e ts)))) same ∙ kept-held q (lowered k (start_of e (lowered k a e ts)) e (cut e (lowered k a e ts))) f in
          rw (left, start-no e q (lowered k a e ts) dq, cut-no e q (lowered k a e ts) dq) (mid ∙ ap (λ (t : List Region). q ∷ t) ih ∙ sym right)

  pub twice : (lo : ℕ) (ts : List Region) → Ordered lo ts → AllHeld ts → Uncut a ts → Twice ts
  unfolding lowered change cut start_of
  twice lo [] o h u = refl
  twice lo (r ∷ ts) o h u = go (cuts? e r) (twice r.end.0 ts o.2 h.1 u.1)
    where
      go : Cuts e r → Twice ts → Twice (r ∷ ts)
      go (splits-it d p q) ih = twice-split r ts d p q u.0 o.2 h.0 h.1
      go (at_most d p) ih = twice-pass r ts (at_most d p) d o.1 o.2 ih
      go (past d p) ih = twice-pass r ts (past d p) d o.1 o.2 ih
