-- How long the table of an add is at its peak, and that what was asked of the records in use is enough.
use Rattle.std.specs.Prelude.{if◌then◌else◌}
use Prim.Native.Nat.{ℕ, suc, ◌+◌, ◌-◌, ◌^◌, ◌<◌, ◌≤◌}
use mathlib.Core.Path.{◌≡◌, refl, sym, ap, ◌∙◌}
use mathlib.Core.Bool.{Bool, true, false, true≢false, not, ◌&&◌}
use mathlib.Core.List.{List, [], ◌∷◌, ◌++◌, append-nil}
use lib.ListN.{length}
use native.Mathlib.Omega.{arith}
use borrow.Author.Tests.{ltb-true, ltb-false, leb-true, lt-ltb, le-ltb, le-leb, lt-leb, eqb-true, ne_eqb}
use Rattle.definitions.specs.Tests.{◌<?◌, ◌≤?◌, ◌=?◌, inside, bit, any, count, keep}
use Rattle.definitions.specs.Values.{nothing, held, raise, lower, changed_in}
use Rattle.definitions.specs.Regions.{region, has, within, joins, join, joined, regions_below, regions, splits, cut, freed, unheld_in, new_records}
use Rattle.definitions.specs.Questions.{cuts_fit}
use Rattle.definitions.specs.declared.addr.HostAddr.{HostAddr}
use Rattle.definitions.specs.declared.region.Values.{Values}
use Rattle.definitions.specs.declared.region.Region.{Region}
use Rattle.definitions.proofs.Bools.{Where, inn, low, high, where?, in-true, in-low, in-high, in-empty, and-true, and-false, both}
use Rattle.definitions.proofs.Lists.{values_at, gap, fill, change, peak, added, removed, Ordered, AllHeld, Ends, Runs, Blank}
use Rattle.definitions.proofs.RegionLaws.{nothing-below, ordered-from, cut-ordered, cut-values, Cuts, splits-it, at_most, past, cuts?, Lies, after-it, before-it, across, lies?}
use Rattle.definitions.proofs.RunLaws.{unique-runs, below-runs, below-values, regions-runs, regions-values, regions-ext}
use Rattle.definitions.proofs.ChangeLaws.{raise-held, cut-full}
use Rattle.definitions.proofs.RegionsAre.{added_is, removed-is}

-- ---- the unheld runs of a range

-- an unheld run, if it is not empty, as the region that it would be if it were held, and others after it
unfoldable pub hole : HostAddr → HostAddr → List Region → List Region
hole a e rs = if a.0 <? e.0 then region a e (raise 0 nothing) ∷ rs else rs

-- the unheld runs of the range: those that `fill` puts in
unfoldable pub gaps : HostAddr → HostAddr → List Region → List Region
gaps a e [] = hole a e []
gaps a e (r ∷ rs) =
    if r.end.0 ≤? a.0 then gaps a e rs
    else if e.0 ≤? r.start.0 then hole a e []
    else hole a r.start (gaps r.end e rs)

apart : (r : Region) (lo : ℕ) (qs : List Region) → Ordered lo qs → r.end.0 < lo → Ends r qs
unfolding joins
apart r lo [] o l = tt
apart r lo (q ∷ qs) o l = simp (ne_eqb r.end.0 q.start.0 (omega arith))

hole-runs : (a e : HostAddr) (lo : ℕ) (rs : List Region) → Runs lo rs → a.0 ≤ lo → e.0 < lo → Runs a.0 (hole a e rs)
unfolding hole region
hole-runs a e lo rs c h l = go (a.0 <? e.0) refl
  where
    go : (t : Bool) → (a.0 <? e.0) ≡ t → Runs a.0 (hole a e rs)
    go true d = simp d (record {
      ordered = (omega arith, ltb-true _ _ d, ordered-from lo e.0 rs (omega arith) c.ordered);
      full = (raise-held 0 nothing, c.full);
      longest = (apart (region a e (raise 0 nothing)) lo rs c.ordered l, c.longest);
    })
    go false d = simp d (record { ordered = ordered-from lo a.0 rs h c.ordered; full = c.full; longest = c.longest })

hole-alone : (a e : HostAddr) → Runs a.0 (hole a e [])
hole-alone a e = hole-runs a e (a.0 + suc e.0) [] (record { ordered = tt; full = tt; longest = tt }) (omega arith) (omega arith)

pub gaps-runs : (a e : HostAddr) (lo : ℕ) (rs : List Region) → Ordered lo rs → Runs a.0 (gaps a e rs)
unfolding gaps
gaps-runs a e lo [] o = hole-alone a e
gaps-runs a e lo (r ∷ rs) o = go (lies? a e r) (gaps-runs a e r.end.0 rs o.2) (gaps-runs r.end e r.end.0 rs o.2)
  where
    go : Lies a e r → Runs a.0 (gaps a e rs) → Runs r.end.0 (gaps r.end e rs) → Runs a.0 (gaps a e (r ∷ rs))
    go (after-it d p) ih jh = simp d ih
    go (before-it d f p q) ih jh = simp (d, f) (hole-alone a e)
    go (across d f p q) ih jh = simp (d, f) (hole-runs a r.start r.end.0 (gaps r.end e rs) jh (omega arith) (omega arith))

hole-values : (a e x : HostAddr) (rs : List Region)
    → values_at (hole a e rs) x ≡ (if inside a.0 e.0 x.0 then raise 0 nothing else values_at rs x)
unfolding hole region values_at has
hole-values a e x rs = go (a.0 <? e.0) refl
  where
    go : (t : Bool) → (a.0 <? e.0) ≡ t → values_at (hole a e rs) x ≡ (if inside a.0 e.0 x.0 then raise 0 nothing else values_at rs x)
    go true d = simp d
    go false d = simp (d, in-empty a.0 e.0 x.0 (ltb-false _ _ d))

unheld-nothing : (a e x : HostAddr) (f : HostAddr → Values) → f x ≡ nothing
    → unheld_in a e f x ≡ (if inside a.0 e.0 x.0 then raise 0 nothing else nothing)
unfolding unheld_in held nothing
unheld-nothing a e x f d = simp d (ap (λ b. if b then raise 0 nothing else nothing) (and-true (inside a.0 e.0 x.0)))

pub gaps-values : (a e x : HostAddr) (lo : ℕ) (rs : List Region) → Ordered lo rs → AllHeld rs
    → values_at (gaps a e rs) x ≡ unheld_in a e (values_at rs) x
unfolding gaps values_at unheld_in has
gaps-values a e x lo [] o h = hole-values a e x [] ∙ sym (unheld-nothing a e x (values_at []) refl)
gaps-values a e x lo (r ∷ rs) o h =
    go (lies? a e r) (where? a.0 e.0 x.0) (where? r.start.0 r.end.0 x.0)
    (gaps-values a e x r.end.0 rs o.2 h.1) (gaps-values r.end e x r.end.0 rs o.2 h.1)
  where
    none : x.0 < r.start.0 → values_at (r ∷ rs) x ≡ nothing
    none l = nothing-below x r.start.0 (r ∷ rs) (omega arith, o.1, o.2) l

    go : Lies a e r → Where a.0 e.0 x.0 → Where r.start.0 r.end.0 x.0
        → values_at (gaps a e rs) x ≡ unheld_in a e (values_at rs) x → values_at (gaps r.end e rs) x ≡ unheld_in r.end e (values_at rs) x
        → values_at (gaps a e (r ∷ rs)) x ≡ unheld_in a e (values_at (r ∷ rs)) x
    go (after-it d p) (inn m i j) u ih jh = simp (d, ih, in-high r.start.0 r.end.0 x.0 (omega arith))
    go (after-it d p) (low m i) u ih jh = simp (d, ih, m)
    go (after-it d p) (high m i j) u ih jh = simp (d, ih, m)
    go (before-it d f p q) (inn m i j) u ih jh =
        simp (d, f) (hole-values a e x [] ∙ sym (unheld-nothing a e x (values_at (r ∷ rs)) (none (omega arith))))
    go (before-it d f p q) (low m i) u ih jh = simp (d, f) (hole-values a e x [] ∙ simp m)
    go (before-it d f p q) (high m i j) u ih jh = simp (d, f) (hole-values a e x [] ∙ simp m)
    go (across d f p q) (inn m i j) (inn n k l) ih jh =
        simp (d, f, hole-values, in-high a.0 r.start.0 x.0 k, jh, in-low r.end.0 e.0 x.0 l, m, n, h.0)
    go (across d f p q) (inn m i j) (low n k) ih jh =
        simp (d, f) (hole-values a r.start x (gaps r.end e rs) ∙ simp (in-true a.0 r.start.0 x.0 i k)
        (sym (unheld-nothing a e x (values_at (r ∷ rs)) (none k) ∙ simp m)))
    go (across d f p q) (inn m i j) (high n k l) ih jh =
        simp (d, f, hole-values, in-high a.0 r.start.0 x.0 k, jh, in-true r.end.0 e.0 x.0 l j, m, n)
    go (across d f p q) (low m i) u ih jh =
        simp (d, f, hole-values, in-low a.0 r.start.0 x.0 i, jh, in-low r.end.0 e.0 x.0 (omega arith), m)
    go (across d f p q) (high m i j) u ih jh =
        simp (d, f, hole-values, in-high a.0 r.start.0 x.0 (omega arith), jh, in-high r.end.0 e.0 x.0 j, m)

unheld-blank : (a e : HostAddr) (f : HostAddr → Values) → Blank (unheld_in a e f)
unfolding unheld_in
unheld-blank a e f x h = go (inside a.0 e.0 x.0 && not (held (f x))) h
  where
    go : (t : Bool) → held (if t then raise 0 nothing else nothing) ≡ false → (if t then raise 0 nothing else nothing) ≡ nothing
    go true k = absurd (true≢false (sym (raise-held 0 nothing) ∙ k))
    go false k = refl

unheld-below : (a e : HostAddr) (n : ℕ) (rs : List Region) → e.0 ≤ n → Runs 0 rs → regions_below (unheld_in a e (values_at rs)) n ≡ gaps a e rs
unfolding unheld_in
unheld-below a e n rs l c =
    let g : Runs a.0 (gaps a e rs) = gaps-runs a e 0 rs c.ordered in
    unique-runs 0 _ (gaps a e rs) (below-runs (unheld_in a e (values_at rs)) n)
    (record { ordered = ordered-from a.0 0 (gaps a e rs) (omega arith) g.ordered; full = g.full; longest = g.longest })
    (λ x. below-values (unheld_in a e (values_at rs)) (unheld-blank a e (values_at rs)) n x ∙ go x (x.0 <? n) refl ∙ sym (gaps-values a e x 0 rs c.ordered c.full))
  where
    go : (x : HostAddr) (t : Bool) → (x.0 <? n) ≡ t → (if x.0 <? n then unheld_in a e (values_at rs) x else nothing) ≡ unheld_in a e (values_at rs) x
    go x true d = simp d
    go x false d = simp (d, in-high a.0 e.0 x.0 (omega (arith, ltb-false x.0 n d)))

-- the longest unheld runs of the range are the gaps of the table
pub unheld-is : (a e : HostAddr) (rs : List Region) → e.0 ≤ 2 ^ 64 → Runs 0 rs → regions (unheld_in a e (values_at rs)) ≡ gaps a e rs
unfolding regions
unheld-is a e = unheld-below a e (2 ^ 64)

pub unheld-gaps : (a e : HostAddr) (f : HostAddr → Values) → e.0 ≤ 2 ^ 64 → Blank f → regions (unheld_in a e f) ≡ gaps a e (regions f)
unfolding unheld_in
unheld-gaps a e f l b =
    regions-ext (unheld_in a e f) (unheld_in a e (values_at (regions f))) (λ x h. simp (regions-values f b x, lt-ltb x.0 (2 ^ 64) h))
    ∙ unheld-is a e (regions f) l (regions-runs f)

-- ---- the length of the peak

gap_length : (a e : HostAddr) (rs qs : List Region) → length (gap a e ++ rs) + length qs ≡ length rs + length (hole a e qs)
unfolding gap hole
gap_length a e rs qs = go (a.0 <? e.0) refl
  where
    go : (t : Bool) → (a.0 <? e.0) ≡ t → length (gap a e ++ rs) + length qs ≡ length rs + length (hole a e qs)
    go true d = simp d (omega arith)
    go false d = simp d

fill-length : (a e : HostAddr) (rs : List Region) → length (fill a e rs) ≡ length rs + length (gaps a e rs)
unfolding fill gaps
fill-length a e [] = rw (← append-nil (gap a e)) (omega (arith, gap_length a e [] []))
fill-length a e (r ∷ rs) = go (lies? a e r) (fill-length a e rs) (fill-length r.end e rs)
  where
    go : Lies a e r → length (fill a e rs) ≡ length rs + length (gaps a e rs) → length (fill r.end e rs) ≡ length rs + length (gaps r.end e rs)
        → length (fill a e (r ∷ rs)) ≡ length (r ∷ rs) + length (gaps a e (r ∷ rs))
    go (after-it d p) ih jh = simp d (omega arith)
    go (before-it d f p q) ih jh = simp (d, f) (omega (arith, gap_length a e (r ∷ rs) []))
    go (across d f p q) ih jh = simp (d, f) (omega (arith, gap_length a r.start (r ∷ fill r.end e rs) (gaps r.end e rs)))

gaps_cut : (a e y : HostAddr) (lo : ℕ) (rs : List Region) → Ordered lo rs → AllHeld rs → gaps a e (cut y rs) ≡ gaps a e rs
unfolding unheld_in
gaps_cut a e y lo rs o h =
    unique-runs a.0 (gaps a e (cut y rs)) (gaps a e rs) (gaps-runs a e lo (cut y rs) (cut-ordered y lo rs o)) (gaps-runs a e lo rs o)
    (λ x. gaps-values a e x lo (cut y rs) (cut-ordered y lo rs o) (cut-full y rs h) ∙ simp (cut-values y x rs) (sym (gaps-values a e x lo rs o h)))

-- a cut makes one region more exactly if the address is strictly inside one
pub length_cut : (y : HostAddr) (rs : List Region) → length (cut y rs) ≡ length rs + bit (any (splits y) rs)
unfolding cut
length_cut y [] = refl
length_cut y (r ∷ rs) = go (splits y r) refl (length_cut y rs)
  where
    go : (t : Bool) → splits y r ≡ t → length (cut y rs) ≡ length rs + bit (any (splits y) rs)
        → length (cut y (r ∷ rs)) ≡ length (r ∷ rs) + bit (any (splits y) (r ∷ rs))
    go true d ih = simp d (omega arith)
    go false d ih = simp d (omega arith)

-- a cut at a leaves a later e inside what it was inside
pub splits-cut : (a e : HostAddr) (rs : List Region) → a.0 < e.0 → any (splits e) (cut a rs) ≡ any (splits e) rs
unfolding cut splits region
splits-cut a e [] l = refl
splits-cut a e (r ∷ rs) l = go (cuts? a r) (splits-cut a e rs l)
  where
    go : Cuts a r → any (splits e) (cut a rs) ≡ any (splits e) rs → any (splits e) (cut a (r ∷ rs)) ≡ any (splits e) (r ∷ rs)
    go (splits-it d p q) ih = simp d (simp (lt-ltb r.start.0 e.0 (omega arith), le-ltb e.0 a.0 (omega arith), lt-ltb a.0 e.0 l))
    go (at_most d p) ih = simp (d, ih)
    go (past d p) ih = simp (d, ih)

-- the new records of an add are what its list grows by at its peak
pub peak-grows : (a e : HostAddr) (f : HostAddr → Values) → a.0 < e.0 → e.0 ≤ 2 ^ 64 → Blank f
    → length (peak a e (regions f)) ≡ length (regions f) + new_records a e f
unfolding peak new_records
peak-grows a e f l h b =
    let c : Runs 0 (regions f) = regions-runs f in
    let g : gaps a e (cut e (cut a (regions f))) ≡ regions (unheld_in a e f) =
    gaps_cut a e e 0 (cut a (regions f)) (cut-ordered a 0 (regions f) c.ordered) (cut-full a (regions f) c.full)
    ∙ gaps_cut a e a 0 (regions f) c.ordered c.full ∙ sym (unheld-gaps a e f h b) in
    omega (
      arith,
      fill-length a e (cut e (cut a (regions f))),
      ap length g,
      length_cut e (cut a (regions f)),
      length_cut a (regions f),
      ap bit (splits-cut a e (regions f) l),
    )

-- ---- the records in use stay within what is allowed

pub length-change : (f : Values → Values) (a e : HostAddr) (rs : List Region) → length (change f a e rs) ≡ length rs
unfolding change
length-change f a e [] = refl
length-change f a e (r ∷ rs) = ap suc (length-change f a e rs)

length-join : (r : Region) (rs : List Region) → length (join r rs) ≤ suc (length rs)
unfolding join
length-join r [] = omega arith
length-join r (q ∷ qs) = go (joins r q) refl
  where
    go : (t : Bool) → joins r q ≡ t → length (join r (q ∷ qs)) ≤ suc (length (q ∷ qs))
    go true d = simp d (omega arith)
    go false d = simp d (omega arith)

pub length-joined : (rs : List Region) → length (joined rs) ≤ length rs
unfolding joined
length-joined [] = omega arith
length-joined (r ∷ rs) = omega (arith, length-join r (joined rs), length-joined rs)

pub length-added : (a e : HostAddr) (k : ℕ) (rs : List Region) → length (added a e k rs) ≤ length (peak a e rs)
unfolding added
length-added a e k rs =
    omega (arith, length-joined (change (raise k) a e (peak a e rs)), length-change (raise k) a e (peak a e rs))

-- a region that a remove frees
abbrev frees : HostAddr → HostAddr → Region → Bool
frees a e r = within a e r && (r.values.refcount =? 1)

lower-one : (k : ℕ) (v : Values) → (v.refcount =? 1) ≡ true → held (lower k v) ≡ false
unfolding held lower nothing
lower-one k v h = simp (le-leb v.refcount 1 (omega (arith, eqb-true v.refcount 1 h)))

abbrev kept : ℕ → HostAddr → HostAddr → List Region → List Region
kept k a e rs = keep (λ q. held q.values) (change (lower k) a e rs)

keep-head : (b : Bool) (r : Region) (rs : List Region) → length (if b then r ∷ rs else rs) ≤ suc (length rs)
keep-head true r rs = omega arith
keep-head false r rs = omega arith

length-kept : (k : ℕ) (a e : HostAddr) (rs : List Region) → length (kept k a e rs) + count (frees a e) rs ≤ length rs
unfolding change region
length-kept k a e [] = omega arith
length-kept k a e (r ∷ rs) = go (within a e r) refl (r.values.refcount =? 1) refl (length-kept k a e rs)
  where
    go : (s : Bool) → within a e r ≡ s → (t : Bool) → (r.values.refcount =? 1) ≡ t
        → length (kept k a e rs) + count (frees a e) rs ≤ length rs → length (kept k a e (r ∷ rs)) + count (frees a e) (r ∷ rs) ≤ length (r ∷ rs)
    go true d true f ih = simp (d, f, lower-one k r.values f) (omega arith)
    go true d false f ih = simp (d, f) (omega (arith, keep-head (held (lower k r.values)) (region r.start r.end (lower k r.values)) (kept k a e rs)))
    go false d t f ih = simp d (omega (arith, keep-head (held r.values) r (kept k a e rs)))

freed-cut : (a e : HostAddr) (rs : List Region) → count (frees a e) rs ≤ count (frees a e) (cut e rs)
unfolding cut within
freed-cut a e [] = omega arith
freed-cut a e (r ∷ rs) = go (cuts? e r) (freed-cut a e rs)
  where
    go : Cuts e r → count (frees a e) rs ≤ count (frees a e) (cut e rs) → count (frees a e) (r ∷ rs) ≤ count (frees a e) (cut e (r ∷ rs))
    go (splits-it d p q) ih = simp (d, lt-leb r.end.0 e.0 q, and-false) (omega arith)
    go (at_most d p) ih = simp d (omega arith)
    go (past d p) ih = simp d (omega arith)

-- what a remove leaves, and what it freed before its cut at the end, is no more than both cuts make
pub length_removed : (a e : HostAddr) (k : ℕ) (rs : List Region) → a.0 < e.0
    → length (removed a e k rs) + freed a e rs ≤ length rs + bit (any (splits a) rs) + bit (any (splits e) rs)
unfolding removed freed
length_removed a e k rs l =
    omega (
      arith,
      length-joined (kept k a e (cut e (cut a rs))),
      length-kept k a e (cut e (cut a rs)),
      freed-cut a e (cut a rs),
      length_cut e (cut a rs),
      length_cut a rs,
      ap bit (splits-cut a e rs l),
    )

-- question 5 of a remove, in numbers: a record at the cut at start, and one at the cut at end, behind what it has freed by then
module _ (used allowed : ℕ) (a e : HostAddr) (rs : List Region) where
  pub cuts-fit : used + bit (any (splits a) rs) ≤ allowed
      → (any (splits e) rs ≡ true → used + bit (any (splits a) rs) - freed a e rs + 1 ≤ allowed) → cuts_fit used allowed a e rs ≡ true
  unfolding cuts_fit
  cuts-fit i j = go (any (splits e) rs) refl
    where
      go : (t : Bool) → any (splits e) rs ≡ t → cuts_fit used allowed a e rs ≡ true
      go true d =
          simp (d, le-leb (used + bit (any (splits a) rs)) allowed i, le-leb (used + bit (any (splits a) rs) - freed a e rs + 1) allowed (j d))
      go false d = simp (d, le-leb (used + bit (any (splits a) rs)) allowed i)

  pub cuts-told : cuts_fit used allowed a e rs ≡ true
      → (used + bit (any (splits a) rs) ≤ allowed)
      × (any (splits e) rs ≡ true → used + bit (any (splits a) rs) - freed a e rs + 1 ≤ allowed)
  unfolding cuts_fit
  cuts-told h =
      let p = both _ _ h in (leb-true _ allowed p.0, λ d. leb-true _ allowed (simp d at p.1))

-- so many records are allowed
module _ (allowed : ℕ) (a e : HostAddr) (k : ℕ) (f : HostAddr → Values) (l : a.0 < e.0) (h : e.0 ≤ 2 ^ 64) (b : Blank f) where
  pub add-fits : length (regions f) + new_records a e f ≤ allowed → length (regions (changed_in (raise k) a e f)) ≤ allowed
  add-fits m = omega (arith, ap length (added_is a e k f b h), length-added a e k (regions f), peak-grows a e f l h b)

  pub remove-fits : cuts_fit (length (regions f)) allowed a e (regions f) ≡ true → length (regions (changed_in (lower k) a e f)) ≤ allowed
  remove-fits m = go (any (splits e) (regions f)) refl (cuts-told _ allowed a e (regions f) m)
    where
      made : length (regions (changed_in (lower k) a e f)) + freed a e (regions f) ≤ length (regions f) + bit (any (splits a) (regions f)) + bit (any (splits e) (regions f))
      made = rw (removed-is a e k f b h) at (length_removed a e k (regions f) l)

      go : (t : Bool) → any (splits e) (regions f) ≡ t
          → (length (regions f) + bit (any (splits a) (regions f)) ≤ allowed)
          × (any (splits e) (regions f) ≡ true → length (regions f) + bit (any (splits a) (regions f)) - freed a e (regions f) + 1 ≤ allowed)
          → length (regions (changed_in (lower k) a e f)) ≤ allowed
      go true d m = omega (arith, made, ap bit d, m.1 d)
      go false d m = omega (arith, made, ap bit d, m.0)
