-- An add and a remove leave alone what ends below their range, and what begins above it: they are those of the part between.
use Rattle.std.specs.Prelude.{if◌then◌else◌}
use Prim.Native.Nat.{ℕ, ◌≤◌, ◌<◌}
use mathlib.Core.Path.{◌≡◌, refl, sym, ap, ◌∙◌}
use mathlib.Core.Bool.{Bool, true, false}
use mathlib.Core.List.{List, [], ◌∷◌, ◌++◌, append-nil, append_assoc}
use native.Mathlib.Omega.{arith}
use native.Mathlib.Decide.{ℕ_discrete}
use borrow.Author.Tests.{le-ltb, lt-leb, leb-true, ltb-true}
use Rattle.definitions.specs.Tests.{◌<?◌, ◌≤?◌}
use Rattle.definitions.specs.Values.{nothing, held, raise, lower}
use Rattle.definitions.specs.Regions.{region, within, splits, joins, join, joined, cut}
use Rattle.definitions.specs.declared.addr.HostAddr.{HostAddr}
use Rattle.definitions.specs.declared.region.Values.{Values}
use Rattle.definitions.specs.declared.region.Region.{Region}
use Rattle.definitions.proofs.Bools.{and-false, both}
use Rattle.definitions.proofs.Lists.{gap, fill, change, peak, added, removed, Ordered, AllHeld, Ends, Longest, Runs}
use Rattle.definitions.proofs.RegionLaws.{cut-ordered, fill-ordered, ordered-from, Lies, after-it, before-it, across, lies?}
use Rattle.definitions.proofs.ChangeLaws.{cut-full}
use Rattle.capability_engine.specs.PoolChain.{All, First}
use Rattle.capability_engine.specs.RegionPasses.{lowered, changed_one}
use Rattle.capability_engine.proofs.RegionTurns.{cut-no, split-not, join-nil, join_one, joins-front, joins-back, joins-not, cons_no, join-no, change-cons, change-nil, lowered-drop, lowered-keep, lowered-nil, fill-nil, fill-past, fill-over, fill-in}

-- ---- the parts of a list of runs

pub ordered-rest : (lo : ℕ) (rs qs : List Region) → Ordered lo (rs ++ qs) → Ordered 0 qs
ordered-rest lo [] qs o = ordered-from lo 0 qs (omega arith) o
ordered-rest lo (r ∷ rs) qs o = ordered-rest r.end.0 rs qs o.2

pub ordered-first : (lo : ℕ) (rs qs : List Region) → Ordered lo (rs ++ qs) → Ordered lo rs
ordered-first lo [] qs o = tt
ordered-first lo (r ∷ rs) qs o = (o.0, o.1, ordered-first r.end.0 rs qs o.2)

pub full-first : (rs qs : List Region) → AllHeld (rs ++ qs) → AllHeld rs
full-first [] qs h = tt
full-first (r ∷ rs) qs h = (h.0, full-first rs qs h.1)

full-rest : (rs qs : List Region) → AllHeld (rs ++ qs) → AllHeld qs
full-rest [] qs h = h
full-rest (r ∷ rs) qs h = full-rest rs qs h.1

longest-rest : (rs qs : List Region) → Longest (rs ++ qs) → Longest qs
longest-rest [] qs h = h
longest-rest (r ∷ rs) qs h = longest-rest rs qs h.1

pub runs-rest : (lo : ℕ) (rs qs : List Region) → Runs lo (rs ++ qs) → Runs 0 qs
runs-rest lo rs qs r = record { ordered = ordered-rest lo rs qs r.ordered; full = full-rest rs qs r.full; longest = longest-rest rs qs r.longest }

-- what follows regions in order begins above what they begin with
above-after : (x lo : ℕ) (rs qs : List Region) → Ordered lo (rs ++ qs) → x < lo → First (λ r. x < r.start.0) qs
above-after x lo [] [] o l = tt
above-after x lo [] (q ∷ qs) o l = omega arith
above-after x lo (r ∷ rs) qs o l = above-after x r.end.0 rs qs o.2 (omega arith)

abbrev pub Below : HostAddr → List Region → Type 0
Below a rs = All (λ r. r.end.0 < a.0) rs

abbrev pub Above : HostAddr → List Region → Type 0
Above e rs = First (λ r. e.0 < r.start.0) rs

-- ---- a region by itself

pub split-past : (y : HostAddr) (r : Region) → r.end.0 ≤ y.0 → splits y r ≡ false
unfolding splits
split-past y r l = simp (le-ltb y.0 r.end.0 l, and-false)

within-start : (a e : HostAddr) (r : Region) → within a e r ≡ true → (a.0 ≤ r.start.0) × (r.end.0 ≤ e.0)
unfolding within
within-start a e r d =
    let b = both (a.0 ≤? r.start.0) (r.end.0 ≤? e.0) d in (leb-true _ _ b.0, leb-true _ _ b.1)

module _ (f : Values → Values) (a e : HostAddr) (r : Region) where
  one-before : r.start.0 < a.0 → changed_one f a e r ≡ r
  unfolding changed_one within
  one-before l = simp (lt-leb a.0 r.start.0 l)

  one-after : e.0 < r.end.0 → changed_one f a e r ≡ r
  unfolding changed_one within
  one-after l = simp (lt-leb r.end.0 e.0 l, and-false)

  one-start : (changed_one f a e r).start ≡ r.start
  unfolding changed_one region
  one-start = go (within a e r)
    where
      go : (b : Bool) → (if b then region r.start r.end (f r.values) else r).start ≡ r.start
      go true = refl
      go false = refl

  -- it lies in the range, or stays as it is
  data Once : Type 0 where
    inside-it : within a e r ≡ true → (changed_one f a e r).end ≡ r.end → Once
    as-it-is : changed_one f a e r ≡ r → Once

  once? : Once
  unfolding changed_one region
  once? = go (within a e r) refl
    where
      go : (b : Bool) → within a e r ≡ b → Once
      go true d = inside-it d (rw d)
      go false d = as-it-is (rw d)

held-some : (r : Region) → held r.values ≡ true → r.values.refcount ≡ 0 → ⊥
unfolding held
held-some r h z = omega (arith, ltb-true 0 r.values.refcount h)

-- ---- what ends below the range

module _ (a e : HostAddr) (ae : a.0 ≤ e.0) where
  cut-front : (y : HostAddr) → a.0 ≤ y.0 → (rs qs : List Region) → Below a rs → cut y (rs ++ qs) ≡ rs ++ cut y qs
  cut-front y l [] qs h = refl
  cut-front y l (r ∷ rs) qs h =
      cut-no y r (split-past y r (omega arith)) (rs ++ qs) ∙ ap (λ (t : List Region). r ∷ t) (cut-front y l rs qs h.1)

  fill-front : (rs qs : List Region) → Below a rs → fill a e (rs ++ qs) ≡ rs ++ fill a e qs
  fill-front [] qs h = refl
  fill-front (r ∷ rs) qs h =
      fill-past a e r (omega arith) (rs ++ qs) ∙ ap (λ (t : List Region). r ∷ t) (fill-front rs qs h.1)

  change-front : (f : Values → Values) (lo : ℕ) (rs qs : List Region) → Ordered lo (rs ++ qs) → Below a rs → change f a e (rs ++ qs) ≡ rs ++ change f a e qs
  change-front f lo [] qs o h = refl
  change-front f lo (r ∷ rs) qs o h =
      change-cons f a e r (rs ++ qs)
      ∙ rw (one-before f a e r (omega (arith, h.0, o.1))) (ap (λ (t : List Region). r ∷ t) (change-front f r.end.0 rs qs o.2 h.1))

  lowered-front : (k lo : ℕ) (rs qs : List Region) → Ordered lo (rs ++ qs) → AllHeld (rs ++ qs) → Below a rs → lowered k a e (rs ++ qs) ≡ rs ++ lowered k a e qs
  lowered-front k lo [] qs o g h = refl
  lowered-front k lo (r ∷ rs) qs o g h =
      let one = one-before (lower k) a e r (omega (arith, h.0, o.1)) in
      lowered-keep k a e r (λ z. held-some r g.0 (sym (ap (λ (q : Region). q.values.refcount) one) ∙ z)) (rs ++ qs)
      ∙ rw one (ap (λ (t : List Region). r ∷ t) (lowered-front k r.end.0 rs qs o.2 g.1 h.1))

  -- the region before the range does not go on in the first of the rest
  module _ (p : Region) (l : p.end.0 < a.0) where
    apart : (q : Region) → a.0 ≤ q.start.0 → joins p q ≡ false
    apart q m = sym (joins-not p q (λ (d : p.end.0 ≡ q.start.0). omega arith))

    ends-cut : (y : HostAddr) (rs : List Region) → Ends p rs → Ends p (cut y rs)
    unfolding cut
    ends-cut y [] h = h
    ends-cut y (r ∷ rs) h = go (splits y r)
      where
        go : (b : Bool) → Ends p (if b then region r.start y r.values ∷ region y r.end r.values ∷ rs else r ∷ cut y rs)
        go true = joins-front p r y r.values refl ∙ h
        go false = h

    ends-gap : (x : HostAddr) (rs : List Region) → Ends p rs → Ends p (gap a x ++ rs)
    unfolding gap region
    ends-gap x rs h = go (a.0 <? x.0)
      where
        go : (b : Bool) → Ends p ((if b then region a x nothing ∷ [] else []) ++ rs)
        go true = apart (region a x nothing) (omega arith)
        go false = h

    ends-fill : (rs : List Region) → Ends p rs → Ends p (fill a e rs)
    ends-fill [] h = rw fill-nil (ends-gap e [] tt)
    ends-fill (r ∷ rs) h = go (lies? a e r)
      where
        go : Lies a e r → Ends p (fill a e (r ∷ rs))
        go (after-it d m) = rw (fill-past a e r m rs) h
        go (before-it d c m n) = rw (fill-over a e r m n rs) (ends-gap e (r ∷ rs) h)
        go (across d c m n) = rw (fill-in a e r m n rs) (ends-gap r.start (r ∷ fill r.end e rs) h)

    ends-one : (f : Values → Values) (r : Region) → joins p r ≡ false → joins p (changed_one f a e r) ≡ false
    ends-one f r h = go (once? f a e r)
      where
        go : Once f a e r → joins p (changed_one f a e r) ≡ false
        go (inside-it d c) = apart (changed_one f a e r) (rw one-start (within-start a e r d).0)
        go (as-it-is d) = rw d h

    ends-change : (f : Values → Values) (rs : List Region) → Ends p rs → Ends p (change f a e rs)
    ends-change f [] h = rw change-nil tt
    ends-change f (r ∷ rs) h = rw change-cons (ends-one f r h)

    ends-far : (k lo : ℕ) (rs : List Region) → Ordered lo rs → p.end.0 < lo → Ends p (lowered k a e rs)
    ends-far k lo [] o m = rw lowered-nil tt
    ends-far k lo (r ∷ rs) o m =
        elim (ℕ_discrete (changed_one (lower k) a e r).values.refcount 0) [
          | yes z ↦ rw (lowered-drop k a e r z rs) (ends-far k r.end.0 rs o.2 (omega (arith, o.0, o.1)))
          | no z ↦
              rw (lowered-keep k a e r z rs)
              (sym (joins-not p (changed_one (lower k) a e r) (λ d. omega (arith, o.0, ap (λ (x : HostAddr). x.0) (one-start (lower k) a e r)))))
        ]

    ends-lowered : (k lo : ℕ) (rs : List Region) → Ordered lo rs → AllHeld rs → Ends p rs → Ends p (lowered k a e rs)
    ends-lowered k lo [] o g h = rw lowered-nil tt
    ends-lowered k lo (r ∷ rs) o g h = go (once? (lower k) a e r)
      where
        go : Once (lower k) a e r → Ends p (lowered k a e (r ∷ rs))
        go (inside-it d c) = ends-far k a.0 (r ∷ rs) ((within-start a e r d).0, o.1, o.2) l
        go (as-it-is d) = rw (lowered-keep k a e r (λ z. held-some r g.0 (sym (ap (λ (q : Region). q.values.refcount) d) ∙ z)) rs, d) h

-- no two that follow each other become one, where the first does not go on in the second
ends-joined : (r : Region) (qs : List Region) → Ends r qs → joined (r ∷ qs) ≡ r ∷ joined qs
ends-joined r [] h = join_one r ∙ ap (λ (t : List Region). r ∷ t) (sym join-nil)
ends-joined r (q ∷ qs) h = join-no r q h qs

joined-none : (rs : List Region) → Longest rs → joined rs ≡ rs
joined-none [] h = join-nil
joined-none (r ∷ rs) h = ends-joined r rs h.0 ∙ ap (λ (t : List Region). r ∷ t) (joined-none rs h.1)

joined-front : (a : HostAddr) (lo : ℕ) (rs qs ks : List Region) → Ordered lo (rs ++ qs) → Longest (rs ++ qs) → Below a rs
    → ((p : Region) → p.end.0 < a.0 → Ordered p.end.0 qs → Ends p qs → Ends p ks) → joined (rs ++ ks) ≡ rs ++ joined ks
joined-front a lo [] qs ks o g h f = refl
joined-front a lo (r ∷ []) qs ks o g h f = ends-joined r ks (f r h.0 o.2 g.0)
joined-front a lo (r ∷ s ∷ rs) qs ks o g h f =
    join-no r s g.0 (rs ++ ks) ∙ ap (λ (t : List Region). r ∷ t) (joined-front a r.end.0 (s ∷ rs) qs ks o.2 g.1 h.1 f)

-- ---- what begins above the range

pub split-before : (y : HostAddr) (r : Region) → y.0 ≤ r.start.0 → splits y r ≡ false
split-before y r l = sym (split-not y r l)

cut-none : (y : HostAddr) (lo : ℕ) (qs : List Region) → Ordered lo qs → y.0 ≤ lo → cut y qs ≡ qs
unfolding cut
cut-none y lo [] o l = refl
cut-none y lo (q ∷ qs) o l =
    cut-no y q (split-before y q (omega (arith, o.0))) qs ∙ ap (λ (t : List Region). q ∷ t) (cut-none y q.end.0 qs o.2 (omega (arith, o.0, o.1)))

change-none : (f : Values → Values) (a e : HostAddr) (lo : ℕ) (qs : List Region) → Ordered lo qs → e.0 ≤ lo → change f a e qs ≡ qs
change-none f a e lo [] o l = change-nil f a e
change-none f a e lo (q ∷ qs) o l =
    change-cons f a e q qs
    ∙ rw (one-after f a e q (omega (arith, o.0, o.1))) (ap (λ (t : List Region). q ∷ t) (change-none f a e q.end.0 qs o.2 (omega (arith, o.0, o.1))))

lowered_none : (k : ℕ) (a e : HostAddr) (lo : ℕ) (qs : List Region) → Ordered lo qs → AllHeld qs → e.0 ≤ lo → lowered k a e qs ≡ qs
lowered_none k a e lo [] o g l = lowered-nil k a e
lowered_none k a e lo (q ∷ qs) o g l =
    let one = one-after (lower k) a e q (omega (arith, o.0, o.1)) in
    lowered-keep k a e q (λ z. held-some q g.0 (sym (ap (λ (r : Region). r.values.refcount) one) ∙ z)) qs
    ∙ rw one (ap (λ (t : List Region). q ∷ t) (lowered_none k a e q.end.0 qs o.2 g.1 (omega (arith, o.0, o.1))))

-- from the first of them on
above-ordered : (e : HostAddr) (lo : ℕ) (qs : List Region) → Ordered lo qs → Above e qs → Ordered e.0 qs
above-ordered e lo [] o h = tt
above-ordered e lo (q ∷ qs) o h = (omega (arith, h), o.1, o.2)

-- x is below the end of the first
abbrev Under : ℕ → List Region → Type 0
Under x qs = First (λ q. x < q.end.0) qs

under-after : (lo : ℕ) (rs qs : List Region) → Ordered lo (rs ++ qs) → Under lo qs
under-after lo [] [] o = tt
under-after lo [] (q ∷ qs) o = omega (arith, o.0, o.1)
under-after lo (r ∷ rs) qs o = lift qs (under-after r.end.0 rs qs o.2)
  where
    lift : (qs : List Region) → Under r.end.0 qs → Under lo qs
    lift [] h = tt
    lift (q ∷ qs) h = omega (arith, h, o.0, o.1)

module _ (qs : List Region) where
  cut-back : (y : HostAddr) → cut y qs ≡ qs → (rs : List Region) → cut y (rs ++ qs) ≡ cut y rs ++ qs
  unfolding cut
  cut-back y n [] = n
  cut-back y n (r ∷ rs) = go (splits y r) (cut-back y n rs)
    where
      go : (b : Bool) → cut y (rs ++ qs) ≡ cut y rs ++ qs
          → (if b then region r.start y r.values ∷ region y r.end r.values ∷ (rs ++ qs) else r ∷ cut y (rs ++ qs))
          ≡ (if b then region r.start y r.values ∷ region y r.end r.values ∷ rs else r ∷ cut y rs) ++ qs
      go true ih = refl
      go false ih = ap (λ (t : List Region). r ∷ t) ih

  change-back : (f : Values → Values) (a e : HostAddr) → change f a e qs ≡ qs → (rs : List Region) → change f a e (rs ++ qs) ≡ change f a e rs ++ qs
  change-back f a e n [] = n ∙ ap (λ (t : List Region). t ++ qs) (sym (change-nil f a e))
  change-back f a e n (r ∷ rs) = rw (change-cons f a e r (rs ++ qs), change-cons f a e r rs) (ap (λ (t : List Region). changed_one f a e r ∷ t) (change-back f a e n rs))

  lowered-back : (k : ℕ) (a e : HostAddr) → lowered k a e qs ≡ qs → (rs : List Region) → lowered k a e (rs ++ qs) ≡ lowered k a e rs ++ qs
  lowered-back k a e n [] = n ∙ ap (λ (t : List Region). t ++ qs) (sym (lowered-nil k a e))
  lowered-back k a e n (r ∷ rs) =
      let ih = lowered-back k a e n rs in
      elim (ℕ_discrete (changed_one (lower k) a e r).values.refcount 0) [
        | yes z ↦ rw (lowered-drop k a e r z (rs ++ qs), lowered-drop k a e r z rs) ih
        | no z ↦ rw (lowered-keep k a e r z (rs ++ qs), lowered-keep k a e r z rs) (ap (λ (t : List Region). changed_one (lower k) a e r ∷ t) ih)
      ]

  join-back : (r : Region) → Ends r qs → (rs : List Region) → join r (rs ++ qs) ≡ join r rs ++ qs
  unfolding join
  join-back r h [] = go qs h
    where
      go : (qs : List Region) → Ends r qs → join r qs ≡ r ∷ qs
      go [] h = refl
      go (q ∷ qs) h = cons_no r q qs h
  join-back r h (q ∷ rs) = go (joins r q)
    where
      go : (b : Bool) → (if b then region r.start q.end q.values ∷ (rs ++ qs) else r ∷ q ∷ (rs ++ qs))
          ≡ (if b then region r.start q.end q.values ∷ rs else r ∷ q ∷ rs) ++ qs
      go true = refl
      go false = refl

  joined_back : Longest qs → (rs : List Region) → All (λ r. Ends r qs) rs → joined (rs ++ qs) ≡ joined rs ++ qs
  unfolding joined
  joined_back g [] h = joined-none qs g
  joined_back g (r ∷ rs) h = ap (join r) (joined_back g rs h.1) ∙ join-back r h.0 (joined rs)

  module _ (e : HostAddr) (up : Above e qs) where
    fill-back : (a : HostAddr) (lo : ℕ) (rs : List Region) → Ordered lo (rs ++ qs) → Under a.0 qs → fill a e (rs ++ qs) ≡ fill a e rs ++ qs
    fill-back a lo [] o u = go qs up u ∙ ap (λ (t : List Region). t ++ qs) (sym (fill-nil a e ∙ append-nil (gap a e)))
      where
        go : (qs : List Region) → Above e qs → Under a.0 qs → fill a e qs ≡ gap a e ++ qs
        go [] v u = fill-nil a e
        go (q ∷ qs) v u = fill-over a e q u (omega (arith, v)) qs
    fill-back a lo (r ∷ rs) o u = go (lies? a e r) (fill-back a r.end.0 rs o.2 u) (fill-back r.end r.end.0 rs o.2 (under-after r.end.0 rs qs o.2))
      where
        go : Lies a e r → fill a e (rs ++ qs) ≡ fill a e rs ++ qs → fill r.end e (rs ++ qs) ≡ fill r.end e rs ++ qs
            → fill a e (r ∷ (rs ++ qs)) ≡ fill a e (r ∷ rs) ++ qs
        go (after-it d m) ih jh = rw (fill-past a e r m (rs ++ qs), fill-past a e r m rs) (ap (λ (t : List Region). r ∷ t) ih)
        go (before-it d c m n) ih jh =
            rw (fill-over a e r m n (rs ++ qs), fill-over a e r m n rs) (sym (append_assoc (gap a e) (r ∷ rs) qs))
        go (across d c m n) ih jh =
            rw (fill-in a e r m n (rs ++ qs), fill-in a e r m n rs, jh) (sym (append_assoc (gap a r.start) (r ∷ fill r.end e rs) qs))

    -- a region that ends at or below e does not go on in them
    clear-far : (r : Region) → r.end.0 ≤ e.0 → Ends r qs
    clear-far r l = go qs up
      where
        go : (qs : List Region) → Above e qs → Ends r qs
        go [] v = tt
        go (q ∷ qs) v = sym (joins-not r q (λ (d : r.end.0 ≡ q.start.0). omega (arith, v)))

    clear_second : (y : HostAddr) (r : Region) → Ends r qs → Ends (region y r.end r.values) qs
    clear_second y r h = go qs h
      where
        go : (qs : List Region) → Ends r qs → Ends (region y r.end r.values) qs
        go [] h = tt
        go (q ∷ qs) h = joins-back y r q ∙ h

    clear-region : (s x : HostAddr) (v : Values) → x.0 ≤ e.0 → Ends (region s x v) qs
    unfolding region
    clear-region s x v l = clear-far (region s x v) l

    clear-cut : (y : HostAddr) → y.0 ≤ e.0 → (rs : List Region) → All (λ r. Ends r qs) rs → All (λ r. Ends r qs) (cut y rs)
    unfolding cut
    clear-cut y l [] h = tt
    clear-cut y l (r ∷ rs) h = go (splits y r) (clear-cut y l rs h.1)
      where
        go : (b : Bool) → All (λ r. Ends r qs) (cut y rs)
            → All (λ r. Ends r qs) (if b then region r.start y r.values ∷ region y r.end r.values ∷ rs else r ∷ cut y rs)
        go true ih = (clear-region r.start y r.values l, (clear_second y r h.0, h.1))
        go false ih = (h.0, ih)

    clear-gap : (s x : HostAddr) → x.0 ≤ e.0 → (rs : List Region) → All (λ r. Ends r qs) rs → All (λ r. Ends r qs) (gap s x ++ rs)
    unfolding gap
    clear-gap s x l rs h = go (s.0 <? x.0)
      where
        go : (b : Bool) → All (λ r. Ends r qs) ((if b then region s x nothing ∷ [] else []) ++ rs)
        go true = (clear-region s x nothing l, h)
        go false = h

    clear-fill : (a : HostAddr) (rs : List Region) → All (λ r. Ends r qs) rs → All (λ r. Ends r qs) (fill a e rs)
    clear-fill a [] h = rw fill-nil (clear-gap a e (omega arith) [] tt)
    clear-fill a (r ∷ rs) h = go (lies? a e r) (clear-fill a rs h.1) (clear-fill r.end rs h.1)
      where
        go : Lies a e r → All (λ r. Ends r qs) (fill a e rs) → All (λ r. Ends r qs) (fill r.end e rs) → All (λ r. Ends r qs) (fill a e (r ∷ rs))
        go (after-it d m) ih jh = rw (fill-past a e r m rs) (h.0, ih)
        go (before-it d c m n) ih jh = rw (fill-over a e r m n rs) (clear-gap a e (omega arith) (r ∷ rs) h)
        go (across d c m n) ih jh = rw (fill-in a e r m n rs) (clear-gap a r.start (omega arith) (r ∷ fill r.end e rs) (h.0, jh))

    clear-one : (f : Values → Values) (a : HostAddr) (r : Region) → Ends r qs → Ends (changed_one f a e r) qs
    clear-one f a r h = go (once? f a e r)
      where
        go : Once f a e r → Ends (changed_one f a e r) qs
        go (inside-it d c) = clear-far (changed_one f a e r) (rw c (within-start a e r d).1)
        go (as-it-is d) = rw d h

    clear-change : (f : Values → Values) (a : HostAddr) (rs : List Region) → All (λ r. Ends r qs) rs → All (λ r. Ends r qs) (change f a e rs)
    clear-change f a [] h = rw change-nil tt
    clear-change f a (r ∷ rs) h = rw change-cons (clear-one f a r h.0, clear-change f a rs h.1)

    clear-lowered : (k : ℕ) (a : HostAddr) (rs : List Region) → All (λ r. Ends r qs) rs → All (λ r. Ends r qs) (lowered k a e rs)
    clear-lowered k a [] h = rw lowered-nil tt
    clear-lowered k a (r ∷ rs) h =
        elim (ℕ_discrete (changed_one (lower k) a e r).values.refcount 0) [
          | yes z ↦ rw (lowered-drop k a e r z rs) (clear-lowered k a rs h.1)
          | no z ↦ rw (lowered-keep k a e r z rs) (clear-one (lower k) a r h.0, clear-lowered k a rs h.1)
        ]

-- none of the regions before them goes on in them
clear-runs : (lo : ℕ) (rs qs : List Region) → Ordered lo (rs ++ qs) → Longest (rs ++ qs) → All (λ r. Ends r qs) rs
clear-runs lo [] qs o g = tt
clear-runs lo (r ∷ []) qs o g = (g.0, tt)
clear-runs lo (r ∷ s ∷ rs) qs o g =
    (clear-far qs r.end (above-after r.end.0 s.end.0 rs qs o.2.2 (omega (arith, o.2.0, o.2.1))) r (omega arith), clear-runs r.end.0 (s ∷ rs) qs o.2 g.1)

-- ---- an add and a remove of the part between

module _ (a e : HostAddr) (ae : a.0 ≤ e.0) where
  module _ (rs qs : List Region) (g : Runs 0 (rs ++ qs)) (h : Below a rs) where
    pub cuts-front : cut a (rs ++ qs) ≡ rs ++ cut a qs
    cuts-front = cut-front a e ae a (omega arith) rs qs h

    pub peak-front : peak a e (rs ++ qs) ≡ rs ++ peak a e qs
    unfolding peak
    peak-front =
        rw (cuts-front, cut-front a e ae e ae rs (cut a qs) h) (fill-front a e ae rs (cut e (cut a qs)) h)

    peak-ordered : Ordered 0 (rs ++ peak a e qs)
    unfolding peak
    peak-ordered = rw peak-front at (fill-ordered a e 0 (cut e (cut a (rs ++ qs))) (cut-ordered e 0 (cut a (rs ++ qs)) (cut-ordered a 0 (rs ++ qs) g.ordered)) (omega arith))

    pub raise-front : (f : Values → Values) → change f a e (peak a e (rs ++ qs)) ≡ rs ++ change f a e (peak a e qs)
    raise-front f = rw peak-front (change-front a e ae f 0 rs (peak a e qs) peak-ordered h)

    pub added-front : (k : ℕ) → added a e k (rs ++ qs) ≡ rs ++ added a e k qs
    unfolding added peak
    added-front k =
        ap joined (raise-front (raise k))
        ∙ joined-front a 0 rs qs (change (raise k) a e (peak a e qs)) g.ordered g.longest h
        (λ p l o n. ends-change a e ae p l (raise k) (peak a e qs) (ends-fill a e ae p l (cut e (cut a qs)) (ends-cut a e ae p l e (cut a qs) (ends-cut a e ae p l a qs n))))

    low-front : (k : ℕ) → lowered k a e (cut a (rs ++ qs)) ≡ rs ++ lowered k a e (cut a qs)
    low-front k =
        rw cuts-front
        (lowered-front a e ae k 0 rs (cut a qs) (rw cuts-front at (cut-ordered a 0 (rs ++ qs) g.ordered)) (rw cuts-front at (cut-full a (rs ++ qs) g.full)) h)

    pub second-front : (k : ℕ) → cut e (lowered k a e (cut a (rs ++ qs))) ≡ rs ++ cut e (lowered k a e (cut a qs))
    second-front k = rw low-front (cut-front a e ae e ae rs (lowered k a e (cut a qs)) h)

    pub removed-front : (k : ℕ) → removed a e k (rs ++ qs) ≡ rs ++ removed a e k qs
    unfolding removed lowered
    removed-front k =
        let two : cut e (cut a (rs ++ qs)) ≡ rs ++ cut e (cut a qs) = rw cuts-front (cut-front a e ae e ae rs (cut a qs) h) in
        let o = cut-ordered e 0 (cut a (rs ++ qs)) (cut-ordered a 0 (rs ++ qs) g.ordered) in
        let f = cut-full e (cut a (rs ++ qs)) (cut-full a (rs ++ qs) g.full) in
        let low : lowered k a e (cut e (cut a (rs ++ qs))) ≡ rs ++ lowered k a e (cut e (cut a qs)) =
        rw two (lowered-front a e ae k 0 rs (cut e (cut a qs)) (rw two at o) (rw two at f) h) in
        ap joined low
        ∙ joined-front a 0 rs qs (lowered k a e (cut e (cut a qs))) g.ordered g.longest h
        (λ p l o n.
        ends-lowered a e ae p l k p.end.0 (cut e (cut a qs)) (cut-ordered e p.end.0 (cut a qs) (cut-ordered a p.end.0 qs o)) (cut-full e (cut a qs) (cut-full a qs (full-rest rs qs g.full)))
        (ends-cut a e ae p l e (cut a qs) (ends-cut a e ae p l a qs n)))

  module _ (rs qs : List Region) (g : Runs 0 (rs ++ qs)) (up : Above e qs) where
    up-ordered : Ordered e.0 qs
    up-ordered = above-ordered e 0 qs (ordered-rest 0 rs qs g.ordered) up

    cute-back : (ts : List Region) → cut e (ts ++ qs) ≡ cut e ts ++ qs
    cute-back = cut-back qs e (cut-none e e.0 qs up-ordered (omega arith))

    pub cuts_back : cut a (rs ++ qs) ≡ cut a rs ++ qs
    cuts_back = cut-back qs a (cut-none a e.0 qs up-ordered ae) rs

    two_back : cut e (cut a (rs ++ qs)) ≡ cut e (cut a rs) ++ qs
    two_back = rw cuts_back (cute-back (cut a rs))

    pub peak-back : peak a e (rs ++ qs) ≡ peak a e rs ++ qs
    unfolding peak
    peak-back =
        let o = cut-ordered e 0 (cut a (rs ++ qs)) (cut-ordered a 0 (rs ++ qs) g.ordered) in
        rw two_back (fill-back qs e up a 0 (cut e (cut a rs)) (rw two_back at o) (under-after a.0 [] qs (ordered-from e.0 a.0 qs ae up-ordered)))

    pub raise-back : (f : Values → Values) → change f a e (peak a e (rs ++ qs)) ≡ change f a e (peak a e rs) ++ qs
    raise-back f = rw peak-back (change-back qs f a e (change-none f a e e.0 qs up-ordered (omega arith)) (peak a e rs))

    clear-two : All (λ r. Ends r qs) (cut e (cut a rs))
    clear-two = clear-cut qs e up e (omega arith) (cut a rs) (clear-cut qs e up a ae rs (clear-runs 0 rs qs g.ordered g.longest))

    pub added-back : (k : ℕ) → added a e k (rs ++ qs) ≡ added a e k rs ++ qs
    unfolding added peak
    added-back k =
        ap joined (raise-back (raise k))
        ∙ joined_back qs (longest-rest rs qs g.longest) (change (raise k) a e (peak a e rs)) (clear-change qs e up (raise k) a (peak a e rs) (clear-fill qs e up a (cut e (cut a rs)) clear-two))

    low-none : (k : ℕ) → lowered k a e qs ≡ qs
    low-none k = lowered_none k a e e.0 qs up-ordered (full-rest rs qs g.full) (omega arith)

    pub second_back : (k : ℕ) → cut e (lowered k a e (cut a (rs ++ qs))) ≡ cut e (lowered k a e (cut a rs)) ++ qs
    second_back k = rw (cuts_back, lowered-back qs k a e (low-none k) (cut a rs)) (cute-back (lowered k a e (cut a rs)))

    pub removed-back : (k : ℕ) → removed a e k (rs ++ qs) ≡ removed a e k rs ++ qs
    unfolding removed lowered
    removed-back k =
        let low : lowered k a e (cut e (cut a (rs ++ qs))) ≡ lowered k a e (cut e (cut a rs)) ++ qs = rw two_back (lowered-back qs k a e (low-none k) (cut e (cut a rs))) in
        ap joined low
        ∙ joined_back qs (longest-rest rs qs g.longest) (lowered k a e (cut e (cut a rs))) (clear-lowered qs e up k a (cut e (cut a rs)) clear-two)
