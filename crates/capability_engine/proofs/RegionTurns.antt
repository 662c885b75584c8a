-- What a turn of each loop does that goes along the list and changes it.
use Prim.Native.Nat.{ℕ, ◌≤◌, ◌<◌, ◌^◌}
use mathlib.Core.Path.{◌≡◌, refl, sym, ap, ◌∙◌}
use mathlib.Core.Bool.{Bool, true, false, ◌&&◌}
use mathlib.Core.List.{List, [], ◌∷◌, ◌++◌}
use native.Mathlib.Omega.{arith}
use native.Mathlib.Decide.{dec_lt}
use lib.ListN.{get_or, length, length-map}
use lib.Dec.{ltb, leb}
use borrow.Author.Tests.{lt-ltb, le-ltb, le-leb, lt-leb, eq-eqb, ne_eqb, eqb-true}
use Rattle.definitions.specs.Tests.{◌=?◌, fits}
use Rattle.definitions.specs.Values.{nothing, held, lower}
use Rattle.definitions.specs.Regions.{region, within, splits, same, joins, join, joined, cut}
use Rattle.definitions.specs.declared.addr.HostAddr.{HostAddr}
use Rattle.definitions.specs.declared.region.Values.{Values}
use Rattle.definitions.specs.declared.region.Region.{Region}
use Rattle.definitions.proofs.Lists.{gap, fill, change}
use Rattle.definitions.specs.Rights.{count_of, counters_of}
use Rattle.definitions.proofs.RightLaws.{same-eq}
use Rattle.counts.specs.Capped.{capped, capped_counts}
use Rattle.capability_engine.specs.PoolWords.{region_at, put_region}
use Rattle.capability_engine.specs.PoolChain.{records}
use Rattle.capability_engine.specs.PoolOwn.{Heap, free_of, Room, Pass, CanInsert, InsertsRegion, PutsGap, CanRemove, Removes}
use Rattle.capability_engine.specs.RegionPasses.{lowered, changed_one, Small, AllSmall}
use Rattle.capability_engine.proofs.PoolZips.{Zip, ZipAt, ahead, zip-open, zip_end, zip-stop, zip-none, zip-room, zip-puts, zip-insert, ZipOf, of-zip, of_at, zat-zip, zat-put, zat-skip, zat-skip-by, zat-last, zat-removes, zat-remove, zat-join, join-removes}

of-stop : {nx0 ws0 nx ws : List ℕ} {fl0 fl : Heap} {q : ℕ} {rs : List Region} {cur : List ℕ} {ks : List Region} {n : ℕ} → ZipOf nx0 ws0 fl0 nx ws fl q (λ t. t) rs cur ks n → Pass nx0 ws0 fl0 nx ws fl rs
of-stop z = zip-stop (of-zip z) refl

-- ---- a cut

cut-yes : (y : HostAddr) (r : Region) → splits y r ≡ true → (t : List Region) → cut y (r ∷ t) ≡ region r.start y r.values ∷ region y r.end r.values ∷ t
unfolding cut
cut-yes y r d t = rw d

pub cut-no : (y : HostAddr) (r : Region) → splits y r ≡ false → (t : List Region) → cut y (r ∷ t) ≡ r ∷ cut y t
unfolding cut
cut-no y r d t = rw d

cut-nil : (y : HostAddr) → cut y [] ≡ []
unfolding cut
cut-nil y = refl

module _ (y : HostAddr) {nx0 ws0 nx ws : List ℕ} {fl0 fl : Heap} {q : ℕ} {rs : List Region} (z : Zip nx0 ws0 fl0 nx ws fl q (cut y) rs) where
  pub cut-end : 1024 ≤ get_or nx q 0 → Pass nx0 ws0 fl0 nx ws fl rs
  cut-end l = zip_end z l (cut-nil y)

  module _ (x : ℕ) (r : Region) (f : Bool) (ex : x ≡ get_or nx q 0) (lx : x < 1024) (er : r ≡ region_at ws x) (ef : f ≡ splits y r) where
    at_x : ZipAt nx0 ws0 fl0 nx ws fl q x (cut y) rs
    at_x = rw ex (zip-open z (rw (← ex) lx))

    is : (b : Bool) → f ≡ b → splits y (region_at ws x) ≡ b
    is b h = rw (ef, er) at h

    pub cut_on : f ≡ false → Zip nx0 ws0 fl0 nx ws fl x (cut y) rs × (ahead nx x < ahead nx q)
    cut_on h = zat-skip x (cut y) at_x (cut-no y (region_at ws x) (is false h))

    pub cut-asks : f ≡ true → Room nx0 fl0 rs → CanInsert nx fl x
    cut-asks h m =
        let room : 1 ≤ length (free_of fl) =
        zip-room (zat-zip x at_x) m (rw (cut-yes y (region_at ws x) (is true h) (records ws at_x.post)) (omega (arith, length-map at_x.post (region_at ws)))) in
        record { size = z.own.size; at = omega arith; heap = z.pass.ready.heap; some = room }

    pub cut-it : (nx' ws' : List ℕ) (fl' : Heap) (n : ℕ) → f ≡ true
        → InsertsRegion nx (put_region ws x (region (region_at ws x).start y (region_at ws x).values)) fl x n (region y (region_at ws x).end (region_at ws x).values) nx' ws' fl'
        → Pass nx0 ws0 fl0 nx' ws' fl' rs
    cut-it nx' ws' fl' n h i =
        let second : Region = region y (region_at ws x).end (region_at ws x).values in
        let z1 = (zat-put _ x (region (region_at ws x).start y (region_at ws x).values) (λ t. second ∷ t) at_x refl (cut-yes y (region_at ws x) (is true h))).0 in
        of-stop (zip-insert nx' ws' fl' n second (λ t. t) z1 i refl)

pub split-not : (y : HostAddr) (r : Region) → y.0 ≤ r.start.0 → false ≡ splits y r
unfolding splits
split-not y r l = simp (le-ltb r.start.0 y.0 l)

-- ---- joining

pub join-nil : joined [] ≡ []
unfolding joined
join-nil = refl

pub join_one : (r : Region) → joined (r ∷ []) ≡ r ∷ []
unfolding joined join
join_one r = refl

joins-facts : (r q : Region) → joins r q ≡ true → (r.end.0 ≡ q.start.0) × (r.values ≡ q.values)
unfolding joins
joins-facts r q d = go (r.end.0 =? q.start.0) refl (same r.values q.values) refl d
  where
    go : (s : Bool) → (r.end.0 =? q.start.0) ≡ s → (t : Bool) → same r.values q.values ≡ t → (s && t) ≡ true → (r.end.0 ≡ q.start.0) × (r.values ≡ q.values)
    go true a true b h = (eqb-true _ _ a, same-eq _ _ b)
    go true a false b h = absurd (let w : ◌≡◌ {A = ℕ} 0 1 = cc in omega arith)
    go false a t b h = absurd (let w : ◌≡◌ {A = ℕ} 0 1 = cc in omega arith)

-- what an address joins with depends on its end and values alone, and what it is joined to on its start and values
pub joins-front : (r q : Region) (e : HostAddr) (v : Values) → v ≡ q.values → joins r (region q.start e v) ≡ joins r q
unfolding joins region
joins-front r q e v h = rw h

pub joins-back : (a : HostAddr) (q u : Region) → joins (region a q.end q.values) u ≡ joins q u
unfolding joins region
joins-back a q u = refl

cons-yes : (r q : Region) (qs : List Region) → joins r q ≡ true → join r (q ∷ qs) ≡ region r.start q.end q.values ∷ qs
unfolding join
cons-yes r q qs d = rw d

pub cons_no : (r q : Region) (qs : List Region) → joins r q ≡ false → join r (q ∷ qs) ≡ r ∷ q ∷ qs
unfolding join
cons_no r q qs d = rw d

module _ (r q : Region) where
  joins-both : Region
  joins-both = region r.start q.end q.values

  two-yes : joins r q ≡ true → (us : List Region) → join r (join q us) ≡ join joins-both us
  unfolding join joins-both region
  two-yes d [] = rw d
  two-yes d (u ∷ us) = go (joins q u) refl
    where
      go : (c : Bool) → joins q u ≡ c → join r (join q (u ∷ us)) ≡ join joins-both (u ∷ us)
      go true c =
          ap (join r) (cons-yes q u us c)
          ∙ cons-yes r (region q.start u.end u.values) us (joins-front r q u.end u.values (sym (joins-facts q u c).1) ∙ d)
          ∙ sym (cons-yes joins-both u us (joins-back r.start q u ∙ c))
      go false c = ap (join r) (cons_no q u us c) ∙ cons-yes r q (u ∷ us) d ∙ sym (cons_no joins-both u us (joins-back r.start q u ∙ c))

  two-no : joins r q ≡ false → (us : List Region) → join r (join q us) ≡ r ∷ join q us
  unfolding join
  two-no d [] = rw d
  two-no d (u ∷ us) = go (joins q u) refl
    where
      go : (c : Bool) → joins q u ≡ c → join r (join q (u ∷ us)) ≡ r ∷ join q (u ∷ us)
      go true c =
          ap (join r) (cons-yes q u us c)
          ∙ cons_no r (region q.start u.end u.values) us (joins-front r q u.end u.values (sym (joins-facts q u c).1) ∙ d)
          ∙ ap (λ (t : List Region). r ∷ t) (sym (cons-yes q u us c))
      go false c =
          ap (join r) (cons_no q u us c) ∙ cons_no r q (u ∷ us) d ∙ ap (λ (t : List Region). r ∷ t) (sym (cons_no q u us c))

  join-yes : joins r q ≡ true → (t : List Region) → joined (r ∷ q ∷ t) ≡ joined (region r.start q.end q.values ∷ t)
  unfolding joined joins-both
  join-yes d t = two-yes d (joined t)

  pub join-no : joins r q ≡ false → (t : List Region) → joined (r ∷ q ∷ t) ≡ r ∷ joined (q ∷ t)
  unfolding joined
  join-no d t = two-no d (joined t)

  pub joins-not : (r.end.0 ≡ q.start.0 → ⊥) → false ≡ joins r q
  unfolding joins
  joins-not a = simp (ne_eqb _ _ a)

module _ {nx0 ws0 nx ws : List ℕ} {fl0 fl : Heap} {q : ℕ} {rs : List Region} (z : Zip nx0 ws0 fl0 nx ws fl q joined rs) where
  pub join-end : 1024 ≤ get_or nx q 0 → Pass nx0 ws0 fl0 nx ws fl rs
  join-end l = zip_end z l join-nil

  pub join_last : (x : ℕ) → x ≡ get_or nx q 0 → x < 1024 → 1024 ≤ get_or nx x 0 → Pass nx0 ws0 fl0 nx ws fl rs
  join_last x ex lx l =
      let zx : ZipAt nx0 ws0 fl0 nx ws fl q x joined rs = rw ex (zip-open z (rw (← ex) lx)) in
      zat-last x zx l (join_one (region_at ws x))

  module _ (x y : ℕ) (a b : Region) (f : Bool) (ex : x ≡ get_or nx q 0) (lx : x < 1024) (ey : y ≡ get_or nx x 0) (ly : y < 1024)
      (ea : a ≡ region_at ws x) (eb : b ≡ region_at ws y) (ef : f ≡ joins a b) where
    at-xy : ZipAt nx0 ws0 fl0 nx ws fl q x joined rs
    at-xy = rw ex (zip-open z (rw (← ex) lx))

    pub join-on : f ≡ false → Zip nx0 ws0 fl0 nx ws fl x joined rs × (ahead nx x < ahead nx q)
    join-on e = zat-skip-by x y joined at-xy ey ly (join-no (region_at ws x) (region_at ws y) (rw (ef, ea, eb) at e))

    pub join-asks : CanRemove nx fl x
    join-asks = join-removes x y at-xy ey ly

    pub join-two : (nx' ws' : List ℕ) (fl' : Heap) (r : Region) → f ≡ true → r ≡ region a.start b.end a.values → ws' ≡ put_region ws x r → Removes nx fl x nx' fl'
        → Zip nx0 ws0 fl0 nx' ws' fl' q joined rs × (ahead nx' q < ahead nx q)
    join-two nx' ws' fl' r e er ew m =
        zat-join x y at-xy ey ly nx' ws' fl' r joined ew m.link (rw (← ey) at m.pushed)
        (λ t. join-yes (region_at ws x) (region_at ws y) (rw (ef, ea, eb) at e) t ∙ rw (er, (joins-facts a b (sym ef ∙ e)).1, ea, eb))

-- ---- raising

pub one_in : (f : Values → Values) (a e : HostAddr) (r : Region) (b : Bool) → b ≡ within a e r → b ≡ true → (s : Region) → s ≡ region r.start r.end (f r.values) → s ≡ changed_one f a e r
unfolding changed_one
one_in f a e r b eb h s es = rw (← eb, h) es

pub one_out : (f : Values → Values) (a e : HostAddr) (r : Region) (b : Bool) → b ≡ within a e r → b ≡ false → r ≡ changed_one f a e r
unfolding changed_one
one_out f a e r b eb h = rw (← eb, h)

-- so what comes of it is there already
pub one-stays : (f : Values → Values) (a e : HostAddr) (r s q : Region) → r ≡ q → s ≡ changed_one f a e r → within a e r ≡ false → s ≡ q
unfolding changed_one
one-stays f a e r s q er es d = es ∙ rw d er

pub small-in : (f : Values → Values) (a e : HostAddr) (r : Region) (b : Bool) → b ≡ within a e r → b ≡ true → Small (changed_one f a e r).values → Small (f r.values)
unfolding changed_one region
small-in f a e r b eb h s = let d : within a e r ≡ true = sym eb ∙ h in rw d at s

small< : (n : ℕ) → n ≤ 65536 → n < 2 ^ 64
small< n l = omega (arith, l)

roomy : (n : ℕ) → n < 2 ^ 64 → n ≡ capped n
unfolding capped fits
roomy n l = simp (lt-ltb n (2 ^ 64) l)

-- counts that are small enough are not capped
pub small-stays : (a e : HostAddr) (v : Values) → Small v → region a e (capped_counts v) ≡ region a e v
unfolding capped_counts
small-stays a e v s = sym (λ i. region a e (record {
  refcount = roomy v.refcount (small< v.refcount s.refcount) i;
  counters = counters_of (λ t. roomy (count_of t v) (small< (count_of t v) (s.counts t)) i);
}))

pub small-append : (a b : List Region) → AllSmall (a ++ b) → AllSmall b
small-append [] b s = s
small-append (r ∷ a) b s = small-append a b s.1

pub change-cons : (f : Values → Values) (a e : HostAddr) (r : Region) (t : List Region) → change f a e (r ∷ t) ≡ changed_one f a e r ∷ change f a e t
unfolding change changed_one
change-cons f a e r t = refl

pub change-nil : (f : Values → Values) (a e : HostAddr) → change f a e [] ≡ []
unfolding change
change-nil f a e = refl

module _ (f : Values → Values) (a e : HostAddr) {nx0 ws0 nx ws : List ℕ} {fl0 fl : Heap} {q : ℕ} {rs : List Region} (z : Zip nx0 ws0 fl0 nx ws fl q (change f a e) rs) where
  pub change-end : 1024 ≤ get_or nx q 0 → Pass nx0 ws0 fl0 nx ws fl rs
  change-end l = zip_end z l (change-nil f a e)

  module _ (x : ℕ) (r : Region) (ex : x ≡ get_or nx q 0) (lx : x < 1024) (er : r ≡ region_at ws x) where
    at_c : ZipAt nx0 ws0 fl0 nx ws fl q x (change f a e) rs
    at_c = rw ex (zip-open z (rw (← ex) lx))

    pub change-it : (ws' : List ℕ) (r' : Region) → r' ≡ changed_one f a e r → ws' ≡ put_region ws x r' → Zip nx0 ws0 fl0 nx ws' fl x (change f a e) rs × (ahead nx x < ahead nx q)
    change-it ws' r' e' ew = zat-put ws' x r' (change f a e) at_c ew (λ t. change-cons f a e (region_at ws x) t ∙ rw (e', er))

    pub change-small : AllSmall rs → Small (changed_one f a e r).values
    change-small s =
        let t = change f a e (records ws at_c.post) in
        let g : rs ≡ records ws at_c.pre ++ changed_one f a e (region_at ws x) ∷ t = at_c.goal ∙ rw change-cons in
        rw er (small-append (records ws at_c.pre) (changed_one f a e (region_at ws x) ∷ t) (rw g at s)).0

-- ---- lowering

pub lowered-drop : (k : ℕ) (a e : HostAddr) (r : Region) → (changed_one (lower k) a e r).values.refcount ≡ 0 → (t : List Region) → lowered k a e (r ∷ t) ≡ lowered k a e t
unfolding lowered held
lowered-drop k a e r d t = rw (change-cons (lower k) a e r t, le-ltb 0 (changed_one (lower k) a e r).values.refcount (omega arith))

pub lowered-keep : (k : ℕ) (a e : HostAddr) (r : Region) → ((changed_one (lower k) a e r).values.refcount ≡ 0 → ⊥) → (t : List Region) → lowered k a e (r ∷ t) ≡ changed_one (lower k) a e r ∷ lowered k a e t
unfolding lowered held
lowered-keep k a e r d t = rw (change-cons (lower k) a e r t, lt-ltb 0 (changed_one (lower k) a e r).values.refcount (omega arith))

pub lowered-nil : (k : ℕ) (a e : HostAddr) → lowered k a e [] ≡ []
unfolding lowered
lowered-nil k a e = rw change-nil

module _ (k : ℕ) (a e : HostAddr) {nx0 ws0 nx ws : List ℕ} {fl0 fl : Heap} {q : ℕ} {rs : List Region} (z : Zip nx0 ws0 fl0 nx ws fl q (lowered k a e) rs) where
  pub lower-end : 1024 ≤ get_or nx q 0 → Pass nx0 ws0 fl0 nx ws fl rs
  lower-end l = zip_end z l (lowered-nil k a e)

  module _ (x : ℕ) (r l : Region) (ex : x ≡ get_or nx q 0) (lx : x < 1024) (er : r ≡ region_at ws x) (el : l ≡ changed_one (lower k) a e r) where
    at-l : ZipAt nx0 ws0 fl0 nx ws fl q x (lowered k a e) rs
    at-l = rw ex (zip-open z (rw (← ex) lx))

    is-l : l ≡ changed_one (lower k) a e (region_at ws x)
    is-l = el ∙ ap (changed_one (lower k) a e) er

    pub lower-asks : CanRemove nx fl q
    lower-asks = zat-removes x at-l ex

    pub lower-drop : (nx' : List ℕ) (fl' : Heap) → l.values.refcount ≡ 0 → Removes nx fl q nx' fl'
        → Zip nx0 ws0 fl0 nx' ws fl' q (lowered k a e) rs × (ahead nx' q < ahead nx q)
    lower-drop nx' fl' d m =
        zat-remove nx' fl' x (lowered k a e) at-l m.link (rw (← ex) at m.pushed)
        (lowered-drop k a e (region_at ws x) (rw is-l at d))

    pub lower-put : (ws' : List ℕ) → (l.values.refcount ≡ 0 → ⊥) → ws' ≡ put_region ws x l
        → Zip nx0 ws0 fl0 nx ws' fl x (lowered k a e) rs × (ahead nx x < ahead nx q)
    lower-put ws' d ew =
        zat-put ws' x l (lowered k a e) at-l ew (λ t. lowered-keep k a e (region_at ws x) (rw is-l at d) t ∙ rw is-l)

-- ---- filling

gap-some : (a e : HostAddr) (t : List Region) → a.0 < e.0 → gap a e ++ t ≡ region a e nothing ∷ t
unfolding gap
gap-some a e t l = rw (lt-ltb a.0 e.0 l)

gap-none : (a e : HostAddr) (t : List Region) → e.0 ≤ a.0 → gap a e ++ t ≡ t
unfolding gap
gap-none a e t l = rw (le-ltb a.0 e.0 l)

pub fill-nil : (a e : HostAddr) → fill a e [] ≡ gap a e ++ []
unfolding fill
fill-nil a e = sym (mathlib.Core.List.append-nil (gap a e))

pub fill-past : (a e : HostAddr) (r : Region) → r.end.0 ≤ a.0 → (t : List Region) → fill a e (r ∷ t) ≡ r ∷ fill a e t
unfolding fill
fill-past a e r l t = rw (le-leb r.end.0 a.0 l)

pub fill-over : (a e : HostAddr) (r : Region) → a.0 < r.end.0 → e.0 ≤ r.start.0 → (t : List Region) → fill a e (r ∷ t) ≡ gap a e ++ (r ∷ t)
unfolding fill
fill-over a e r l m t = rw (lt-leb r.end.0 a.0 l, le-leb e.0 r.start.0 m)

pub fill-in : (a e : HostAddr) (r : Region) → a.0 < r.end.0 → r.start.0 < e.0 → (t : List Region) → fill a e (r ∷ t) ≡ gap a r.start ++ (r ∷ fill r.end e t)
unfolding fill
fill-in a e r l m t = rw (lt-leb r.end.0 a.0 l, lt-leb e.0 r.start.0 m)

pub fill-longer : (a e : HostAddr) (t : List Region) → length t ≤ length (fill a e t)
fill-longer a e [] = omega arith
fill-longer a e (r ∷ t) =
    let ih = fill-longer a e t in
    let jh = fill-longer r.end e t in
    elim (dec_lt a.0 r.end.0) [
      | no l ↦ rw (fill-past a e r (omega arith) t) (omega arith)
      | yes l ↦
          elim (dec_lt r.start.0 e.0) [
            | no m ↦ rw (fill-over a e r l (omega arith) t, lib.ListN.length-append (gap a e) (r ∷ t)) (omega arith)
            | yes m ↦ rw (fill-in a e r l m t, lib.ListN.length-append (gap a r.start) (r ∷ fill r.end e t)) (omega arith)
          ]
    ]

-- a gap is put in, of a list that wants it there: what is left is what is wanted behind it
module _ {nx0 ws0 nx ws : List ℕ} {fl0 fl : Heap} {q : ℕ} {G : List Region → List Region} {rs : List Region} (z : Zip nx0 ws0 fl0 nx ws fl q G rs)
    (G' : List Region → List Region) (a e : HostAddr) (want : G (records ws z.cur) ≡ gap a e ++ G' (records ws z.cur)) where
  gap-asks : Room nx0 fl0 rs → length z.cur ≤ length (G' (records ws z.cur)) → a.0 < e.0 → CanInsert nx fl q
  gap-asks m s l = zip-puts z (zip-room z m (rw (want, gap-some a e (G' (records ws z.cur)) l) (omega arith)))

  gap-put : (nx' ws' : List ℕ) (fl' : Heap) → PutsGap nx ws fl q a e nx' ws' fl' → (p : ℕ) × ZipOf nx0 ws0 fl0 nx' ws' fl' p G' rs z.cur (records ws z.cur) (ahead nx q)
  gap-put nx' ws' fl' p =
      elim (dec_lt a.0 e.0) [
        | yes l ↦
            (let i = p.some l in
            (i.0, zip-insert nx' ws' fl' i.0 (region a e nothing) G' z i.1 (want ∙ gap-some a e (G' (records ws z.cur)) l)))
        | no l ↦
            (let i = p.none (omega arith) in
            rw (i.0, i.1, i.2)
            (q, record { pre = z.pre; pass = z.pass; own = z.own; here = z.here; kept = refl; before = refl; goal = z.goal ∙ ap (λ (t : List Region). records ws z.pre ++ t) (want ∙ gap-none a e (G' (records ws z.cur)) (omega arith)) }))
      ]

-- what is wanted where the first of the slots ahead is passed
passed : HostAddr → List Region → List Region
passed e [] = []
passed e (r ∷ t) = r ∷ fill r.end e t

module _ (s e : HostAddr) {nx0 ws0 nx ws : List ℕ} {fl0 fl : Heap} {q : ℕ} {rs : List Region} (z : Zip nx0 ws0 fl0 nx ws fl q (fill s e) rs) where
  module _ (k : 1024 ≤ get_or nx q 0) where
    last-want : fill s e (records ws z.cur) ≡ gap s e ++ records ws z.cur
    last-want = rw (zip-none z k) (fill-nil s e)

    pub last-asks : Room nx0 fl0 rs → s.0 < e.0 → CanInsert nx fl q
    last-asks m = gap-asks z (λ t. t) s e last-want m (omega (arith, length-map z.cur (region_at ws)))

    pub last-put : (nx' ws' : List ℕ) (fl' : Heap) → PutsGap nx ws fl q s e nx' ws' fl' → Pass nx0 ws0 fl0 nx' ws' fl' rs
    last-put nx' ws' fl' p = of-stop (gap-put z (λ t. t) s e last-want nx' ws' fl' p).1

  module _ (x : ℕ) (r : Region) (ex : x ≡ get_or nx q 0) (lx : x < 1024) (er : r ≡ region_at ws x) where
    at_f : ZipAt nx0 ws0 fl0 nx ws fl q x (fill s e) rs
    at_f = rw ex (zip-open z (rw (← ex) lx))

    pub fill-skip : r.end.0 ≤ s.0 → Zip nx0 ws0 fl0 nx ws fl x (fill s e) rs × (ahead nx x < ahead nx q)
    fill-skip l = zat-skip x (fill s e) at_f (fill-past s e (region_at ws x) (rw er at l))

    module _ (l : s.0 < r.end.0) where
      l' : s.0 < (region_at ws x).end.0
      l' = rw er at l

      module _ (m : e.0 ≤ r.start.0) where
        over-want : fill s e (region_at ws x ∷ records ws at_f.post) ≡ gap s e ++ (region_at ws x ∷ records ws at_f.post)
        over-want = fill-over s e (region_at ws x) l' (rw er at m) (records ws at_f.post)

        pub over-asks : Room nx0 fl0 rs → s.0 < e.0 → CanInsert nx fl q
        over-asks t = gap-asks (zat-zip x at_f) (λ t. t) s e over-want t (omega (arith, length-map at_f.post (region_at ws)))

        pub over-put : (nx' ws' : List ℕ) (fl' : Heap) → PutsGap nx ws fl q s e nx' ws' fl' → Pass nx0 ws0 fl0 nx' ws' fl' rs
        over-put nx' ws' fl' p = of-stop (gap-put (zat-zip x at_f) (λ t. t) s e over-want nx' ws' fl' p).1

      module _ (m : r.start.0 < e.0) where
        in-want : fill s e (region_at ws x ∷ records ws at_f.post) ≡ gap s r.start ++ passed e (region_at ws x ∷ records ws at_f.post)
        unfolding passed
        in-want =
            fill-in s e (region_at ws x) l' (rw er at m) (records ws at_f.post)
            ∙ ap (λ (v : Region). gap s v.start ++ passed e (region_at ws x ∷ records ws at_f.post)) (sym er)

        pub in-asks : Room nx0 fl0 rs → s.0 < r.start.0 → CanInsert nx fl q
        unfolding passed
        in-asks t =
            gap-asks (zat-zip x at_f) (passed e) s r.start in-want t
            (omega (arith, length-map at_f.post (region_at ws), fill-longer (region_at ws x).end e (records ws at_f.post)))

        pub in-put : (nx' ws' : List ℕ) (fl' : Heap) → PutsGap nx ws fl q s r.start nx' ws' fl'
            → Zip nx0 ws0 fl0 nx' ws' fl' x (fill r.end e) rs × (ahead nx' x < ahead nx q)
        unfolding passed
        in-put nx' ws' fl' p =
            let g = gap-put (zat-zip x at_f) (passed e) s r.start in-want nx' ws' fl' p in
            let same : region_at ws' x ≡ r = (cc g.1.kept) ∙ sym er in
            let w = zat-skip x (fill r.end e) (of_at x at_f.post g.1) (λ t. rw same) in
            (w.0, omega (arith, w.1, g.1.before))

-- ---- what the functions that put a region in show

pub split_done : (nx ws w1 : List ℕ) (fl : Heap) (s x : ℕ) (y : HostAddr) (r : Region) (nx' ws' : List ℕ) (fl' : Heap) → r ≡ region_at ws s
    → w1 ≡ put_region ws s (record { start = r.start; end = y; values = r.values })
    → InsertsRegion nx w1 fl s x (record { start = y; end = r.end; values = r.values }) nx' ws' fl'
    → InsertsRegion nx (put_region ws s (region (region_at ws s).start y (region_at ws s).values)) fl s x (region y (region_at ws s).end (region_at ws s).values) nx' ws' fl'
unfolding region
split_done nx ws w1 fl s x y r nx' ws' fl' er ew i = rw (ew, er) at i

-- values whose numbers are all 0
pub nothing-is : (n a b c d e f : ℕ) → n ≡ 0 → a ≡ 0 → b ≡ 0 → c ≡ 0 → d ≡ 0 → e ≡ 0 → f ≡ 0
    → record { refcount = n; counters = record { read = a; write = b; exec = c; supervisor = d; uncacheable = e; device = f } } ≡ nothing
unfolding nothing
nothing-is n a b c d e f en ea eb ec ed ee ef = rw (en, ea, eb, ec, ed, ee, ef)

pub gap-made : (nx ws : List ℕ) (fl : Heap) (q x : ℕ) (a e : HostAddr) (nx' ws' : List ℕ) (fl' : Heap) → a.0 < e.0 → (v : Values) → v ≡ nothing
    → InsertsRegion nx ws fl q x (record { start = a; end = e; values = v }) nx' ws' fl' → PutsGap nx ws fl q a e nx' ws' fl'
unfolding region
gap-made nx ws fl q x a e nx' ws' fl' l v ev i = record { some = λ _. (x, (rw ev at i)); none = λ m. absurd (omega arith) }

pub gap-not : (nx ws : List ℕ) (fl : Heap) (q : ℕ) (a e : HostAddr) → e.0 ≤ a.0 → PutsGap nx ws fl q a e nx ws fl
gap-not nx ws fl q a e l = record { some = λ m. absurd (omega arith); none = λ _. (refl, refl, refl) }
