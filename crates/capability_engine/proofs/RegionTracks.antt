-- A compartment's list, taken into the ring and worked on.
use Rattle.std.specs.Prelude.{if◌then◌else◌}
use Prim.Native.Nat.{ℕ, suc, ◌+◌, ◌-◌, ◌^◌, ◌≤◌, ◌<◌}
use mathlib.Core.Path.{◌≡◌, refl, sym, ap, ◌∙◌, subst}
use mathlib.Core.Bool.{Bool, true, false, true≢false, not, ◌&&◌, ◌||◌}
use mathlib.Core.List.{List, [], ◌∷◌, ◌++◌, map, append-nil}
use native.Mathlib.Omega.{arith}
use lib.ListN.{get_or, set, length, length-set, length-map}
use lib.Seq.{get_or-set_same, get_or-set_other}
use borrow.Author.Tests.{leb-true, eqb-true, ne_eqb, le-leb, lt-leb}
use Rattle.free_list.specs.Stack.{used, capacity_of}
use Rattle.free_list.proofs.Laws.{in-use-rest}
use Rattle.gen_arena.specs.Arena.{ArenaCall, list_call, after}
use Rattle.gen_arena.specs.Grown.{GrownArena}
use Rattle.gen_arena.specs.declared.GenArena.{GenArena}
use Rattle.gen_arena.proofs.Laws.{slots-after}
use Rattle.definitions.specs.Tests.{◌<?◌, ◌≤?◌, ◌=?◌, bit, any, count}
use Rattle.definitions.specs.Values.{nothing, held, raise, lower}
use Rattle.definitions.specs.Regions.{region, has, within, splits, cut, freed, regions}
use Rattle.definitions.specs.Questions.{ask, accepted, ranged, cuts_fit, can_lower, begun, last_end}
use Rattle.definitions.specs.declared.addr.HostAddr.{HostAddr}
use Rattle.definitions.specs.declared.region.Values.{Values}
use Rattle.definitions.specs.declared.region.Region.{Region}
use Rattle.definitions.specs.declared.answer.Refusal.{Refusal}
use Rattle.definitions.specs.declared.answer.Refusal.TheVariants.{InvalidMemOps, InvalidRange, CountFull, OutOfMemory, InvalidRegion, EndedBefore, CountEmpty, PoolExceeded, StillInUse}
use Rattle.definitions.specs.Answers.{Answer}
use Rattle.std.specs.Prelude.{Ok, Err}
use Rattle.definitions.proofs.Bools.{both, in-high}
use Rattle.definitions.proofs.Lists.{values_at, gap, fill, change, peak, added, removed, Ordered, Runs, Blank}
use Rattle.definitions.proofs.RunLaws.{regions-runs, regions-values, value-at-start}
use Rattle.definitions.specs.Rights.{named, count_of}
use Rattle.definitions.proofs.RightLaws.{count-made, named-bit}
use Rattle.definitions.proofs.PeakLaws.{length_cut, splits-cut, peak-grows}
use Rattle.definitions.proofs.Passed.{passed}
use Rattle.definitions.proofs.Stored.{Counted}
use Rattle.definitions.proofs.Tables.{can_raise_on, new_records_on, add_on, remove_on}
use Rattle.definitions.proofs.TableLaws.{new-records-is}
use Rattle.capability_engine.specs.PoolWords.{region_at}
use Rattle.capability_engine.specs.PoolChain.{Seg, slots, records, Listed, Walkable, stored_at, All, SkipsBelow}
use Rattle.capability_engine.specs.PoolOwn.{Heap, heap, IsHeap, free_of, Room, mine_of, records_of, Pass, Place}
use Rattle.capability_engine.specs.RegionPasses.{lowered, changed_one, Small, AllSmall, CanAddBetween, CanRemoveBetween}
use Rattle.capability_engine.specs.declared.region.Skipped.{Skipped}
use Rattle.capability_engine.specs.declared.region.RegionTracker.{RegionTracker}
use Rattle.capability_engine.specs.RegionAsks.{Tracked, Allotted, AllowsOne, Counts, Untouched, Changes, Askable, Countable}
use Rattle.capability_engine.proofs.PoolLinks.{slots-are, seg-frame}
use Rattle.capability_engine.proofs.PoolOwns.{seg-low, bit_le}
use Rattle.capability_engine.proofs.PoolHeaps.{free-is}

-- ---- what comes of a call

module _ (a e : HostAddr) (nx ws : List ℕ) (fl : Heap) (head : ℕ) (rs : List Region) {expected : Answer} (r : Answer) (er : r ≡ expected) (le : e.0 ≤ 2 ^ 64) where
  same : Untouched nx ws fl head nx ws fl head
  same = record { next = refl; words = refl; heap = refl; first = refl }

  pub changes-empty : a.0 ≡ e.0 → Changes expected a e nx ws fl head nx ws fl head rs r
  changes-empty q = record { answer = er; bound = le; done = λ h l. absurd (omega arith); empty = λ _. same; kept = λ _. same }

  pub changes-not : (why : Refusal) → r ≡ Err why → Changes expected a e nx ws fl head nx ws fl head rs r
  changes-not why d =
      record { answer = er; bound = le; done = λ h l. absurd (true≢false (sym h ∙ ap accepted d)); empty = λ _. same; kept = λ _. same }

  pub changes-done : (v : ℕ) → r ≡ Ok v → (a.0 ≡ e.0 → ⊥) → (nx' ws' : List ℕ) (fl' : Heap) → Pass (set nx 1024 head) ws fl nx' ws' fl' rs
      → Changes expected a e nx ws fl head nx' ws' fl' (get_or nx' 1024 0) rs r
  changes-done v d n nx' ws' fl' p =
      record {
        answer = er;
        bound = le;
        done = λ h l. record { pass = p; first = refl };
        empty = λ q. absurd (n q);
        kept = λ h. absurd (true≢false (sym (ap accepted d) ∙ h));
      }

-- ---- the free slots are counted

pub capacity-is : (links gens : List ℕ) (arena : GenArena) (h : IsHeap (heap links gens arena)) (n : ℕ)
    → ((m : ℕ) (gs : List ℕ) (calls : List ArenaCall) → GrownArena m links gs arena calls → n ≡ capacity_of m (after m calls).slots) → n ≡ length (free_of (heap links gens arena))
capacity-is links gens arena h n c =
    let s = slots-after 1024 h.calls in
    let u = in-use-rest 1024 (map list_call h.calls) in
    let v : length (after 1024 h.calls).slots + length (used 1024 (after 1024 h.calls).slots) ≡ 1024 = rw s u in
    c 1024 gens h.calls h.grown ∙ (omega (arith, ap length (free-is (heap links gens arena) h.calls h.grown)))

-- ---- counts stay small

abbrev AllLow : List Region → Type 0
AllLow [] = Unit {0}
AllLow (r ∷ rs) = Counted r.values × AllLow rs

nothing-low : Counted nothing
unfolding nothing
nothing-low = record { refcount = omega arith; counts = λ t. rw (count-made 0 (λ t. 0) t) (omega arith) }

skip : (r : Region) (rs : List Region) (x : HostAddr) → r.end.0 ≤ x.0 → values_at (r ∷ rs) x ≡ values_at rs x
unfolding values_at has
skip r rs x l = simp (in-high r.start.0 r.end.0 x.0 l)

low_values : (lo : ℕ) (rs : List Region) → Ordered lo rs → ((x : HostAddr) → lo ≤ x.0 → Counted (values_at rs x)) → AllLow rs
low_values lo [] o h = tt
low_values lo (r ∷ rs) o h = (
  subst Counted (value-at-start lo r rs o) (h r.start o.0),
  low_values r.end.0 rs o.2 (λ x l. subst Counted (later x l) (h x (omega (arith, o.0, o.1)))),
)
  where
    later : (x : HostAddr) → r.end.0 ≤ x.0 → values_at (r ∷ rs) x ≡ values_at rs x
    later x l = skip r rs x l

regions-low : (f : HostAddr → Values) → Blank f → ((x : HostAddr) → Counted (f x)) → AllLow (regions f)
regions-low f b h =
    low_values 0 (regions f) (regions-runs f).ordered
    (λ x l. subst Counted (sym (regions-values f b x)) (go x (x.0 <? 2 ^ 64)))
  where
    go : (x : HostAddr) (t : Bool) → Counted (if t then f x else nothing)
    go x true = h x
    go x false = nothing-low

cut_low : (y : HostAddr) (rs : List Region) → AllLow rs → AllLow (cut y rs)
unfolding cut region
cut_low y [] h = tt
cut_low y (r ∷ rs) h = go (splits y r) (cut_low y rs h.1)
  where
    go : (b : Bool) → AllLow (cut y rs) → AllLow (if b then region r.start y r.values ∷ region y r.end r.values ∷ rs else r ∷ cut y rs)
    go true ih = (h.0, (h.0, h.1))
    go false ih = (h.0, ih)

gap-low : (a e : HostAddr) (t : List Region) → AllLow t → AllLow (gap a e ++ t)
unfolding gap region
gap-low a e t h = go (a.0 <? e.0)
  where
    go : (b : Bool) → AllLow ((if b then region a e nothing ∷ [] else []) ++ t)
    go true = (nothing-low, h)
    go false = h

fill-low : (a e : HostAddr) (rs : List Region) → AllLow rs → AllLow (fill a e rs)
unfolding fill
fill-low a e [] h = subst AllLow (append-nil (gap a e)) (gap-low a e [] tt)
fill-low a e (r ∷ rs) h = go (r.end.0 ≤? a.0) (e.0 ≤? r.start.0) (fill-low a e rs h.1) (fill-low r.end e rs h.1)
  where
    go : (b c : Bool) → AllLow (fill a e rs) → AllLow (fill r.end e rs)
        → AllLow (if b then r ∷ fill a e rs else if c then gap a e ++ (r ∷ rs) else gap a r.start ++ (r ∷ fill r.end e rs))
    go true c i j = (h.0, i)
    go false true i j = gap-low a e (r ∷ rs) h
    go false false i j = gap-low a r.start (r ∷ fill r.end e rs) (h.0, j)

raise-small : (k : ℕ) (v : Values) → Counted v → Small (raise k v)
unfolding raise
raise-small k v c =
    record {
      refcount = omega (arith, c.refcount);
      counts = λ t. rw (count-made (v.refcount + 1) (λ t. count_of t v + named t k) t) (omega (arith, c.counts t, named-bit t k));
    }

low_small : (v : Values) → Counted v → Small v
low_small v c = record { refcount = omega (arith, c.refcount); counts = λ t. omega (arith, c.counts t) }

change-small : (k : ℕ) (a e : HostAddr) (rs : List Region) → AllLow rs → AllSmall (change (raise k) a e rs)
unfolding change region
change-small k a e [] h = tt
change-small k a e (r ∷ rs) h = (go (within a e r), change-small k a e rs h.1)
  where
    go : (b : Bool) → Small (if b then region r.start r.end (raise k r.values) else r).values
    go true = raise-small k r.values h.0
    go false = low_small r.values h.0

-- ---- what a remove makes room for

frees : HostAddr → HostAddr → Region → Bool
frees a e r = within a e r && (r.values.refcount =? 1)

kept-one : (b : Bool) (q : Region) (t : List Region) → length (if b then q ∷ t else t) ≤ suc (length t)
kept-one true q t = omega arith
kept-one false q t = omega arith

lowered-one : (k : ℕ) (a e : HostAddr) (r : Region) → within a e r ≡ true → (r.values.refcount =? 1) ≡ true → held (changed_one (lower k) a e r).values ≡ false
unfolding changed_one region held lower nothing
lowered-one k a e r d f = rw d (simp (le-leb r.values.refcount 1 (omega (arith, eqb-true r.values.refcount 1 f))))

lowered-cons : (k : ℕ) (a e : HostAddr) (r : Region) (t : List Region) → lowered k a e (r ∷ t) ≡ (if held (changed_one (lower k) a e r).values then changed_one (lower k) a e r ∷ lowered k a e t else lowered k a e t)
unfolding lowered change changed_one
lowered-cons k a e r t = refl

lowered-nil-length : (k : ℕ) (a e : HostAddr) → length (lowered k a e []) + 0 ≤ 0
unfolding lowered change
lowered-nil-length k a e = omega arith

lowered-nil-splits : (k : ℕ) (a e y : HostAddr) → bit (any (splits y) (lowered k a e [])) ≤ 0
unfolding lowered change
lowered-nil-splits k a e y = omega arith

lowered-length : (k : ℕ) (a e : HostAddr) (ts : List Region) → length (lowered k a e ts) + count (frees a e) ts ≤ length ts
unfolding frees
lowered-length k a e [] = lowered-nil-length k a e
lowered-length k a e (r ∷ ts) = go (within a e r) refl (r.values.refcount =? 1) refl (lowered-length k a e ts)
  where
    go : (s : Bool) → within a e r ≡ s → (t : Bool) → (r.values.refcount =? 1) ≡ t → length (lowered k a e ts) + count (frees a e) ts ≤ length ts
        → length (lowered k a e (r ∷ ts)) + count (frees a e) (r ∷ ts) ≤ length (r ∷ ts)
    go true d true f ih = rw (lowered-cons k a e r ts, lowered-one k a e r d f) (simp (d, f) (omega arith))
    go true d false f ih = rw lowered-cons (simp (d, f) (omega (arith, kept-one (held (changed_one (lower k) a e r).values) (changed_one (lower k) a e r) (lowered k a e ts))))
    go false d t f ih = rw lowered-cons (simp d (omega (arith, kept-one (held (changed_one (lower k) a e r).values) (changed_one (lower k) a e r) (lowered k a e ts))))

one-splits : (f : Values → Values) (a e y : HostAddr) (r : Region) → splits y (changed_one f a e r) ≡ splits y r
unfolding changed_one region splits
one-splits f a e y r = go (within a e r)
  where
    go : (b : Bool) → splits y (if b then region r.start r.end (f r.values) else r) ≡ splits y r
    go true = refl
    go false = refl

lowered-splits : (k : ℕ) (a e y : HostAddr) (ts : List Region) → bit (any (splits y) (lowered k a e ts)) ≤ bit (any (splits y) ts)
lowered-splits k a e y [] = lowered-nil-splits k a e y
lowered-splits k a e y (r ∷ ts) = rw lowered-cons (go (held (changed_one (lower k) a e r).values) (splits y r) (one-splits (lower k) a e y r) (lowered-splits k a e y ts))
  where
    go : (s t : Bool) → splits y (changed_one (lower k) a e r) ≡ t → bit (any (splits y) (lowered k a e ts)) ≤ bit (any (splits y) ts)
        → bit (any (splits y) (if s then changed_one (lower k) a e r ∷ lowered k a e ts else lowered k a e ts)) ≤ bit (t || any (splits y) ts)
    go true true d ih = omega (arith, bit_le (any (splits y) (changed_one (lower k) a e r ∷ lowered k a e ts)))
    go true false d ih = rw d ih
    go false true d ih = omega (arith, bit_le (any (splits y) (lowered k a e ts)))
    go false false d ih = ih

cuts-room : (n m : ℕ) (a e : HostAddr) (k : ℕ) (rs : List Region) → a.0 < e.0 → cuts_fit n m a e rs ≡ true
    → (n + length (cut a rs) ≤ m + length rs) × (n + length (cut e (lowered k a e (cut a rs))) ≤ m + length rs)
unfolding cuts_fit freed frees
cuts-room n m a e k rs l h =
    let b = both (n + bit (any (splits a) rs) ≤? m) _ h in
    let p = leb-true (n + bit (any (splits a) rs)) m b.0 in
    let c1 = length_cut a rs in
    let c2 = length_cut e (lowered k a e (cut a rs)) in
    let c3 = lowered-length k a e (cut a rs) in
    let c4 = lowered-splits k a e e (cut a rs) in
    let c5 = ap bit (splits-cut a e rs l) in
    (omega arith, go (any (splits e) rs) refl b.1)
  where
    go : (t : Bool) → any (splits e) rs ≡ t → (not (any (splits e) rs) || (n + bit (any (splits a) rs) - freed a e rs + 1 ≤? m)) ≡ true
        → n + length (cut e (lowered k a e (cut a rs))) ≤ m + length rs
    go true d x =
        let b = both (n + bit (any (splits a) rs) ≤? m) _ h in
        omega (arith, leb-true (n + bit (any (splits a) rs)) m b.0, ap bit d, length_cut a rs, length_cut e (lowered k a e (cut a rs)), lowered-length k a e (cut a rs), lowered-splits k a e e (cut a rs), ap bit (splits-cut a e rs l), leb-true (n + bit (any (splits a) rs) - freed a e rs + 1) m (simp d at x))
    go false d x =
        let b = both (n + bit (any (splits a) rs) ≤? m) _ h in
        omega (arith, leb-true (n + bit (any (splits a) rs)) m b.0, ap bit d, length_cut a rs, length_cut e (lowered k a e (cut a rs)), lowered-length k a e (cut a rs), lowered-splits k a e e (cut a rs), ap bit (splits-cut a e rs l))

-- ---- the list in the ring

all-below : (low a : HostAddr) → low.0 ≤ a.0 → (rs : List Region) → All (λ r. r.end.0 < low.0) rs → All (λ r. r.end.0 < a.0) rs
all-below low a l [] h = tt
all-below low a l (r ∷ rs) h = (omega (arith, h.0), all-below low a l rs h.1)

module _ (nx ws : List ℕ) (fl : Heap) (head : ℕ) (t : Tracked nx ws fl head) where
  size : length nx ≡ 1025
  size = sym (length-set nx 1024 head) ∙ t.ready.own.size

  pub tracked-long : length nx ≡ 1025
  tracked-long = size

  pub tracked-size : 1024 < length nx
  tracked-size = omega (arith, size)

  ring : Listed nx head (mine_of (set nx 1024 head))
  ring =
      let o = t.ready.own in
      let h : get_or (set nx 1024 head) 1024 0 ≡ head = get_or-set_same nx 1024 head 0 (omega (arith, size)) in
      let g : Seg (set nx 1024 head) head (mine_of (set nx 1024 head)) 1024 = subst (λ (k : ℕ). Seg (set nx 1024 head) k (mine_of (set nx 1024 head)) 1024) h o.ring in
      record {
        size = size;
        seg = seg-frame (set nx 1024 head) nx head (mine_of (set nx 1024 head)) 1024
            (λ x c. sym (get_or-set_other nx 1024 x head 0 (λ q. omega (arith, seg-low (set nx 1024 head) head (mine_of (set nx 1024 head)) 1024 x g c)))) g;
        few = omega (arith, o.few);
      }

  pub mine-is : mine_of (set nx 1024 head) ≡ slots nx head
  mine-is = sym (slots-are ring)

  pub stored_is : records_of (set nx 1024 head) ws ≡ stored_at nx ws head
  stored_is = ap (records ws) mine-is

  pub tracked-walk : Walkable nx ws head
  tracked-walk = record { listed = subst (λ (ss : List ℕ). Listed nx head ss) mine-is ring; words = t.ready.words }

  few-in : length (stored_at nx ws head) + length (free_of fl) ≤ 1024
  few-in = omega (arith, t.ready.own.few, ap length mine-is, length-map (slots nx head) (region_at ws))

  mine-long : length (mine_of (set nx 1024 head)) ≡ length (stored_at nx ws head)
  mine-long = ap length mine-is ∙ sym (length-map (slots nx head) (region_at ws))

  runs : Runs 0 (stored_at nx ws head)
  runs = rw t.shown (regions-runs t.values)

  -- what was passed lies before its last slot in the ring
  tracked-place : (a low : HostAddr) (q : Skipped) → SkipsBelow nx ws head low q → low.0 ≤ a.0 → Place (λ r. r.end.0 < a.0) (set nx 1024 head) ws q.last
  tracked-place a low q g l =
      record { pre = g.done; cur = slots nx q.next; whole = mine-is ∙ g.whole; here = g.here; each = all-below low a l (records ws g.done) g.each }

  pub tracked-count : Countable nx ws head
  tracked-count = record { listed = tracked-walk; ordered = runs.ordered }

  pub tracked-askable : (room : ℕ) → room ≤ length (free_of fl) → Askable nx ws head room
  tracked-askable room er = record { list = tracked-count; few = omega (arith, few-in) }

  module _ (a e : HostAddr) (k : ℕ) (room : ℕ) (er : room ≤ length (free_of fl)) (le : e.0 ≤ 2 ^ 64) (ne : a.0 ≡ e.0 → ⊥) (r : Answer) (v : ℕ) (ev : r ≡ Ok v) where
    yes_of : (x : Answer) → r ≡ x → accepted x ≡ true
    yes_of x q = ap accepted (sym q ∙ ev)

    module _ (ea : r ≡ add_on (length (stored_at nx ws head) + room) (stored_at nx ws head) a e k) where
      passed-add : (a.0 < e.0) × (length (stored_at nx ws head) + new_records_on a e (stored_at nx ws head) ≤ length (stored_at nx ws head) + room)
      unfolding add_on ranged
      passed-add =
          let p = passed ((k <? 64, InvalidMemOps) ∷ (a.0 ≤? e.0, InvalidRange) ∷ []) _ (yes_of _ ea) in
          let l : a.0 ≤ e.0 = leb-true a.0 e.0 p.0.1.0 in
          let q = passed ((can_raise_on a e k (stored_at nx ws head), CountFull) ∷ (length (stored_at nx ws head) + new_records_on a e (stored_at nx ws head) ≤? length (stored_at nx ws head) + room, OutOfMemory) ∷ []) _ (rw (ne_eqb a.0 e.0 ne) at p.1) in
          (omega arith, leb-true (length (stored_at nx ws head) + new_records_on a e (stored_at nx ws head)) (length (stored_at nx ws head) + room) q.0.1.0)

      add-fits : Room (set nx 1024 head) fl (peak a e (records_of (set nx 1024 head) ws))
      add-fits =
          let n : new_records_on a e (stored_at nx ws head) ≤ room = omega (arith, passed-add.1) in
          let g : length (peak a e (stored_at nx ws head)) ≡ length (stored_at nx ws head) + new_records_on a e (stored_at nx ws head) =
          rw t.shown (peak-grows a e t.values passed-add.0 le t.blank ∙ ap (λ (m : ℕ). length (regions t.values) + m) (new-records-is a e t.values le t.blank)) in
          rw stored_is (omega (arith, mine-long))

      add_low : AllSmall (change (raise k) a e (peak a e (records_of (set nx 1024 head) ws)))
      unfolding peak
      add_low =
          rw (stored_is, t.shown)
          (change-small k a e _ (fill-low a e _ (cut_low e _ (cut_low a _ (regions-low t.values t.blank t.counted)))))

      pub add-applies : (low : HostAddr) (q : Skipped) → SkipsBelow nx ws head low q → low.0 ≤ a.0 → CanAddBetween (set nx 1024 head) ws fl a e k q.last
      add-applies low q g l =
          record { order = passed-add.0; ready = t.ready; runs = rw stored_is runs; place = tracked-place a low q g l; room = add-fits; small = add_low }

      pub add-changes : (m : ℕ) → length (stored_at nx ws head) + room ≡ m → (nx' ws' : List ℕ) (fl' : Heap) → Pass (set nx 1024 head) ws fl nx' ws' fl' (added a e k (records_of (set nx 1024 head) ws))
          → Changes (add_on m (stored_at nx ws head) a e k) a e nx ws fl head nx' ws' fl' (get_or nx' 1024 0) (added a e k (stored_at nx ws head)) r
      add-changes m em nx' ws' fl' p =
          changes-done a e nx ws fl head (added a e k (stored_at nx ws head)) r (ea ∙ ap (λ (n : ℕ). add_on n (stored_at nx ws head) a e k) em) le v ev ne nx' ws' fl' (rw stored_is at p)

    module _ (ea : r ≡ remove_on (length (stored_at nx ws head) + room) (stored_at nx ws head) a e k) where
      passed-remove : (a.0 < e.0) × (cuts_fit (length (stored_at nx ws head)) (length (stored_at nx ws head) + room) a e (stored_at nx ws head) ≡ true)
      unfolding remove_on ranged
      passed-remove =
          let rs : List Region = stored_at nx ws head in
          let p = passed ((k <? 64, InvalidMemOps) ∷ (a.0 ≤? e.0, InvalidRange) ∷ []) _ (yes_of _ ea) in
          let l : a.0 ≤ e.0 = leb-true a.0 e.0 p.0.1.0 in
          let q = passed ((1 ≤? length (begun a rs), InvalidRegion) ∷ (a.0 <? last_end 0 (begun a rs), EndedBefore) ∷ (cuts_fit (length rs) (length rs + room) a e rs, OutOfMemory) ∷ (can_lower a e k rs, CountEmpty) ∷ []) _ (rw (ne_eqb a.0 e.0 ne) at p.1) in
          (omega arith, q.0.1.1.0)

      pub remove-applies : (low : HostAddr) (q : Skipped) → SkipsBelow nx ws head low q → low.0 ≤ a.0 → CanRemoveBetween (set nx 1024 head) ws fl a e k q.last
      remove-applies low q g l =
          let rs : List Region = stored_at nx ws head in
          let f = cuts-room (length rs) (length rs + room) a e k rs passed-remove.0 passed-remove.1 in
          record {
            ready = t.ready;
            runs = rw stored_is runs;
            place = tracked-place a low q g l;
            applies = record {
              order = passed-remove.0;
              ordered = rw stored_is runs.ordered;
              full = rw stored_is runs.full;
              first = rw stored_is (omega (arith, f.0, mine-long));
              second = rw stored_is (omega (arith, f.1, mine-long));
            };
          }

      pub remove-changes : (m : ℕ) → length (stored_at nx ws head) + room ≡ m → (nx' ws' : List ℕ) (fl' : Heap) → Pass (set nx 1024 head) ws fl nx' ws' fl' (removed a e k (records_of (set nx 1024 head) ws))
          → Changes (remove_on m (stored_at nx ws head) a e k) a e nx ws fl head nx' ws' fl' (get_or nx' 1024 0) (removed a e k (stored_at nx ws head)) r
      remove-changes m em nx' ws' fl' p =
          changes-done a e nx ws fl head (removed a e k (stored_at nx ws head)) r (ea ∙ ap (λ (n : ℕ). remove_on n (stored_at nx ws head) a e k) em) le v ev ne nx' ws' fl' (rw stored_is at p)

-- ---- a tracker's count and its allowance

module _ (nx ws : List ℕ) (fl : Heap) (t : RegionTracker) (al : Allotted nx ws fl t) where
  -- what it may still take
  module _ (room : ℕ) (er : room ≡ t.allowance - t.count) where
    pub allotted-room : room ≤ length (free_of fl)
    allotted-room = omega (arith, al.within, al.free)

    pub allotted-is : length (stored_at nx ws t.head) + room ≡ t.allowance
    allotted-is = omega (arith, al.within, al.many)

    pub add-expected : (a e : HostAddr) (k : ℕ) (r : Answer) → r ≡ add_on (length (stored_at nx ws t.head) + room) (stored_at nx ws t.head) a e k
        → r ≡ add_on t.allowance (stored_at nx ws t.head) a e k
    add-expected a e k r q = q ∙ ap (λ (n : ℕ). add_on n (stored_at nx ws t.head) a e k) allotted-is

    pub remove-expected : (a e : HostAddr) (k : ℕ) (r : Answer) → r ≡ remove_on (length (stored_at nx ws t.head) + room) (stored_at nx ws t.head) a e k
        → r ≡ remove_on t.allowance (stored_at nx ws t.head) a e k
    remove-expected a e k r q = q ∙ ap (λ (n : ℕ). remove_on n (stored_at nx ws t.head) a e k) allotted-is

  pub counts_same : Counts t nx ws t
  counts_same = record { allowance = refl; many = al.many }

  pub counts-few : (before : ℕ) → before ≡ length (free_of fl) → t.count + before < 2 ^ 32
  counts-few before eb = omega (arith, al.many, few-in nx ws fl t.head al.tracked)

  -- as many records more as slots are no longer free
  module _ (nx' ws' : List ℕ) (fl' : Heap) (rs : List Region) (p : Pass (set nx 1024 t.head) ws fl nx' ws' fl' rs)
      (before after : ℕ) (eb : before ≡ length (free_of fl)) (ea : after ≡ length (free_of fl')) where
    pub counts-total : length (mine_of nx') + after ≡ t.count + before
    counts-total = omega (arith, p.total, mine-long nx ws fl t.head al.tracked, al.many)

    pub counts-done : Counts t nx' ws' (record { head = get_or nx' 1024 0; count = t.count + before - after; allowance = t.allowance })
    counts-done = record { allowance = refl; many = omega (arith, counts-total, length-map (mine_of nx') (region_at ws')) }

-- ---- another allowance

module _ (t : RegionTracker) (others n : ℕ) (few : others ≤ 1024) where
  pub allow-over : 1024 - others < n → AllowsOne t others n t (Err PoolExceeded)
  unfolding ask
  allow-over h = record { answer = sym (rw (lt-leb (others + n) 1024 (omega arith))); done = λ y. absurd (true≢false (sym y)); kept = λ _. refl }

  module _ (fit : n ≤ 1024 - others) where
    pub allow-less : n < t.count → AllowsOne t others n t (Err StillInUse)
    unfolding ask
    allow-less h = record {
      answer = sym (rw (le-leb (others + n) 1024 (omega arith), lt-leb t.count n h));
      done = λ y. absurd (true≢false (sym y));
      kept = λ _. refl;
    }

    pub allow-done : t.count ≤ n → AllowsOne t others n (record { head = t.head; count = t.count; allowance = n }) (Ok 0)
    unfolding ask
    allow-done h = record {
      answer = sym (rw (le-leb (others + n) 1024 (omega arith), le-leb t.count n h));
      done = λ _. refl;
      kept = λ y. absurd (true≢false y);
    }
