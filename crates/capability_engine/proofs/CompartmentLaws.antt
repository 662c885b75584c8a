-- One compartment's list is worked on; the others stay.
use Rattle.std.specs.Prelude.{if◌then◌else◌}
use Prim.Native.Nat.{ℕ, zero, suc, ◌+◌, ◌-◌, ◌^◌, ◌≤◌, ◌<◌}
use mathlib.Core.Path.{◌≡◌, refl, sym, ap, ap₂, ◌∙◌, subst}
use mathlib.Core.Bool.{Bool, true, false}
use mathlib.Core.List.{List, [], ◌∷◌, ◌++◌}
use native.Mathlib.Omega.{arith}
use native.Mathlib.Decide.{dec_lt}
use native.Mathlib.Numerals.{add-one}
use lib.ListN.{get_or, set, drop, length, length-set, length-map, drop_of_length-le}
use lib.Seq.{get_or-set_same, get_or-set_other, set-get_or, drop-cons}
use borrow.Author.Tests.{lt-ltb, le-ltb, leb-true}
use Rattle.gen_arena.specs.declared.GenArena.{GenArena}
use Rattle.definitions.specs.Tests.{◌<?◌, ◌≤?◌}
use Rattle.definitions.specs.Values.{changed_in, raise, lower}
use Rattle.definitions.specs.Regions.{regions, refcount_of}
use Rattle.definitions.specs.Reckoning.{Compartment, empty, reckon, compartment_of, with_values}
use Rattle.definitions.specs.Questions.{ask, ranged, accepted, on_refcount, on_allow}
use Rattle.definitions.specs.Calls.{State, compartment, allowance, together, others, answer_in, answer, allowed, after}
use Rattle.definitions.specs.declared.addr.HostAddr.{HostAddr}
use Rattle.definitions.specs.declared.region.Values.{Values}
use Rattle.definitions.specs.declared.region.Region.{Region}
use Rattle.definitions.specs.declared.answer.Refusal.TheVariants.{NoCompartment, InvalidMemOps, InvalidRange, PoolExceeded, StillInUse}
use Rattle.definitions.specs.Answers.{Answer}
use Rattle.std.specs.Prelude.{Ok, Err}
use Rattle.definitions.specs.declared.call.Call.{Call}
use Rattle.definitions.specs.declared.call.Call.TheVariants.{Add, Remove, Refcount, Allow}
use Rattle.definitions.proofs.Bools.{in-empty}
use Rattle.definitions.proofs.Lists.{added, removed}
use Rattle.definitions.proofs.RunLaws.{regions-ext, regions-runs, regions-end}
use Rattle.definitions.proofs.RegionsAre.{added_is, removed-is}
use Rattle.definitions.proofs.Passed.{passed}
use Rattle.definitions.proofs.Stored.{stored}
use Rattle.definitions.proofs.Tables.{Table, add_on, remove_on}
use Rattle.definitions.proofs.TableLaws.{Shown, add_is, remove-is}
use Rattle.definitions.proofs.Pool.{used, together_at, within-allowance, pool-never-short}
use Rattle.definitions.proofs.Independence.{allowances-kept, compartments-kept}
use Rattle.definitions.specs.Independence.{allows}
use Rattle.definitions.proofs.Reckoned.{after-snoc, next-accepted, next-allowed, next-refused, next-read, length-after}
use Rattle.capability_engine.specs.declared.region.RegionTracker.{RegionTracker}
use Rattle.capability_engine.specs.PoolWords.{region_at}
use Rattle.capability_engine.specs.PoolChain.{Seg, cnt, slots, Listed, Walkable, stored_at}
use Rattle.capability_engine.specs.PoolOwn.{Heap, heap, free_of, Own, mine_of}
use Rattle.capability_engine.specs.RegionAsks.{Tracked, Allotted, AllowsOne, Counts, Untouched, Moved, Changes, Countable}
use Rattle.capability_engine.specs.StreamCursor.{Whole}
use Rattle.capability_engine.specs.CompartmentGrown.{Holding, Holds, in_lists, all_long, allowances_of, Trackers, Pooled}
use Rattle.capability_engine.specs.CompartmentSteps.{SamePool, PoolAnswers}
use Rattle.capability_engine.proofs.PoolLinks.{slots-are, seg-frame, seg-set}
use Rattle.capability_engine.proofs.PoolSlots.{records-frame}
use Rattle.capability_engine.proofs.PoolOwns.{seg-low, seg-high, owned, own-listed}
use Rattle.capability_engine.proofs.PoolHeaps.{free-low}
use Rattle.capability_engine.proofs.RegionTracks.{mine-is}
use Rattle.capability_engine.proofs.StreamStarts.{whole_of}

-- ---- lists of trackers

holds_at : (nx ws : List ℕ) (ts : List RegionTracker) (cs : List Compartment) (k : ℕ) → Holds nx ws ts cs → k < length ts → (d : RegionTracker) → Holding nx ws (get_or ts k d) (get_or cs k empty)
holds_at nx ws [] cs k h l d = absurd (omega arith)
holds_at nx ws (t ∷ ts) [] k h l d = absurd h
holds_at nx ws (t ∷ ts) (c ∷ cs) zero h l d = h.0
holds_at nx ws (t ∷ ts) (c ∷ cs) (suc k) h l d = holds_at nx ws ts cs k h.1 (omega arith) d

holds-used : (nx ws : List ℕ) (ts : List RegionTracker) (cs : List Compartment) → Holds nx ws ts cs → used cs ≡ all_long nx ts
unfolding used all_long
holds-used nx ws [] [] h = refl
holds-used nx ws [] (c ∷ cs) h = absurd h
holds-used nx ws (t ∷ ts) [] h = absurd h
holds-used nx ws (t ∷ ts) (c ∷ cs) h =
    ap₂ ◌+◌ (sym (ap length h.0.shown) ∙ length-map (slots nx t.head) (region_at ws)) (holds-used nx ws ts cs h.1)

pub holds-long : (nx ws : List ℕ) (ts : List RegionTracker) (cs : List Compartment) → Holds nx ws ts cs → length ts ≡ length cs
holds-long nx ws [] [] h = refl
holds-long nx ws [] (c ∷ cs) h = absurd h
holds-long nx ws (t ∷ ts) [] h = absurd h
holds-long nx ws (t ∷ ts) (c ∷ cs) h = ap suc (holds-long nx ws ts cs h.1)

in-at : (x : ℕ) (nx : List ℕ) (ts : List RegionTracker) (k : ℕ) (d : RegionTracker) → k < length ts → cnt x (slots nx (get_or ts k d).head) ≤ in_lists x nx ts
unfolding in_lists
in-at x nx [] k d l = absurd (omega arith)
in-at x nx (t ∷ ts) zero d l = omega arith
in-at x nx (t ∷ ts) (suc k) d l = omega (arith, in-at x nx ts k d (omega arith))

long-at : (nx : List ℕ) (ts : List RegionTracker) (k : ℕ) (d : RegionTracker) → k < length ts → length (slots nx (get_or ts k d).head) ≤ all_long nx ts
unfolding all_long
long-at nx [] k d l = absurd (omega arith)
long-at nx (t ∷ ts) zero d l = omega arith
long-at nx (t ∷ ts) (suc k) d l = omega (arith, long-at nx ts k d (omega arith))

allowance-at : (ts : List RegionTracker) (k : ℕ) (d : RegionTracker) → k < length ts → get_or (allowances_of ts) k 0 ≡ (get_or ts k d).allowance
allowance-at [] k d l = absurd (omega arith)
allowance-at (t ∷ ts) zero d l = refl
allowance-at (t ∷ ts) (suc k) d l = allowance-at ts k d (omega arith)

allowances-set : (ts : List RegionTracker) (k : ℕ) (d t' : RegionTracker) → t'.allowance ≡ (get_or ts k d).allowance → allowances_of (set ts k t') ≡ allowances_of ts
allowances-set [] k d t' e = refl
allowances-set (t ∷ ts) zero d t' e = ap (λ (n : ℕ). n ∷ allowances_of ts) e
allowances-set (t ∷ ts) (suc k) d t' e = ap (λ (ns : List ℕ). t.allowance ∷ ns) (allowances-set ts k d t' e)

allowances-other : (ts : List RegionTracker) (k : ℕ) (t' : RegionTracker) → allowances_of (set ts k t') ≡ set (allowances_of ts) k t'.allowance
allowances-other [] k t' = refl
allowances-other (t ∷ ts) zero t' = refl
allowances-other (t ∷ ts) (suc k) t' = ap (λ (ns : List ℕ). t.allowance ∷ ns) (allowances-other ts k t')

-- the allowances together, one after the other
pub allowance-few : (ts : List RegionTracker) (k : ℕ) (d : RegionTracker) (all : ℕ) → k < 8 → length ts ≡ 8 → all ≡ together (allowances_of ts) → (get_or ts k d).allowance ≤ all
allowance-few ts k d all m e ea =
    let l : k < length ts = omega arith in
    omega (arith, allowance-at ts k d l, together_at (allowances_of ts) k (omega (arith, length-map ts (λ (t : RegionTracker). t.allowance))))

module _ (ts : List RegionTracker) where
  abbrev Summed : ℕ → ℕ → Type 0
  Summed n i = n + together (drop i (allowances_of ts)) ≡ together (allowances_of ts)

  module _ (eight : length ts ≡ 8) (n i : ℕ) (s : Summed n i) where
    sum-long : length (allowances_of ts) ≡ 8
    sum-long = length-map ts (λ (t : RegionTracker). t.allowance) ∙ eight

    module _ (l : i < 8) (d : RegionTracker) where
      sum-next : together (drop i (allowances_of ts)) ≡ (get_or ts i d).allowance + together (drop (i + 1) (allowances_of ts))
      unfolding together
      sum-next =
          ap together (drop-cons (allowances_of ts) i 0 (omega (arith, sum-long)))
          ∙ ap₂ (λ (x : ℕ) (j : ℕ). x + together (drop j (allowances_of ts))) (allowance-at ts i d (omega arith)) (sym (add-one i))

      pub sum_more : Summed (n + (get_or ts i d).allowance) (i + 1)
      sum_more = omega (arith, sum-next)

    pub sum-end : 8 ≤ i → n ≡ together (allowances_of ts)
    unfolding together
    sum-end l =
        let q : length (allowances_of ts) ≤ i = omega (arith, sum-long) in
        let e : together (drop i (allowances_of ts)) ≡ 0 = ap together (drop_of_length-le (allowances_of ts) q) in
        omega arith

-- the same tracker with another allowance
abbrev allowed_to : RegionTracker → ℕ → RegionTracker
allowed_to t n = record { head = t.head; count = t.count; allowance = n }

holds-allowed : (nx ws : List ℕ) (ts : List RegionTracker) (cs : List Compartment) (k : ℕ) (d : RegionTracker) (n : ℕ) → Holds nx ws ts cs → k < length ts → Holds nx ws (set ts k (allowed_to (get_or ts k d) n)) cs
holds-allowed nx ws [] cs k d n h l = absurd (omega arith)
holds-allowed nx ws (t ∷ ts) [] k d n h l = absurd h
holds-allowed nx ws (t ∷ ts) (c ∷ cs) zero d n h l = (record { listed = h.0.listed; shown = h.0.shown; many = h.0.many }, h.1)
holds-allowed nx ws (t ∷ ts) (c ∷ cs) (suc k) d n h l = (h.0, holds-allowed nx ws ts cs k d n h.1 (omega arith))

in-allowed : (x : ℕ) (nx : List ℕ) (ts : List RegionTracker) (k : ℕ) (d : RegionTracker) (n : ℕ) → k < length ts → in_lists x nx (set ts k (allowed_to (get_or ts k d) n)) ≡ in_lists x nx ts
unfolding in_lists
in-allowed x nx [] k d n l = absurd (omega arith)
in-allowed x nx (t ∷ ts) zero d n l = refl
in-allowed x nx (t ∷ ts) (suc k) d n l = ap (λ (m : ℕ). cnt x (slots nx t.head) + m) (in-allowed x nx ts k d n (omega arith))

long-allowed : (nx : List ℕ) (ts : List RegionTracker) (k : ℕ) (d : RegionTracker) (n : ℕ) → k < length ts → all_long nx (set ts k (allowed_to (get_or ts k d) n)) ≡ all_long nx ts
unfolding all_long
long-allowed nx [] k d n l = absurd (omega arith)
long-allowed nx (t ∷ ts) zero d n l = refl
long-allowed nx (t ∷ ts) (suc k) d n l = ap (λ (m : ℕ). length (slots nx t.head) + m) (long-allowed nx ts k d n (omega arith))

-- ---- the lists that are not worked on: touched is 0 at their slots

module _ (nx ws nx' ws' : List ℕ) (size : length nx' ≡ 1025) (touched : ℕ → ℕ)
    (links : (x : ℕ) → x < 1024 → touched x ≡ 0 → get_or nx' x 0 ≡ get_or nx x 0)
    (kept : (x : ℕ) → x < 1024 → touched x ≡ 0 → region_at ws' x ≡ region_at ws x) where
  module _ (t : RegionTracker) (c : Compartment) (h : Holding nx ws t c) (free : (x : ℕ) → x < 1024 → 1 ≤ cnt x (slots nx t.head) → touched x ≡ 0) where
    low : (x : ℕ) → 1 ≤ cnt x (slots nx t.head) → x < 1024
    low x n = seg-low nx t.head (slots nx t.head) 1024 x h.listed.seg n

    still : Listed nx' t.head (slots nx t.head)
    still =
        record {
          size = size;
          seg = seg-frame nx nx' t.head (slots nx t.head) 1024 (λ x n. links x (low x n) (free x (low x n) n)) h.listed.seg;
          few = h.listed.few;
        }

    one-slots : slots nx' t.head ≡ slots nx t.head
    one-slots = slots-are still

    one_holds : Holding nx' ws' t c
    one_holds =
        record {
          listed = rw one-slots still;
          shown = rw one-slots (records-frame ws ws' (slots nx t.head) (λ x n. kept x (low x n) (free x (low x n) n)) ∙ h.shown);
          many = h.many;
        }

  others-hold : (ts : List RegionTracker) (cs : List Compartment) → Holds nx ws ts cs → ((x : ℕ) → x < 1024 → 1 ≤ in_lists x nx ts → touched x ≡ 0) → Holds nx' ws' ts cs
  unfolding in_lists
  others-hold [] [] h f = tt
  others-hold [] (c ∷ cs) h f = absurd h
  others-hold (t ∷ ts) [] h f = absurd h
  others-hold (t ∷ ts) (c ∷ cs) h f = (one_holds t c h.0 (λ x l n. f x l (omega arith)), others-hold ts cs h.1 (λ x l n. f x l (omega arith)))

  others-in : (ts : List RegionTracker) (cs : List Compartment) → Holds nx ws ts cs → ((x : ℕ) → x < 1024 → 1 ≤ in_lists x nx ts → touched x ≡ 0) → (x : ℕ) → in_lists x nx' ts ≡ in_lists x nx ts
  unfolding in_lists
  others-in [] [] h f x = refl
  others-in [] (c ∷ cs) h f x = absurd h
  others-in (t ∷ ts) [] h f x = absurd h
  others-in (t ∷ ts) (c ∷ cs) h f x =
      ap₂ ◌+◌ (ap (cnt x) (one-slots t c h.0 (λ y l n. f y l (omega arith)))) (others-in ts cs h.1 (λ y l n. f y l (omega arith)) x)

  others-long : (ts : List RegionTracker) (cs : List Compartment) → Holds nx ws ts cs → ((x : ℕ) → x < 1024 → 1 ≤ in_lists x nx ts → touched x ≡ 0) → all_long nx' ts ≡ all_long nx ts
  unfolding in_lists all_long
  others-long [] [] h f = refl
  others-long [] (c ∷ cs) h f = absurd h
  others-long (t ∷ ts) [] h f = absurd h
  others-long (t ∷ ts) (c ∷ cs) h f =
      ap₂ ◌+◌ (ap length (one-slots t c h.0 (λ y l n. f y l (omega arith)))) (others-long ts cs h.1 (λ y l n. f y l (omega arith)))

  -- tracker k is replaced
  pub record Replaced (ts : List RegionTracker) (cs : List Compartment) (k : ℕ) (d t' : RegionTracker) (c' : Compartment) : Type 0 where
    pub holds : Holds nx' ws' (set ts k t') (set cs k c')
    pub counted : (x : ℕ) → in_lists x nx' (set ts k t') + cnt x (slots nx (get_or ts k d).head) ≡ in_lists x nx ts + cnt x (slots nx' t'.head)
    pub long : all_long nx' (set ts k t') + length (slots nx (get_or ts k d).head) ≡ all_long nx ts + length (slots nx' t'.head)

  replace : (ts : List RegionTracker) (cs : List Compartment) (k : ℕ) (d t' : RegionTracker) (c' : Compartment) → Holds nx ws ts cs → k < length ts → Holding nx' ws' t' c'
      → ((x : ℕ) → x < 1024 → cnt x (slots nx (get_or ts k d).head) < in_lists x nx ts → touched x ≡ 0) → Replaced ts cs k d t' c'
  unfolding in_lists all_long
  replace [] cs k d t' c' h l n f = absurd (omega arith)
  replace (t ∷ ts) [] k d t' c' h l n f = absurd h
  replace (t ∷ ts) (c ∷ cs) zero d t' c' h l n f =
      let g : (x : ℕ) → x < 1024 → 1 ≤ in_lists x nx ts → touched x ≡ 0 = λ x m q. f x m (omega arith) in
      record {
        holds = (n, others-hold ts cs h.1 g);
        counted = λ x. omega (arith, others-in ts cs h.1 g x);
        long = omega (arith, others-long ts cs h.1 g);
      }
  replace (t ∷ ts) (c ∷ cs) (suc k) d t' c' h l n f =
      let r = replace ts cs k d t' c' h.1 (omega arith) n (λ x m q. f x m (omega arith)) in
      let g : (x : ℕ) → x < 1024 → 1 ≤ cnt x (slots nx t.head) → touched x ≡ 0 = λ x m q. f x m (omega (arith, in-at x nx ts k d (omega arith))) in
      record {
        holds = (one_holds t c h.0 g, r.holds);
        counted = λ x. omega (arith, r.counted x, ap (cnt x) (one-slots t c h.0 g));
        long = omega (arith, r.long, ap length (one-slots t c h.0 g));
      }

-- a compartment's values change, and its regions do not
pub holds-set : (nx ws : List ℕ) (ts : List RegionTracker) (cs : List Compartment) (k : ℕ) (c' : Compartment) → Holds nx ws ts cs → k < length ts
    → regions c'.values ≡ regions (get_or cs k empty).values → Holds nx ws ts (set cs k c')
holds-set nx ws [] cs k c' h l e = absurd (omega arith)
holds-set nx ws (t ∷ ts) [] k c' h l e = absurd h
holds-set nx ws (t ∷ ts) (c ∷ cs) zero c' h l e = (record { listed = h.0.listed; shown = h.0.shown ∙ sym e; many = h.0.many ∙ ap length (sym e) }, h.1)
holds-set nx ws (t ∷ ts) (c ∷ cs) (suc k) c' h l e = (h.0, holds-set nx ws ts cs k c' h.1 (omega arith) e)

-- a range that was accepted is one
in_order : (a e : HostAddr) (k : ℕ) (x : Answer) → accepted (ranged a e k x) ≡ true → a.0 ≤ e.0
unfolding ranged
in_order a e k x h = leb-true a.0 e.0 (passed ((k <? 64, InvalidMemOps) ∷ (a.0 ≤? e.0, InvalidRange) ∷ []) _ h).0.1.0

range-of : (a e : HostAddr) (k n : ℕ) (rs : List Region) → accepted (add_on n rs a e k) ≡ true → a.0 ≤ e.0
unfolding add_on
range-of a e k n rs h = in_order a e k _ h

range-of2 : (a e : HostAddr) (k n : ℕ) (rs : List Region) → accepted (remove_on n rs a e k) ≡ true → a.0 ≤ e.0
unfolding remove_on
range-of2 a e k n rs h = in_order a e k _ h

-- question 1, and the answer of a call that passes it
pub passed-one : (k : ℕ) → k < 8 → (x y : Answer) → x ≡ y → x ≡ ask ((k <? 8, NoCompartment) ∷ []) y
unfolding ask
passed-one k l x y e = e ∙ sym (rw (lt-ltb k 8 l))

pub failed-one : (k : ℕ) → 8 ≤ k → (y : Answer) → Err NoCompartment ≡ ask ((k <? 8, NoCompartment) ∷ []) y
unfolding ask
failed-one k l y = rw (le-ltb k 8 l)

pub answer-in : (s : State) (call : Call) → compartment_of call < 8 → (x : Answer) → x ≡ answer_in (others s.allowances (compartment_of call)) (allowance s (compartment_of call)) (compartment s (compartment_of call)) call → x ≡ answer s call
unfolding answer
answer-in s call l x e = passed-one (compartment_of call) l x _ e

module _ (words nx links gens : List ℕ) (t : Trackers) (calls : List Call) (g : Pooled words nx links gens t calls) where
  pub eight : length t.list ≡ 8
  eight = holds-long nx words t.list (after calls).compartments g.holds ∙ length-after calls

  -- other calls may have left the same
  pub repooled : (more : List Call) → Holds nx words t.list (after more).compartments → (after more).allowances ≡ (after calls).allowances
      → Pooled words nx links gens t more
  repooled more h e = record { next_size = g.next_size; words_size = g.words_size; arena = g.arena; holds = h; allowed = g.allowed ∙ sym e; once = g.once; total = g.total }

module _ (words nx links gens : List ℕ) (t : Trackers) (calls : List Call) (g : Pooled words nx links gens t calls) (k : ℕ) (lk : k < 8) (d : RegionTracker) where
  abbrev first : ℕ
  first = (get_or t.list k d).head

  abbrev pool : Heap
  pool = heap links gens t.arena

  long : k < length t.list
  long = omega (arith, eight words nx links gens t calls g)

  pub here : Holding nx words (get_or t.list k d) (compartment (after calls) k)
  unfolding compartment
  here = holds_at nx words t.list (after calls).compartments k g.holds long d

  one_of : (x : ℕ) → cnt x (slots nx first) + cnt x (free_of pool) ≤ 1
  one_of x =
      elim (dec_lt x 1024) [
        | yes l ↦ omega (arith, g.once x l, in-at x nx t.list k d long)
        | no l ↦ omega (arith, seg-high nx first (slots nx first) 1024 x (omega arith) here.listed.seg, free-low pool g.arena.calls g.arena.grown x (omega arith))
      ]

  own : Own (set nx 1024 first) (slots nx first) (free_of pool)
  own =
      let h : get_or (set nx 1024 first) 1024 0 ≡ first = get_or-set_same nx 1024 first 0 (omega (arith, g.next_size)) in
      let s : Seg (set nx 1024 first) first (slots nx first) 1024 =
      seg-set nx 1024 first first (slots nx first) 1024 (seg-high nx first (slots nx first) 1024 1024 (omega arith) here.listed.seg) here.listed.seg in
      record {
        size = length-set nx 1024 first ∙ g.next_size;
        ring = subst (λ (n : ℕ). Seg (set nx 1024 first) n (slots nx first) 1024) (sym h) s;
        low = λ x l. free-low pool g.arena.calls g.arena.grown x l;
        once = one_of;
        few = omega (arith, g.total, long-at nx t.list k d long);
      }

  pub grown-tracked : Tracked nx words pool first
  grown-tracked =
      record {
        ready = record { own = owned own; heap = g.arena; words = g.words_size };
        values = (compartment (after calls) k).values;
        blank = (stored calls k).blank;
        counted = (stored calls k).counted;
        shown = here.shown;
      }

  pub grown-walk : Walkable nx words first
  grown-walk = record { listed = here.listed; words = g.words_size }

  pub grown-whole : Whole nx words first
  grown-whole = (whole_of here.listed here.shown (regions-runs (compartment (after calls) k).values) (regions-end (compartment (after calls) k).values)).0

  pub grown-count : Countable nx words first
  grown-count = record { listed = grown-walk; ordered = grown-whole.sound.ordered }

  -- its allowance, and that the pool has what it still allows
  allowed-is : (get_or t.list k d).allowance ≡ allowance (after calls) k
  unfolding allowance
  allowed-is = sym (ap (λ (ms : List ℕ). get_or ms k 0) (sym g.allowed) ∙ allowance-at t.list k d long)

  pub grown-allotted : Allotted nx words pool (get_or t.list k d)
  grown-allotted =
      let m : (get_or t.list k d).count ≡ length (stored_at nx words first) = here.many ∙ ap length (sym here.shown) in
      record {
        tracked = grown-tracked;
        many = m;
        within = omega (arith, here.many, allowed-is, within-allowance calls k lk);
        free = omega (arith, here.many, allowed-is, pool-never-short calls k lk, holds-used nx words t.list (after calls).compartments g.holds, g.total);
      }

  table : Table
  table = record { records = stored_at nx words first; segments = (compartment (after calls) k).segments }

  shown : Shown (compartment (after calls) k) table
  unfolding table
  shown = record { blank = (stored calls k).blank; records = sym here.shown; segments = refl }

  module _ (nx' ws' links' gens' : List ℕ) (arena' : GenArena) (tr' : RegionTracker) (cn : Counts (get_or t.list k d) nx' ws' tr') where
    abbrev left : Trackers
    left = record { arena = arena'; list = set t.list k tr' }

    untouched : Untouched nx words pool first nx' ws' (heap links' gens' arena') tr'.head → SamePool words nx links gens t ws' nx' links' gens' left
    untouched u =
        let n : length (stored_at nx' ws' tr'.head) ≡ length (stored_at nx words first) = rw (u.next, u.words, u.first) in
        let c : tr'.count ≡ (get_or t.list k d).count = cn.many ∙ n ∙ sym grown-allotted.many in
        let q : tr' ≡ get_or t.list k d = λ i. record { head = u.first i; count = c i; allowance = cn.allowance i } in
        let l : set t.list k tr' ≡ t.list = ap (set t.list k) q ∙ set-get_or t.list k d in
        let a : arena' ≡ t.arena = ap (λ (h : Heap). h.arena) u.heap in
        record {
          same_words = u.words;
          same_next = u.next;
          same_links = ap (λ (h : Heap). h.links) u.heap;
          same_gens = ap (λ (h : Heap). h.gens) u.heap;
          same_trackers = λ i. record { arena = a i; list = l i };
        }

    regrown : (more : List Call) → Holds nx words t.list (after more).compartments → (after more).allowances ≡ (after calls).allowances → SamePool words nx links gens t ws' nx' links' gens' left → Pooled ws' nx' links' gens' left more
    regrown more h ma s =
        rw (s.same_words, s.same_next, s.same_links, s.same_gens, s.same_trackers) (repooled words nx links gens t calls g more h ma)

    moved : (c' : Compartment) (more : List Call) (rs : List Region) → regions c'.values ≡ rs → (after more).compartments ≡ set (after calls).compartments k c' → (after more).allowances ≡ (after calls).allowances
        → Moved nx words pool first nx' ws' (heap links' gens' arena') tr'.head rs → Pooled ws' nx' links' gens' left more
    moved c' more rs er em ma m =
        let p = m.pass in
        let mi : mine_of (set nx 1024 first) ≡ slots nx first = mine-is nx words pool first grown-tracked in
        let h : Holding nx' ws' tr' c' =
        (let sh : stored_at nx' ws' tr'.head ≡ regions c'.values = rw m.first (p.now ∙ sym er) in
        record { listed = rw m.first (own-listed p.ready.own); shown = sh; many = cn.many ∙ ap length sh }) in
        let r =
        replace nx words nx' ws' p.ready.own.size (λ x. cnt x (mine_of (set nx 1024 first)) + cnt x (free_of pool))
        (λ x l z. p.links x l z ∙ get_or-set_other nx 1024 x first 0 (λ q. omega arith)) p.kept t.list (after calls).compartments k d tr' c' g.holds long h
        (λ x l n. rw mi (omega (arith, g.once x l))) in
        let hm : slots nx' tr'.head ≡ mine_of nx' = ap (slots nx') m.first in
        record {
          next_size = p.ready.own.size;
          words_size = p.ready.words;
          arena = p.ready.heap;
          holds = rw em r.holds;
          allowed = allowances-set t.list k d tr' cn.allowance ∙ g.allowed ∙ sym ma;
          once = λ x l. omega (arith, g.once x l, r.counted x, p.same x, ap (cnt x) mi, ap (cnt x) hm);
          total = omega (arith, g.total, r.long, p.total, ap length mi, ap length hm);
        }

    -- a call that may change the list, from what its function promises
    module _ (call : Call) (ek : compartment_of call ≡ k) (na : allows call ≡ false) (a e : HostAddr) (rs : List Region) (expected r : Answer)
        (ha : expected ≡ answer_in (others (after calls).allowances k) (allowance (after calls) k) (compartment (after calls) k) call) (range : accepted expected ≡ true → a.0 ≤ e.0)
        (hr : regions (reckon call (compartment (after calls) k)).values ≡ rs)
        (he : a.0 ≡ e.0 → regions (reckon call (compartment (after calls) k)).values ≡ regions (compartment (after calls) k).values)
        (ch : Changes expected a e nx words pool first nx' ws' (heap links' gens' arena') tr'.head rs r) where
      told : r ≡ answer (after calls) call
      told = answer-in (after calls) call (rw ek lk) r (rw ek (ch.answer ∙ ha))

      same-allowed : (after (calls ++ (call ∷ []))).allowances ≡ (after calls).allowances
      same-allowed = rw (after-snoc calls call) (allowances-kept (after calls) call na)

      goes : (b : Bool) → accepted r ≡ b → Pooled ws' nx' links' gens' left (calls ++ (call ∷ []))
      unfolding compartment
      goes false f =
          let n : after (calls ++ (call ∷ [])) ≡ after calls = after-snoc calls call ∙ next-refused (after calls) call (ap accepted (sym told) ∙ f) in
          regrown (calls ++ (call ∷ [])) (rw n g.holds) same-allowed (untouched (ch.kept f))
      goes true f =
          let n : (after (calls ++ (call ∷ []))).compartments ≡ set (after calls).compartments k (reckon call (compartment (after calls) k)) =
          ap (λ (s : State). s.compartments) (after-snoc calls call) ∙ next-accepted (after calls) call (ap accepted (sym told) ∙ f) ∙ rw ek in
          let l : a.0 ≤ e.0 = range (ap accepted (sym ch.answer) ∙ f) in
          elim (dec_lt a.0 e.0) [
            | yes q ↦ moved (reckon call (compartment (after calls) k)) (calls ++ (call ∷ [])) rs hr n same-allowed (ch.done f q)
            | no q ↦
                (let z : a.0 ≡ e.0 = omega arith in
                regrown (calls ++ (call ∷ [])) (rw n (holds-set nx words t.list (after calls).compartments k _ g.holds long (he z))) same-allowed (untouched (ch.empty z)))
          ]

      pub answers : PoolAnswers calls call words nx links gens t ws' nx' links' gens' left r
      answers = record { answered = told; pooled = goes (accepted r) refl; kept = λ f. untouched (ch.kept f) }

  -- an add, a remove
  module _ (a e : HostAddr) (rights : ℕ) (le : e.0 ≤ 2 ^ 64) where
    empty-change : (f : Values → Values) (v : HostAddr → Values) → a.0 ≡ e.0 → regions (changed_in f a e v) ≡ regions v
    unfolding changed_in
    empty-change f v z = regions-ext (changed_in f a e v) v (λ x l. ap (λ (b : Bool). if b then f (v x) else v x) (in-empty a.0 e.0 x.0 (omega arith)))

    pub add-answers : (nx' ws' links' gens' : List ℕ) (arena' : GenArena) (tr' : RegionTracker) (r : Answer)
        → Changes (add_on (get_or t.list k d).allowance (stored_at nx words first) a e rights) a e nx words pool first nx' ws' (heap links' gens' arena') tr'.head (added a e rights (stored_at nx words first)) r
        → Counts (get_or t.list k d) nx' ws' tr' → PoolAnswers calls (Add k a e rights) words nx links gens t ws' nx' links' gens' (record { arena = arena'; list = set t.list k tr' }) r
    unfolding compartment_of reckon with_values answer_in table allows
    add-answers nx' ws' links' gens' arena' tr' r ch cn =
        answers nx' ws' links' gens' arena' tr' cn (Add k a e rights) refl refl a e _ _ r
        (ap (λ (m : ℕ). add_on m (stored_at nx words first) a e rights) allowed-is ∙ sym (add_is (compartment (after calls) k) table shown (allowance (after calls) k) a e rights le))
        (range-of a e rights (get_or t.list k d).allowance (stored_at nx words first))
        (sym (added_is a e rights (compartment (after calls) k).values (stored calls k).blank le) ∙ ap (added a e rights) (sym here.shown))
        (empty-change (raise rights) (compartment (after calls) k).values) ch

    pub remove-answers : (nx' ws' links' gens' : List ℕ) (arena' : GenArena) (tr' : RegionTracker) (r : Answer)
        → Changes (remove_on (get_or t.list k d).allowance (stored_at nx words first) a e rights) a e nx words pool first nx' ws' (heap links' gens' arena') tr'.head (removed a e rights (stored_at nx words first)) r
        → Counts (get_or t.list k d) nx' ws' tr' → PoolAnswers calls (Remove k a e rights) words nx links gens t ws' nx' links' gens' (record { arena = arena'; list = set t.list k tr' }) r
    unfolding compartment_of reckon with_values answer_in table allows
    remove-answers nx' ws' links' gens' arena' tr' r ch cn =
        answers nx' ws' links' gens' arena' tr' cn (Remove k a e rights) refl refl a e _ _ r
        (ap (λ (m : ℕ). remove_on m (stored_at nx words first) a e rights) allowed-is ∙ sym (remove-is (compartment (after calls) k) table shown (allowance (after calls) k) a e rights le))
        (range-of2 a e rights (get_or t.list k d).allowance (stored_at nx words first))
        (sym (removed-is a e rights (compartment (after calls) k).values (stored calls k).blank le) ∙ ap (removed a e rights) (sym here.shown))
        (empty-change (lower rights) (compartment (after calls) k).values) ch

  -- a reading: the tracker goes back as it was
  module _ (a e : HostAddr) (n : ℕ) (en : n ≡ refcount_of a e (stored_at nx words first)) where
    count-answer : Ok n ≡ answer (after calls) (Refcount k a e)
    unfolding compartment_of answer_in on_refcount
    count-answer = answer-in (after calls) (Refcount k a e) lk (Ok n) (ap Ok (en ∙ ap (refcount_of a e) here.shown))

    pub count-answers : PoolAnswers calls (Refcount k a e) words nx links gens t words nx links gens (record { arena = t.arena; list = set t.list k (get_or t.list k d) }) (Ok n)
    unfolding reckon allowed
    count-answers =
        let same = untouched nx words links gens t.arena (get_or t.list k d) (record { allowance = refl; many = grown-allotted.many }) (record { next = refl; words = refl; heap = refl; first = refl }) in
        let s : after (calls ++ (Refcount k a e ∷ [])) ≡ after calls = after-snoc calls (Refcount k a e) ∙ next-read (after calls) (Refcount k a e) refl refl in
        record {
          answered = count-answer;
          pooled = regrown nx words links gens t.arena (get_or t.list k d) (record { allowance = refl; many = grown-allotted.many }) (calls ++ (Refcount k a e ∷ [])) (rw s g.holds) (rw s) same;
          kept = λ _. same;
        }

  -- another allowance: the lists stay
  module _ (n : ℕ) (u : RegionTracker) (r : Answer) (al : AllowsOne (get_or t.list k d) (together (allowances_of t.list) - (get_or t.list k d).allowance) n u r) where
    others-is : together (allowances_of t.list) - (get_or t.list k d).allowance ≡ others (after calls).allowances k
    others-is =
        let m : k < length (allowances_of t.list) = omega (arith, long, length-map t.list (λ (x : RegionTracker). x.allowance)) in
        let e : together (allowances_of t.list) ≡ others (allowances_of t.list) k + get_or (allowances_of t.list) k 0 = together_at (allowances_of t.list) k m in
        let q : together (allowances_of t.list) - (get_or t.list k d).allowance ≡ others (allowances_of t.list) k = omega (arith, allowance-at t.list k d long) in
        q ∙ ap (λ (ms : List ℕ). others ms k) g.allowed

    allow-told : r ≡ answer (after calls) (Allow k n)
    unfolding compartment_of answer_in on_allow
    allow-told =
        answer-in (after calls) (Allow k n) lk r
        (al.answer ∙ ap₂ (λ (x y : ℕ). ask ((x + n ≤? 1024, PoolExceeded) ∷ (y ≤? n, StillInUse) ∷ []) (Ok 0)) others-is here.many)

    more : List Call
    more = calls ++ (Allow k n ∷ [])

    same_lists : (after more).compartments ≡ (after calls).compartments
    unfolding more allows
    same_lists = rw (after-snoc calls (Allow k n)) (compartments-kept (after calls) (Allow k n) refl)

    allow-kept : accepted r ≡ false → SamePool words nx links gens t words nx links gens (record { arena = t.arena; list = set t.list k u })
    allow-kept f =
        let l : set t.list k u ≡ t.list = ap (set t.list k) (al.kept f) ∙ set-get_or t.list k d in
        record { same_words = refl; same_next = refl; same_links = refl; same_gens = refl; same_trackers = λ i. record { arena = t.arena; list = l i } }

    allow-goes : (b : Bool) → accepted r ≡ b → Pooled words nx links gens (record { arena = t.arena; list = set t.list k u }) more
    unfolding more compartment_of allowed
    allow-goes false f =
        let s : after more ≡ after calls = after-snoc calls (Allow k n) ∙ next-refused (after calls) (Allow k n) (ap accepted (sym allow-told) ∙ f) in
        rw (allow-kept f).same_trackers (repooled words nx links gens t calls g more (rw s g.holds) (rw s))
    allow-goes true f =
        let e : u ≡ record { head = first; count = (get_or t.list k d).count; allowance = n } = al.done f in
        let ma : (after more).allowances ≡ set (after calls).allowances k n =
        ap (λ (s : State). s.allowances) (after-snoc calls (Allow k n)) ∙ next-allowed (after calls) (Allow k n) (ap accepted (sym allow-told) ∙ f) in
        record {
          next_size = g.next_size;
          words_size = g.words_size;
          arena = g.arena;
          holds = rw (e, same_lists) (holds-allowed nx words t.list (after calls).compartments k d n g.holds long);
          allowed = rw e (allowances-other t.list k _) ∙ ap (λ (ms : List ℕ). set ms k n) g.allowed ∙ sym ma;
          once = λ x l. rw e (omega (arith, g.once x l, in-allowed x nx t.list k d n long));
          total = rw e (omega (arith, g.total, long-allowed nx t.list k d n long));
        }

    pub allow-answers : PoolAnswers calls (Allow k n) words nx links gens t words nx links gens (record { arena = t.arena; list = set t.list k u }) r
    unfolding more
    allow-answers = record { answered = allow-told; pooled = allow-goes (accepted r) refl; kept = allow-kept }
