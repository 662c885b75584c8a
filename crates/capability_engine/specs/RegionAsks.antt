-- What one walk over a list of regions finds out before an add or a remove changes anything: a step for each region.
use Rattle.std.specs.Prelude.{ℕ, ◌+◌, ◌^◌, ◌-◌, ◌≤◌, ◌<◌, max, ◌≡◌, Bool, true, false, not, ◌&&◌, ◌||◌, List, [], ◌∷◌, get_or, set, length, if◌then◌else◌}
use Rattle.definitions.specs.Tests.{◌<?◌, ◌≤?◌, ◌=?◌, bit, all}
use Rattle.definitions.specs.declared.region.Counters.{Counters}
use Rattle.definitions.specs.Regions.{meets, splits, regions}
use Rattle.definitions.specs.Questions.{every_named, ask, accepted}
use Rattle.definitions.specs.declared.addr.HostAddr.{HostAddr}
use Rattle.definitions.specs.declared.region.Values.{Values}
use Rattle.definitions.specs.declared.region.Region.{Region}
use Rattle.definitions.specs.declared.answer.Refusal.{Refusal}
use Rattle.definitions.specs.declared.answer.Refusal.TheVariants.{CountFull, OutOfMemory, InvalidRegion, EndedBefore, CountEmpty, PoolExceeded, StillInUse}
use Rattle.definitions.specs.Answers.{Answer}
use Rattle.std.specs.Prelude.{Result, Ok, Err}
use Rattle.definitions.proofs.Lists.{Ordered, Blank, added, removed}
use Rattle.definitions.proofs.Stored.{Counted}
use Rattle.definitions.proofs.Tables.{add_on, remove_on}
use Rattle.capability_engine.specs.declared.region.AddAsk.{AddAsk}
use Rattle.capability_engine.specs.declared.region.RemoveAsk.{RemoveAsk}
use Rattle.capability_engine.specs.declared.region.RegionTracker.{RegionTracker}
use Rattle.capability_engine.specs.declared.region.Skipped.{Skipped}
use Rattle.capability_engine.specs.PoolChain.{Walkable, stored_at, SkipsBelow}
use Rattle.capability_engine.specs.PoolOwn.{Heap, free_of, Ready, Pass}

-- a step for each region of a list
module _ {A : Type 0} (step : A → Region → A) where
  abbrev pub fold_from : A → List Region → A
  fold_from a [] = a
  fold_from a (r ∷ rs) = fold_from (step a r) rs

-- do the counts that are named pass this test?
unfoldable pub every_of : (ℕ → Bool) → Counters → Counters → Bool
every_of p names counts =
    all (λ (q : ℕ × ℕ). (q.0 =? 0) || p q.1)
    ((names.read, counts.read) ∷ (names.write, counts.write) ∷ (names.exec, counts.exec) ∷ (names.supervisor, counts.supervisor)
    ∷ (names.uncacheable, counts.uncacheable) ∷ (names.device, counts.device) ∷ [])

-- question 4 of one region, and of the rights' counts
unfoldable pub low_enough : ℕ → Values → Bool
low_enough rights v = (v.refcount <? 65535) && every_named (λ n. n <? 65535) rights v

-- where the search for gaps stands after a region, and whether it found one before it
unfoldable pub gap_from : HostAddr → HostAddr → Region → HostAddr
gap_from e s r = if r.end.0 ≤? s.0 then s else if e.0 ≤? r.start.0 then e else r.end

unfoldable pub gap_here : HostAddr → HostAddr → Region → Bool
gap_here e s r = not (r.end.0 ≤? s.0) && (s.0 <? (if e.0 ≤? r.start.0 then e.0 else r.start.0))

unfoldable pub add_step : HostAddr → HostAddr → ℕ → AddAsk → Region → AddAsk
add_step a e rights ask r = record {
  raisable = ask.raisable && (not (meets a e r) || low_enough rights r.values);
  cuts_start = ask.cuts_start || splits a r;
  cuts_end = ask.cuts_end || splits e r;
  left = ask.left - bit (gap_here e ask.from r);
  from = gap_from e ask.from r;
  gap = ask.gap || gap_here e ask.from r;
  fresh = ask.fresh || (meets a e r && not (every_named (λ n. 0 <? n) rights r.values));
}

-- is a region freed, or its part from a on, by the first pass of a remove?
unfoldable pub frees_one : HostAddr → HostAddr → Region → Bool
frees_one a e r = (a.0 <? r.end.0) && (r.end.0 ≤? e.0) && (r.values.refcount =? 1)

unfoldable pub remove_step : HostAddr → HostAddr → ℕ → RemoveAsk → Region → RemoveAsk
remove_step a e rights ask r = record {
  begun = ask.begun || (r.start.0 ≤? a.0);
  last = if r.start.0 ≤? a.0 then r.end else ask.last;
  cuts_start = ask.cuts_start || splits a r;
  cuts_end = ask.cuts_end || splits e r;
  lack = ask.lack - bit (frees_one a e r);
  lowerable = ask.lowerable && (not (meets a e r) || every_named (λ n. 0 <? n) rights r.values);
  gone = ask.gone || (meets a e r && ((r.values.refcount =? 1) || not (every_named (λ n. not (n =? 1)) rights r.values)));
}

-- what is left to answer by questions 2 and 3 and by an empty range
abbrev pub answer_after : Result Unit Refusal → HostAddr → HostAddr → Answer → Answer
answer_after (Ok u) a e rest = if a.0 =? e.0 then Ok 0 else rest
answer_after (Err why) a e rest = Err why

-- the other questions of an add and of a remove, by what a walk found out
unfoldable pub judged_add : HostAddr → AddAsk → Answer
judged_add e w =
    ask ((w.raisable, CountFull) ∷ (bit (w.from.0 <? e.0) + (bit w.cuts_start + bit w.cuts_end) <? w.left, OutOfMemory) ∷ [])
    (Ok (bit ((w.gap || (w.from.0 <? e.0)) || w.fresh)))

unfoldable pub judged_remove : ℕ → HostAddr → RemoveAsk → Answer
judged_remove room a w =
    ask
    ((w.begun, InvalidRegion) ∷ (a.0 <? w.last.0, EndedBefore)
    ∷ ((not w.cuts_start || (0 <? room)) && (not w.cuts_end || (w.lack ≤? 1024 - bit w.cuts_start)), OutOfMemory) ∷ (w.lowerable, CountEmpty) ∷ [])
    (Ok (bit w.gone))

-- a compartment's list is in the pool, and is that of some values with no count above 65,535
pub record Tracked (nx ws : List ℕ) (fl : Heap) (head : ℕ) : Type 0 where
  pub ready : Ready (set nx 1024 head) ws fl
  pub values : HostAddr → Values
  pub blank : Blank values
  pub counted : (x : HostAddr) → Counted (values x)
  pub shown : stored_at nx ws head ≡ regions values

-- the same of a tracker: its count is that of its records, its allowance covers them, and the pool has what it still allows
pub record Allotted (nx ws : List ℕ) (fl : Heap) (t : RegionTracker) : Type 0 where
  pub tracked : Tracked nx ws fl t.head
  pub many : t.count ≡ length (stored_at nx ws t.head)
  pub within : t.count ≤ t.allowance
  pub free : t.allowance ≤ t.count + length (free_of fl)

-- the tracker t' that an add or a remove makes of t: the same allowance, and the count of the records that it has now
pub record Counts (t : RegionTracker) (nx' ws' : List ℕ) (t' : RegionTracker) : Type 0 where
  pub allowance : t'.allowance ≡ t.allowance
  pub many : t'.count ≡ length (stored_at nx' ws' t'.head)

-- a tracker gets another allowance, where the others' are so many together; refused, it is as it was
pub record AllowsOne (t : RegionTracker) (others n : ℕ) (t' : RegionTracker) (r : Answer) : Type 0 where
  pub answer : r ≡ ask ((others + n ≤? 1024, PoolExceeded) ∷ (t.count ≤? n, StillInUse) ∷ []) (Ok 0)
  pub done : accepted r ≡ true → t' ≡ record { head = t.head; count = t.count; allowance = n }
  pub kept : accepted r ≡ false → t' ≡ t

-- nothing has changed
pub record Untouched (nx ws : List ℕ) (fl : Heap) (head : ℕ) (nx' ws' : List ℕ) (fl' : Heap) (head' : ℕ) : Type 0 where
  pub next : nx' ≡ nx
  pub words : ws' ≡ ws
  pub heap : fl' ≡ fl
  pub first : head' ≡ head

-- the list is rs now, from the head that is answered
pub record Moved (nx ws : List ℕ) (fl : Heap) (head : ℕ) (nx' ws' : List ℕ) (fl' : Heap) (head' : ℕ) (rs : List Region) : Type 0 where
  pub pass : Pass (set nx 1024 head) ws fl nx' ws' fl' rs
  pub first : head' ≡ get_or nx' 1024 0

-- a call that changes a list if it is accepted: the answer, and what comes of it
pub record Changes (expected : Answer) (a e : HostAddr) (nx ws : List ℕ) (fl : Heap) (head : ℕ) (nx' ws' : List ℕ) (fl' : Heap) (head' : ℕ) (rs : List Region) (r : Answer) : Type 0 where
  pub answer : r ≡ expected
  pub bound : e.0 ≤ 2 ^ 64
  pub done : accepted r ≡ true → a.0 < e.0 → Moved nx ws fl head nx' ws' fl' head' rs
  pub empty : a.0 ≡ e.0 → Untouched nx ws fl head nx' ws' fl' head'
  pub kept : accepted r ≡ false → Untouched nx ws fl head nx' ws' fl' head'

abbrev pub AddsRegion : List ℕ → List ℕ → Heap → RegionTracker → HostAddr → HostAddr → ℕ → List ℕ → List ℕ → Heap → RegionTracker → Answer → Type 0
AddsRegion nx ws fl t a e rights nx' ws' fl' t' r =
    Changes (add_on t.allowance (stored_at nx ws t.head) a e rights) a e nx ws fl t.head nx' ws' fl' t'.head
    (added a e rights (stored_at nx ws t.head)) r × Counts t nx' ws' t'

abbrev pub RemovesRegion : List ℕ → List ℕ → Heap → RegionTracker → HostAddr → HostAddr → ℕ → List ℕ → List ℕ → Heap → RegionTracker → Answer → Type 0
RemovesRegion nx ws fl t a e rights nx' ws' fl' t' r =
    Changes (remove_on t.allowance (stored_at nx ws t.head) a e rights) a e nx ws fl t.head nx' ws' fl' t'.head
    (removed a e rights (stored_at nx ws t.head)) r × Counts t nx' ws' t'

-- before the first region
abbrev pub add_begin : ℕ → HostAddr → AddAsk
add_begin room a = record { raisable = true; cuts_start = false; cuts_end = false; left = room + 1; from = a; gap = false; fresh = false }

abbrev pub remove_begin : ℕ → RemoveAsk
remove_begin room = record { begun = false; last = record { 0 = 0 }; cuts_start = false; cuts_end = false; lack = 1025 - room; lowerable = true; gone = false }

-- a list can be counted: its records are in order
pub record Countable (nx ws : List ℕ) (head : ℕ) : Type 0 where
  pub listed : Walkable nx ws head
  pub ordered : Ordered 0 (stored_at nx ws head)

-- what asking for a remove needs to know of the list
pub record Askable (nx ws : List ℕ) (head room : ℕ) : Type 0 where
  pub list : Countable nx ws head
  pub few : length (stored_at nx ws head) + room ≤ 1024

-- the same, with the records passed that end below both
pub record AskableAt (nx ws : List ℕ) (head room : ℕ) (a e : HostAddr) (s : Skipped) : Type 0 where
  pub askable : Askable nx ws head room
  pub low : HostAddr
  pub below : low.0 ≤ a.0
  pub under : low.0 ≤ e.0
  pub skipped : SkipsBelow nx ws head low s

-- the greater of n and the region's holders, if it shares an address with the range
unfoldable pub most_of : HostAddr → HostAddr → ℕ → Region → ℕ
most_of a e n r = if meets a e r then max n r.values.refcount else n
