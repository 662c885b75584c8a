-- A call on one tracker or one remapper of the eight, kind by kind.
use Prim.Native.Nat.{ℕ, ◌-◌}
use mathlib.Core.Path.{◌≡◌, refl, sym, ap, ◌∙◌}
use mathlib.Core.Bool.{true, true≢false}
use mathlib.Core.List.{List}
use lib.ListN.{get_or, set}
use Rattle.gen_arena.specs.declared.GenArena.{GenArena}
use Rattle.definitions.specs.Regions.{refcount_of}
use Rattle.definitions.specs.Reckoning.{compartment_of, with_segments, reckon}
use Rattle.definitions.specs.Calls.{together, answer_in}
use Rattle.definitions.specs.declared.addr.HostAddr.{HostAddr}
use Rattle.definitions.specs.declared.addr.GuestAddr.{GuestAddr}
use Rattle.definitions.specs.Answers.{Answer}
use Rattle.std.specs.Prelude.{Ok}
use Rattle.definitions.specs.declared.call.Call.{Call}
use Rattle.definitions.specs.declared.call.Call.TheVariants.{Add, Remove, Refcount, Overlaps, Map, Unmap, UnmapGpa, Permissions, Remap, Mappings, Allow}
use Rattle.capability_engine.specs.declared.region.RegionTracker.{RegionTracker}
use Rattle.capability_engine.specs.declared.remapper.Remapper.{Remapper}
use Rattle.capability_engine.specs.declared.remapper.Change.{Change}
use Rattle.capability_engine.specs.PoolChain.{stored_at}
use Rattle.capability_engine.specs.PoolOwn.{heap}
use Rattle.capability_engine.specs.RegionAsks.{AllowsOne, AddsRegion, RemovesRegion}
use Rattle.capability_engine.specs.CompartmentGrown.{allowances_of}
use Rattle.capability_engine.specs.RemapAnswers.{Maps, Unmaps, UnmapsGpa}
use Rattle.capability_engine.specs.CompartmentSteps.{on_regions, on_segments, no_tracker, OnRegions, OnAllow, AsksSegments}
use Rattle.capability_engine.proofs.CompartmentLaws.{add-answers, remove-answers, count-answers, allow-answers}

-- ---- on regions

module _ (tracker : RegionTracker) (arena : GenArena) (words nx links gens ws' nx' links' gens' : List ℕ) (tracker' : RegionTracker) (arena' : GenArena) (r : Answer)
    (call : Call) (k : ℕ) (a e : HostAddr) (rights : ℕ) where
  pub on-add : call ≡ Add k a e rights → AddsRegion nx words (heap links gens arena) tracker a e rights nx' ws' (heap links' gens' arena') tracker' r
      → OnRegions call tracker arena words nx links gens ws' nx' links' gens' tracker' arena' r
  unfolding compartment_of
  on-add ec ch =
      rw ec (λ t calls g o l ea et.
      (let es : (get_or t.list k no_tracker).head ≡ tracker.head = ap (λ (x : RegionTracker). x.head) et in
      let em : (get_or t.list k no_tracker).allowance ≡ tracker.allowance = ap (λ (x : RegionTracker). x.allowance) et in
      add-answers words nx links gens t calls g k l no_tracker a e rights ch.0.bound nx' ws' links' gens' arena' tracker' r (rw (ea, es, em) ch.0)
      (record { allowance = ch.1.allowance ∙ sym em; many = ch.1.many })))

  pub on-remove : call ≡ Remove k a e rights → RemovesRegion nx words (heap links gens arena) tracker a e rights nx' ws' (heap links' gens' arena') tracker' r
      → OnRegions call tracker arena words nx links gens ws' nx' links' gens' tracker' arena' r
  unfolding compartment_of
  on-remove ec ch =
      rw ec (λ t calls g o l ea et.
      (let es : (get_or t.list k no_tracker).head ≡ tracker.head = ap (λ (x : RegionTracker). x.head) et in
      let em : (get_or t.list k no_tracker).allowance ≡ tracker.allowance = ap (λ (x : RegionTracker). x.allowance) et in
      remove-answers words nx links gens t calls g k l no_tracker a e rights ch.0.bound nx' ws' links' gens' arena' tracker' r (rw (ea, es, em) ch.0)
      (record { allowance = ch.1.allowance ∙ sym em; many = ch.1.many })))

-- the tracker goes back as it was
pub on-refcount : (tracker : RegionTracker) (arena : GenArena) (words nx links gens : List ℕ) (call : Call) (k : ℕ) (a e : HostAddr) (n : ℕ)
    → call ≡ Refcount k a e → n ≡ refcount_of a e (stored_at nx words tracker.head)
    → OnRegions call tracker arena words nx links gens words nx links gens tracker arena (Ok n)
unfolding compartment_of
on-refcount tracker arena words nx links gens call k a e n ec en =
    rw ec (λ t calls g o l ea et.
    (let es : (get_or t.list k no_tracker).head ≡ tracker.head = ap (λ (x : RegionTracker). x.head) et in
    rw (sym ea, sym et) (count-answers words nx links gens t calls g k l no_tracker a e n (rw es en))))

-- another allowance, by those of all eight
pub on-allow : (trackers : List RegionTracker) (k n : ℕ) (d u : RegionTracker) (r : Answer) (all : ℕ) → all ≡ together (allowances_of trackers)
    → AllowsOne (get_or trackers k d) (all - (get_or trackers k d).allowance) n u r → OnAllow trackers k n (set trackers k u) r
on-allow trackers k n d u r all ea al = λ words nx links gens t calls g l et. rw (sym et) (allow-answers words nx links gens t calls g k l d n u r (rw (et, sym ea) al))

-- no other call is on regions
pub not-regions : (call : Call) → ((k : ℕ) (a e : HostAddr) (n : ℕ) → call ≡ Add k a e n → ⊥) → ((k : ℕ) (a e : HostAddr) (n : ℕ) → call ≡ Remove k a e n → ⊥)
    → ((k : ℕ) (a e : HostAddr) → call ≡ Refcount k a e → ⊥) → on_regions call ≡ true → ⊥
unfolding on_regions
not-regions (Add k a e r) h i j o = h k a e r refl
not-regions (Remove k a e r) h i j o = i k a e r refl
not-regions (Refcount k a e) h i j o = j k a e refl
not-regions (Overlaps k g n) h i j o = true≢false (sym o)
not-regions (Map k x g n t) h i j o = true≢false (sym o)
not-regions (Unmap k x n) h i j o = true≢false (sym o)
not-regions (UnmapGpa k g n) h i j o = true≢false (sym o)
not-regions (Permissions k m n) h i j o = true≢false (sym o)
not-regions (Remap k m n) h i j o = true≢false (sym o)
not-regions (Mappings k) h i j o = true≢false (sym o)
not-regions (Allow k n) h i j o = true≢false (sym o)

-- ---- on segments

module _ (remapper : Remapper) (r : Change) (call : Call) (k : ℕ) where
  pub on-map : (h : HostAddr) (g : GuestAddr) (n t : ℕ) → call ≡ Map k h g n t → Maps remapper h g n t r → AsksSegments call remapper r
  unfolding answer_in reckon with_segments
  on-map h g n t ec does = rw ec (λ q m c held o. does c held)

  pub on-unmap : (h : HostAddr) (n : ℕ) → call ≡ Unmap k h n → Unmaps remapper h n r → AsksSegments call remapper r
  unfolding answer_in reckon with_segments
  on-unmap h n ec does = rw ec (λ q m c held o. does c held)

  pub on-unmap-gpa : (g : GuestAddr) (n : ℕ) → call ≡ UnmapGpa k g n → UnmapsGpa remapper g n r → AsksSegments call remapper r
  unfolding answer_in reckon with_segments
  on-unmap-gpa g n ec does = rw ec (λ q m c held o. does c held)

-- no other call changes segments
pub not-segments : (call : Call) → ((k : ℕ) (x : HostAddr) (g : GuestAddr) (n t : ℕ) → call ≡ Map k x g n t → ⊥) → ((k : ℕ) (x : HostAddr) (n : ℕ) → call ≡ Unmap k x n → ⊥)
    → ((k : ℕ) (g : GuestAddr) (n : ℕ) → call ≡ UnmapGpa k g n → ⊥) → on_segments call ≡ true → ⊥
unfolding on_segments
not-segments (Add k a e r) h i j o = true≢false (sym o)
not-segments (Remove k a e r) h i j o = true≢false (sym o)
not-segments (Refcount k a e) h i j o = true≢false (sym o)
not-segments (Overlaps k g n) h i j o = true≢false (sym o)
not-segments (Map k x g n t) h i j o = h k x g n t refl
not-segments (Unmap k x n) h i j o = i k x n refl
not-segments (UnmapGpa k g n) h i j o = j k g n refl
not-segments (Permissions k m n) h i j o = true≢false (sym o)
not-segments (Remap k m n) h i j o = true≢false (sym o)
not-segments (Mappings k) h i j o = true≢false (sym o)
not-segments (Allow k n) h i j o = true≢false (sym o)
