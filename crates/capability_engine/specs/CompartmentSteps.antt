-- What a call does to one compartment's tracker or remapper, beside the other seven.
use Rattle.std.specs.Prelude.{ℕ, ◌<◌, ◌≡◌, Bool, true, false, List, [], ◌∷◌, ◌++◌, get_or, set}
use Rattle.gen_arena.specs.declared.GenArena.{GenArena}
use Rattle.definitions.specs.Reckoning.{Compartment, compartment_of, reckon}
use Rattle.definitions.specs.Questions.{accepted}
use Rattle.definitions.specs.Calls.{answer_in, answer, after}
use Rattle.definitions.specs.Answers.{Answer}
use Rattle.definitions.specs.declared.call.Call.{Call}
use Rattle.definitions.specs.declared.call.Call.TheVariants.{Add, Remove, Refcount, Overlaps, Map, Unmap, UnmapGpa, Permissions, Remap, Mappings, Allow}
use Rattle.capability_engine.specs.declared.region.RegionTracker.{RegionTracker}
use Rattle.capability_engine.specs.declared.remapper.Remapper.{Remapper}
use Rattle.capability_engine.specs.declared.remapper.Change.{Change}
use Rattle.capability_engine.specs.RemapHeld.{Sound}
use Rattle.capability_engine.specs.RemapAnswers.{Does, Decides}
use Rattle.capability_engine.specs.CompartmentGrown.{Trackers, Pooled}

-- the calls on regions, and those on segments that change them
unfoldable pub on_regions : Call → Bool
on_regions (Add k a e r) = true
on_regions (Remove k a e r) = true
on_regions (Refcount k a e) = true
on_regions (Overlaps k g n) = false
on_regions (Map k h g n t) = false
on_regions (Unmap k h n) = false
on_regions (UnmapGpa k g n) = false
on_regions (Permissions k i n) = false
on_regions (Remap k i n) = false
on_regions (Mappings k) = false
on_regions (Allow k n) = false

unfoldable pub on_segments : Call → Bool
on_segments (Add k a e r) = false
on_segments (Remove k a e r) = false
on_segments (Refcount k a e) = false
on_segments (Overlaps k g n) = false
on_segments (Map k h g n t) = true
on_segments (Unmap k h n) = true
on_segments (UnmapGpa k g n) = true
on_segments (Permissions k i n) = false
on_segments (Remap k i n) = false
on_segments (Mappings k) = false
on_segments (Allow k n) = false

-- the call names compartment k, which there is, and is of the kind that is asked for
pub record OnOne (k : ℕ) (call : Call) (kind : Bool) : Type 0 where
  pub one : k ≡ compartment_of call
  pub below : k < 8
  pub is : kind ≡ true

-- the pool and the trackers are as they were
pub record SamePool (words next links gens : List ℕ) (t : Trackers) (words' next' links' gens' : List ℕ) (t' : Trackers) : Type 0 where
  pub same_words : words' ≡ words
  pub same_next : next' ≡ next
  pub same_links : links' ≡ links
  pub same_gens : gens' ≡ gens
  pub same_trackers : t' ≡ t

-- a call on the pool and the trackers: its answer, what it leaves, and that a refused one leaves everything
pub record PoolAnswers (calls : List Call) (call : Call) (words next links gens : List ℕ) (t : Trackers) (words' next' links' gens' : List ℕ) (t' : Trackers) (r : Answer) : Type 0 where
  pub answered : r ≡ answer (after calls) call
  pub pooled : Pooled words' next' links' gens' t' (calls ++ (call ∷ []))
  pub kept : accepted r ≡ false → SamePool words next links gens t words' next' links' gens' t'

-- past the eight trackers
abbrev pub no_tracker : RegionTracker
no_tracker = record { head = 1024; count = 0; allowance = 128 }

-- the trackers, with compartment k's replaced
abbrev pub with_tracker : Trackers → ℕ → RegionTracker → GenArena → Trackers
with_tracker t k tracker arena = record { arena = arena; list = set t.list k tracker }

-- of all eight, the one that the call names is changed
abbrev pub OnRegions : Call → RegionTracker → GenArena → List ℕ → List ℕ → List ℕ → List ℕ → List ℕ → List ℕ → List ℕ → List ℕ → RegionTracker → GenArena → Answer → Type 0
OnRegions call tracker arena words next links gens words' next' links' gens' tracker' arena' r =
    (t : Trackers) (calls : List Call) → Pooled words next links gens t calls → on_regions call ≡ true → compartment_of call < 8
    → t.arena ≡ arena → get_or t.list (compartment_of call) no_tracker ≡ tracker
    → PoolAnswers calls call words next links gens t words' next' links' gens' (with_tracker t (compartment_of call) tracker' arena') r

-- of all eight, compartment k's gets another allowance
abbrev pub OnAllow : List RegionTracker → ℕ → ℕ → List RegionTracker → Answer → Type 0
OnAllow trackers k n trackers' r =
    (words next links gens : List ℕ) (t : Trackers) (calls : List Call) → Pooled words next links gens t calls → k < 8 → t.list ≡ trackers
    → PoolAnswers calls (Allow k n) words next links gens t words next links gens (record { arena = t.arena; list = trackers' }) r

-- what a call on segments does, and what its first questions come to
abbrev pub OnSegments : Call → Remapper → Remapper → Answer → Type 0
OnSegments call remapper out r =
    (n m : ℕ) (c : Compartment) → Sound remapper c.segments → on_segments call ≡ true
    → Does remapper (answer_in n m c call) (reckon call c).segments out r

abbrev pub AsksSegments : Call → Remapper → Change → Type 0
AsksSegments call remapper r =
    (n m : ℕ) (c : Compartment) → Sound remapper c.segments → on_segments call ≡ true
    → Decides remapper (answer_in n m c call) (reckon call c).segments r
