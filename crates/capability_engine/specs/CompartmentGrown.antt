-- How the pool, the eight trackers and the eight remappers hold what calls made, and what each public call promises.
use Rattle.std.specs.Prelude.{ℕ, ◌+◌, ◌<◌, ◌≡◌, false, List, [], ◌∷◌, ◌++◌, map, length, replicate, if◌then◌else◌, Option, Some, None, IsSome}
use Rattle.gen_arena.specs.Grown.{fresh}
use Rattle.gen_arena.specs.declared.GenArena.{GenArena}
use Rattle.definitions.specs.Regions.{regions}
use Rattle.definitions.specs.Reckoning.{Compartment, compartment_of}
use Rattle.definitions.specs.Tests.{◌<?◌}
use Rattle.definitions.specs.Pages.{page, filled}
use Rattle.definitions.specs.Questions.{ask, accepted, in_use}
use Rattle.definitions.specs.Calls.{start, compartment, answer, after}
use Rattle.definitions.specs.Bundles.{bundle_of, bundle_answer, counted}
use Rattle.definitions.specs.Planner.{plan_answer, plan_left}
use Rattle.definitions.specs.declared.answer.Refusal.TheVariants.{NoCompartment}
use Rattle.definitions.specs.Answers.{Answer}
use Rattle.std.specs.Prelude.{Ok}
use Rattle.definitions.specs.declared.call.Call.{Call}
use Rattle.capability_engine.specs.declared.region.RegionTracker.{RegionTracker}
use Rattle.capability_engine.specs.declared.remapper.Remapper.{Remapper}
use Rattle.capability_engine.specs.declared.compartments.Tables.{Tables}
use Rattle.capability_engine.specs.PoolWords.{pool_len}
use Rattle.capability_engine.specs.PoolChain.{cnt, slots, Listed, stored_at}
use Rattle.capability_engine.specs.PoolOwn.{heap, IsHeap, free_of}
use Rattle.capability_engine.specs.RemapHeld as remap

-- the list from the tracker's head holds the regions of the compartment, and the tracker counts them
pub record Holding (nx ws : List ℕ) (t : RegionTracker) (c : Compartment) : Type 0 where
  pub listed : Listed nx t.head (slots nx t.head)
  pub shown : stored_at nx ws t.head ≡ regions c.values
  pub many : t.count ≡ in_use c

-- each tracker's does
abbrev pub Holds : List ℕ → List ℕ → List RegionTracker → List Compartment → Type 0
Holds nx ws [] [] = Unit {0}
Holds nx ws [] (c ∷ cs) = ⊥
Holds nx ws (t ∷ ts) [] = ⊥
Holds nx ws (t ∷ ts) (c ∷ cs) = Holding nx ws t c × Holds nx ws ts cs

-- in how many of the lists a slot stands, and how long they are together
unfoldable pub in_lists : ℕ → List ℕ → List RegionTracker → ℕ
in_lists x nx [] = 0
in_lists x nx (t ∷ ts) = cnt x (slots nx t.head) + in_lists x nx ts

unfoldable pub all_long : List ℕ → List RegionTracker → ℕ
all_long nx [] = 0
all_long nx (t ∷ ts) = length (slots nx t.head) + all_long nx ts

-- what each tracker is allowed
abbrev pub allowances_of : List RegionTracker → List ℕ
allowances_of ts = map (λ (t : RegionTracker). t.allowance) ts

-- what of the tables is about the pool
pub record Trackers : Type 0 where
  pub arena : GenArena
  pub list : List RegionTracker

abbrev pub trackers_of : Tables → Trackers
trackers_of t = record { arena = t.arena; list = t.trackers }

-- the pool and the trackers hold what these calls left: each compartment's list is that of its regions, and each of the
-- 1,024 slots is in one list or free; and each tracker is allowed what they left it
pub record Pooled (words next links gens : List ℕ) (t : Trackers) (calls : List Call) : Type 0 where
  pub next_size : length next ≡ 1025
  pub words_size : length words ≡ pool_len
  pub arena : IsHeap (heap links gens t.arena)
  pub holds : Holds next words t.list (after calls).compartments
  pub allowed : allowances_of t.list ≡ (after calls).allowances
  pub once : (x : ℕ) → x < 1024 → in_lists x next t.list + cnt x (free_of (heap links gens t.arena)) ≡ 1
  pub total : all_long next t.list + length (free_of (heap links gens t.arena)) ≡ 1024

-- each remapper holds the segments of its compartment
abbrev pub Remapped : List Remapper → List Compartment → Type 0
Remapped [] [] = Unit {0}
Remapped [] (c ∷ cs) = ⊥
Remapped (m ∷ ms) [] = ⊥
Remapped (m ∷ ms) (c ∷ cs) = remap.Holds m c.segments × Remapped ms cs

-- these calls grew the pool and all tables, together
pub record Grown (words next links gens : List ℕ) (t : Tables) (calls : List Call) : Type 0 where
  pub pooled : Pooled words next links gens (trackers_of t) calls
  pub remapped : Remapped t.remappers (after calls).compartments

-- some calls did
pub record IsGrown (words next links gens : List ℕ) (t : Tables) : Type 0 where
  pub calls : List Call
  pub grown : Grown words next links gens t calls

-- nothing has changed
pub record SameTables (words next links gens : List ℕ) (t : Tables) (words' next' links' gens' : List ℕ) (t' : Tables) : Type 0 where
  pub same_words : words' ≡ words
  pub same_next : next' ≡ next
  pub same_links : links' ≡ links
  pub same_gens : gens' ≡ gens
  pub same_tables : t' ≡ t

-- a call that may change the tables: its answer, what it leaves, and that a refused one leaves everything
pub record Answers (calls : List Call) (call : Call) (words next links gens : List ℕ) (t : Tables) (words' next' links' gens' : List ℕ) (t' : Tables) (r : Answer) : Type 0 where
  pub answered : r ≡ answer (after calls) call
  pub grown : Grown words' next' links' gens' t' (calls ++ (call ∷ []))
  pub kept : accepted r ≡ false → SameTables words next links gens t words' next' links' gens' t'

-- a bundle for compartment k (document 02, order 9): its answer; accepted, it leaves what its calls leave one by one; refused, it
-- leaves everything, word for word
pub record AnswersBundle (calls : List Call) (k : ℕ) (ns words next links gens : List ℕ) (t : Tables) (words' next' links' gens' : List ℕ) (t' : Tables) (r : Answer) : Type 0 where
  pub answered : r ≡ bundle_answer (after calls) k (bundle_of k ns)
  pub grown : Grown words' next' links' gens' t' (calls ++ counted (after calls) k (bundle_of k ns))
  pub kept : accepted r ≡ false → SameTables words next links gens t words' next' links' gens' t'

-- a call that only reads
pub record Reads (calls : List Call) (call : Call) (words next links gens : List ℕ) (t : Tables) (r : Answer) : Type 0 where
  pub answered : r ≡ answer (after calls) call
  pub grown : Grown words next links gens t (calls ++ (call ∷ []))

-- the slice after a page from the from-th of a compartment's groups on; refused, it is as it was
unfoldable pub page_left : ℕ → List (List ℕ) → ℕ → ℕ → List ℕ → List ℕ
page_left width groups k from out = if k <? 8 then filled width groups from out else out

-- a call that reads a page: besides, the groups are in the slice, and the rest of it is untouched
pub record ReadsPage (width : ℕ) (groups : Compartment → List (List ℕ)) (from : ℕ) (calls : List Call) (call : Call) (words next links gens : List ℕ) (t : Tables) (out out' : List ℕ) (r : Answer) : Type 0 where
  pub reads : Reads calls call words next links gens t r
  pub slice : out' ≡ page_left width (groups (compartment (after calls) (compartment_of call))) (compartment_of call) from out

-- a page of a stored list, which no call names
pub record ReadsList (width : ℕ) (groups : Compartment → List (List ℕ)) (calls : List Call) (k from : ℕ) (out out' : List ℕ) (r : Answer) : Type 0 where
  pub answered : r ≡ ask ((k <? 8, NoCompartment) ∷ []) (Ok (length (page width (groups (compartment (after calls) k)) from (length out))))
  pub slice : out' ≡ page_left width (groups (compartment (after calls) k)) k from out

-- a page of the script for a wanted layout in compartment k, under the allowance that it has (document 02, order 13); no call
-- names it either
pub record ReadsPlan (calls : List Call) (k : ℕ) (ns : List ℕ) (from : ℕ) (out out' : List ℕ) (r : Answer) : Type 0 where
  pub answered : r ≡ plan_answer (after calls) k ns from (length out)
  pub slice : out' ≡ plan_left (after calls) k ns from out

-- the slices have the lengths of a pool
abbrev pub Sized : List ℕ → List ℕ → List ℕ → List ℕ → Type 0
Sized words next links gens = (length words ≡ pool_len) × (length next ≡ 1025) × (length links ≡ 1024) × (length gens ≡ 1024)

-- eight empty compartments, each allowed 128 records, and all slots free
abbrev pub no_trackers : Trackers
no_trackers = record { arena = fresh; list = replicate 8 (record { head = 1024; count = 0; allowance = 128 }) }

-- what new made
pub record Made (words next links gens : List ℕ) (t : Tables) : Type 0 where
  pub empty : trackers_of t ≡ no_trackers
  pub bare : Remapped t.remappers start.compartments
  pub grown : Grown words next links gens t []

-- what new promises
pub record Creates (words next links gens links' gens' : List ℕ) (r : Option Tables) : Type 0 where
  pub made : (t : Tables) → r ≡ Some t → Made words next links' gens' t
  pub sized : Sized words next links gens → IsSome r
  pub kept : r ≡ None → (links' ≡ links) × (gens' ≡ gens)
