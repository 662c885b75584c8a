-- The list that is worked on, and the free slots, which the arena keeps.
use Rattle.std.specs.Prelude.{ℕ, ◌+◌, ◌≤◌, ◌<◌, ◌≡◌, List, ◌∷◌, ◌++◌, get_or, set, length}
use Rattle.definitions.specs.declared.region.Region.{Region}
use Rattle.definitions.specs.declared.addr.HostAddr.{HostAddr}
use Rattle.definitions.specs.Values.{nothing}
use Rattle.definitions.specs.Regions.{region}
use Rattle.gen_arena.specs.declared.GenArena.{GenArena}
use Rattle.gen_arena.specs.Arena.{ArenaCall}
use Rattle.gen_arena.specs.Grown.{GrownArena}
use Rattle.capability_engine.specs.PoolWords.{region_at, put_region, pool_len}
use Rattle.capability_engine.specs.PoolChain.{Seg, cnt, last, slots, records, All, Listed}
use Rattle.capability_engine.specs.declared.region.Outside.{Outside}

-- what the arena keeps its free slots in
pub record Heap : Type 0 where
  pub links : List ℕ
  pub gens : List ℕ
  pub arena : GenArena

abbrev pub heap : List ℕ → List ℕ → GenArena → Heap
heap links gens arena = record { links = links; gens = gens; arena = arena }

-- some calls of the arena grew it from 1,024 free slots
pub record IsHeap (h : Heap) : Type 0 where
  pub calls : List ArenaCall
  pub grown : GrownArena 1024 h.links h.gens h.arena calls

-- the free slots, last freed first
abbrev pub free_of : Heap → List ℕ
free_of h = slots h.links h.arena.free_list.head

-- what the code does to the links: x goes in after p; what follows p goes
unfoldable pub linked : List ℕ → ℕ → ℕ → List ℕ
linked nx p x = set (set nx x (get_or nx p 0)) p x

unfoldable pub unlinked : List ℕ → ℕ → List ℕ
unlinked nx p = set nx p (get_or nx (get_or nx p 0) 0)

-- only what lies behind p, up to z, stays in the ring
unfoldable pub shortened : List ℕ → ℕ → List ℕ
shortened nx z = set nx z 1024

unfoldable pub narrowed : List ℕ → ℕ → ℕ → List ℕ
narrowed nx p z = set (shortened nx z) 1024 (get_or (shortened nx z) p 0)

-- the list of the ring goes behind p, h being the head again, and what began at r behind its last slot
unfoldable pub lengthened : List ℕ → ℕ → ℕ → List ℕ
lengthened nx p h = set (set nx 1024 h) p (get_or nx 1024 0)

unfoldable pub widened : List ℕ → ℕ → ℕ → ℕ → List ℕ
widened nx p h r = set (lengthened nx p h) (last p (slots (lengthened nx p h) (get_or (lengthened nx p h) p 0))) r

-- the first free slot is taken; a slot is given back
pub record Popped (fl : Heap) (x : ℕ) (fl' : Heap) : Type 0 where
  pub heap : IsHeap fl'
  pub free : free_of fl ≡ x ∷ free_of fl'

pub record Pushed (fl : Heap) (x : ℕ) (fl' : Heap) : Type 0 where
  pub heap : IsHeap fl'
  pub free : free_of fl' ≡ x ∷ free_of fl

-- the list's slots are mine, the free slots are free, and no slot stands twice
pub record Own (nx mine free : List ℕ) : Type 0 where
  pub size : length nx ≡ 1025
  pub ring : Seg nx (get_or nx 1024 0) mine 1024
  pub low : (t : ℕ) → 1024 ≤ t → cnt t free ≡ 0
  pub once : (t : ℕ) → cnt t mine + cnt t free ≤ 1
  pub few : length mine + length free ≤ 1024

-- both, as the links say
abbrev pub mine_of : List ℕ → List ℕ
mine_of nx = slots nx (get_or nx 1024 0)

abbrev pub records_of : List ℕ → List ℕ → List Region
records_of nx ws = records ws (mine_of nx)

abbrev pub Owned : List ℕ → Heap → Type 0
Owned nx fl = Own nx (mine_of nx) (free_of fl)

-- a list is in the ring, and can be worked on
pub record Ready (nx ws : List ℕ) (fl : Heap) : Type 0 where
  pub own : Owned nx fl
  pub heap : IsHeap fl
  pub words : length ws ≡ pool_len

-- so many regions fit: the slots of the list and the free ones
abbrev pub Room : List ℕ → Heap → List Region → Type 0
Room nx fl rs = length rs ≤ length (mine_of nx) + length (free_of fl)

-- a pass over the list: its regions are rs afterwards, the slots of it and the free ones together are the same, and no
-- other slot is touched
pub record Pass (nx ws : List ℕ) (fl : Heap) (nx' ws' : List ℕ) (fl' : Heap) (rs : List Region) : Type 0 where
  pub ready : Ready nx' ws' fl'
  pub now : records_of nx' ws' ≡ rs
  pub same : (t : ℕ) → cnt t (mine_of nx') + cnt t (free_of fl') ≡ cnt t (mine_of nx) + cnt t (free_of fl)
  pub total : length (mine_of nx') + length (free_of fl') ≡ length (mine_of nx) + length (free_of fl)
  pub links : (t : ℕ) → t < 1024 → cnt t (mine_of nx) + cnt t (free_of fl) ≡ 0 → get_or nx' t 0 ≡ get_or nx t 0
  pub kept : (t : ℕ) → t < 1024 → cnt t (mine_of nx) + cnt t (free_of fl) ≡ 0 → region_at ws' t ≡ region_at ws t

-- what putting a slot in after p asks, and what it does
pub record CanInsert (nx : List ℕ) (fl : Heap) (p : ℕ) : Type 0 where
  pub size : length nx ≡ 1025
  pub at : p ≤ 1024
  pub heap : IsHeap fl
  pub some : 1 ≤ length (free_of fl)

pub record Inserts (nx : List ℕ) (fl : Heap) (p x : ℕ) (nx' : List ℕ) (fl' : Heap) : Type 0 where
  pub link : nx' ≡ linked nx p x
  pub popped : Popped fl x fl'

-- what taking out the slot after p asks, and what it does
pub record CanRemove (nx : List ℕ) (fl : Heap) (p : ℕ) : Type 0 where
  pub size : length nx ≡ 1025
  pub at : p ≤ 1024
  pub slot : get_or nx p 0 < 1024
  pub heap : IsHeap fl
  pub used : cnt (get_or nx p 0) (free_of fl) ≡ 0

pub record Removes (nx : List ℕ) (fl : Heap) (p : ℕ) (nx' : List ℕ) (fl' : Heap) : Type 0 where
  pub link : nx' ≡ unlinked nx p
  pub pushed : Pushed fl (get_or nx p 0) fl'

-- the same as Inserts, with the region r in the new slot
pub record InsertsRegion (nx ws : List ℕ) (fl : Heap) (p x : ℕ) (r : Region) (nx' ws' : List ℕ) (fl' : Heap) : Type 0 where
  pub link : nx' ≡ linked nx p x
  pub popped : Popped fl x fl'
  pub words : ws' ≡ put_region ws x r

-- a gap is put in after q, if it is not empty
pub record PutsGap (nx ws : List ℕ) (fl : Heap) (q : ℕ) (a e : HostAddr) (nx' ws' : List ℕ) (fl' : Heap) : Type 0 where
  pub some : a.0 < e.0 → (n : ℕ) × InsertsRegion nx ws fl q n (region a e nothing) nx' ws' fl'
  pub none : e.0 ≤ a.0 → (nx' ≡ nx) × (ws' ≡ ws) × (fl' ≡ fl)

-- p is a place in the list: the slots pre lie before it, p being the last of them (1,024 if there is none), and P holds of
-- each of their regions
pub record Place (P : Region → Type 0) (nx ws : List ℕ) (p : ℕ) : Type 0 where
  pub pre : List ℕ
  pub cur : List ℕ
  pub whole : mine_of nx ≡ pre ++ cur
  pub here : p ≡ last 1024 pre
  pub each : All P (records ws pre)

-- what taking the rest of the list off the ring does, and what putting it back asks
pub record Narrows (nx : List ℕ) (p z : ℕ) (off : Outside) (nx' : List ℕ) : Type 0 where
  pub link : nx' ≡ narrowed nx p z
  pub head : off.head ≡ get_or (shortened nx z) 1024 0
  pub rest : off.rest ≡ get_or nx z 0

pub record CanWiden (nx : List ℕ) (p h : ℕ) : Type 0 where
  pub size : length nx ≡ 1025
  pub at : p ≤ 1024
  pub listed : Listed (lengthened nx p h) (get_or (lengthened nx p h) p 0) (slots (lengthened nx p h) (get_or (lengthened nx p h) p 0))
