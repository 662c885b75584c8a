-- Links. `nx` is the list of next-slot numbers, of 1,025 words: 1,024 stands for none, and word 1,024 holds the first slot
-- of the list that is worked on, so that list is a ring through 1,024.
use Rattle.std.specs.Prelude.{ℕ, zero, suc, ◌+◌, ◌≤◌, ◌<◌, ◌≡◌, List, [], ◌∷◌, ◌++◌, map, get_or, length, ltb, eqb, if◌then◌else◌}
use Rattle.definitions.specs.Tests.{bit}
use Rattle.definitions.specs.declared.addr.HostAddr.{HostAddr}
use Rattle.definitions.specs.declared.region.Region.{Region}
use Rattle.capability_engine.specs.PoolWords.{region_at, pool_len}
use Rattle.capability_engine.specs.declared.region.Skipped.{Skipped}

-- from h the links go through the slots ss in order, and then to k
abbrev pub Seg : List ℕ → ℕ → List ℕ → ℕ → Type 0
Seg nx h [] k = h ≡ k
Seg nx h (s ∷ ss) k = (h ≡ s) × (s < 1024) × Seg nx (get_or nx s 0) ss k

-- how often t stands in a list
abbrev pub cnt : ℕ → List ℕ → ℕ
cnt t [] = 0
cnt t (s ∷ ss) = bit (eqb t s) + cnt t ss

-- the last of the slots, p if there is none
abbrev pub last : ℕ → List ℕ → ℕ
last p [] = p
last p (s ∷ ss) = last s ss

-- the slots that a walk of at most f steps from h meets
unfoldable pub walk : List ℕ → ℕ → ℕ → List ℕ
walk nx zero h = []
walk nx (suc f) h = if ltb h 1024 then h ∷ walk nx f (get_or nx h 0) else []

-- the slots of the list that begins at h
unfoldable pub slots : List ℕ → ℕ → List ℕ
slots nx h = walk nx 1024 h

-- the regions in those slots
abbrev pub records : List ℕ → List ℕ → List Region
records ws ss = map (region_at ws) ss

-- the list from h ends in none, and its slots are ss
pub record Listed (nx : List ℕ) (h : ℕ) (ss : List ℕ) : Type 0 where
  pub size : length nx ≡ 1025
  pub seg : Seg nx h ss 1024
  pub few : length ss ≤ 1024

-- the list from h is one, and its regions can be read
pub record Walkable (nx ws : List ℕ) (h : ℕ) : Type 0 where
  pub listed : Listed nx h (slots nx h)
  pub words : length ws ≡ pool_len

-- the regions of the list that begins at h
abbrev pub stored_at : List ℕ → List ℕ → ℕ → List Region
stored_at nx ws h = records ws (slots nx h)

-- every region of a list; the first one, if there is one
module _ (P : Region → Type 0) where
  abbrev pub All : List Region → Type 0
  All [] = Unit {0}
  All (r ∷ rs) = P r × All rs

  abbrev pub First : List Region → Type 0
  First [] = Unit {0}
  First (r ∷ rs) = P r

-- a walk from h came to cur: the slots done lie behind, q being the last of them (p if there is none), and P holds of each
-- of their regions
pub record Passing (P : Region → Type 0) (nx ws : List ℕ) (h p cur q : ℕ) : Type 0 where
  pub listed : Listed nx cur (slots nx cur)
  pub done : List ℕ
  pub whole : slots nx h ≡ done ++ slots nx cur
  pub here : q ≡ last p done
  pub each : All P (records ws done)

-- the walk stopped where Q holds
pub record Stopped (P Q : Region → Type 0) (nx ws : List ℕ) (h p q : ℕ) : Type 0 where
  pub cur : ℕ
  pub passing : Passing P nx ws h p cur q
  pub stop : First Q (stored_at nx ws cur)

-- the regions that end below an address were passed; those that begin at or below one were
abbrev pub SkipsBelow : List ℕ → List ℕ → ℕ → HostAddr → Skipped → Type 0
SkipsBelow nx ws h a s = Passing (λ r. r.end.0 < a.0) nx ws h 1024 s.next s.last

abbrev pub SkipsThrough : List ℕ → List ℕ → ℕ → ℕ → HostAddr → ℕ → Type 0
SkipsThrough nx ws h p e q = Stopped (λ r. r.start.0 ≤ e.0) (λ r. e.0 < r.start.0) nx ws h p q
