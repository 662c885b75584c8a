-- The permissions one by one, by a cursor over the records of a list. Assumes nothing.
use Rattle.std.specs.Prelude.{ℕ, ◌≡◌, List, [], ◌∷◌, map, Option, None, Some}
use Rattle.definitions.specs.Regions.{permission_of}
use Rattle.definitions.specs.declared.region.MemoryPermission.{MemoryPermission}
use Rattle.capability_engine.specs.PoolChain.{Walkable, stored_at}
use Rattle.capability_engine.specs.declared.region.RegionTracker.{RegionTracker}
use Rattle.capability_engine.specs.declared.region.PermissionIterator.{PermissionIterator}

-- the permissions still to come: one for each record from the cursor's slot on
abbrev pub permissions_from : List ℕ → List ℕ → PermissionIterator → List MemoryPermission
permissions_from nx ws c = map permission_of (stored_at nx ws c.next)

-- a cursor before the first permission of a tracker's records, whatever slices they lie in
abbrev pub Starts : RegionTracker → PermissionIterator → Type 0
Starts t c = (nx ws : List ℕ) → Walkable nx ws t.head
    → Walkable nx ws c.next × (permissions_from nx ws c ≡ map permission_of (stored_at nx ws t.head))

-- what a step answers at c
abbrev pub Steps : List ℕ → List ℕ → PermissionIterator → Option (MemoryPermission × PermissionIterator) → Type 0
Steps nx ws c None = permissions_from nx ws c ≡ []
Steps nx ws c (Some s) = (permissions_from nx ws c ≡ s.0 ∷ permissions_from nx ws s.1) × Walkable nx ws s.1.next
