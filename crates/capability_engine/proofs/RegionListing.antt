-- Laws of the cursor over the permissions. Assumes nothing.
use Rattle.std.specs.Prelude.{Option, None, Some}
use Prim.Native.Nat.{ℕ, ◌≤◌, ◌<◌}
use mathlib.Core.Path.{◌≡◌, sym, ap, ◌∙◌}
use mathlib.Core.List.{List, [], ◌∷◌, map}
use lib.ListN.{get_or, length, length-map}
use Rattle.definitions.specs.Regions.{permission_of}
use Rattle.definitions.specs.declared.region.MemoryPermission.{MemoryPermission}
use Rattle.capability_engine.specs.PoolWords.{region_at}
use Rattle.capability_engine.specs.PoolChain.{stored_at, Walkable}
use Rattle.capability_engine.specs.RegionListing.{permissions_from, Steps}
use Rattle.capability_engine.specs.declared.region.PermissionIterator.{PermissionIterator}
use Rattle.capability_engine.proofs.PoolLinks.{listed-step, stored-step, stored-none, stored-few}

module _ (nx ws : List ℕ) (c : PermissionIterator) where
  module _ (w : Walkable nx ws c.next) where
    pub step_end : 1024 ≤ c.next → Steps nx ws c None
    step_end l = ap (map permission_of) (stored-none ws w.listed l)

    pub step-on : (p : MemoryPermission) → c.next < 1024 → p ≡ permission_of (region_at ws c.next) → Steps nx ws c (Some (p, record { next = get_or nx c.next 0 }))
    step-on p l e = (
      ap (map permission_of) (stored-step ws w.listed l)
          ∙ ap (λ (q : MemoryPermission). q ∷ map permission_of (stored_at nx ws (get_or nx c.next 0))) (sym e),
      record { listed = listed-step nx c.next w.listed l; words = w.words },
    )

    -- they are no more than the slots of the pool
    pub permissions-few : length (permissions_from nx ws c) ≤ 1024
    permissions-few = rw (length-map (stored_at nx ws c.next) permission_of) (stored-few ws w.listed)

  -- what an answer says, by its case
  module _ (n : Option (MemoryPermission × PermissionIterator)) (h : Steps nx ws c n) where
    pub told-end : n ≡ None → permissions_from nx ws c ≡ []
    told-end e = rw e at h

    pub told_at : (p : MemoryPermission) (d : PermissionIterator) → n ≡ Some (p, d) → Steps nx ws c (Some (p, d))
    told_at p d e = rw e at h
