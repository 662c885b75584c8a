-- A page of records from one of them on. Assumes nothing.
use Prim.Native.Nat.{ℕ, ◌/◌, ◌≤◌, min}
use mathlib.Core.Path.{◌≡◌, ap, subst, ◌∙◌}
use native.Mathlib.Omega.{arith}
use native.Mathlib.Decide.{dec_lt}
use mathlib.Core.List.{List, map, map-map}
use lib.ListN.{drop, length, drop_of_length-le}
use Rattle.definitions.specs.Pages.{permission_group, Filled}
use Rattle.definitions.specs.Regions.{permission_of}
use Rattle.definitions.specs.declared.region.Region.{Region}
use Rattle.capability_engine.specs.PoolWords.{region_at}
use Rattle.capability_engine.specs.PoolChain.{slots, records, stored_at}
use Rattle.capability_engine.specs.RegionListing.{permissions_from}
use Rattle.capability_engine.specs.declared.region.PermissionIterator.{PermissionIterator}
use Rattle.definitions.proofs.Fills.{from_at, map-drop, Walk, walk-short, walk-full}

-- the records from the slot k links on
pub walk_from : (w : ℕ) (f : Region → List ℕ) (nx ws : List ℕ) (head h k : ℕ) (before after : List ℕ) (n : ℕ) → slots nx h ≡ drop k (slots nx head)
    → Filled w (map f (stored_at nx ws h)) 0 before after n → Filled w (map f (stored_at nx ws head)) k before after n
walk_from w f nx ws head h k before after n e g =
    from_at w f (stored_at nx ws head) (stored_at nx ws h) k before after n (ap (map (region_at ws)) e ∙ map-drop (region_at ws) k (slots nx head)) g

-- a page from permission k on: c has the permissions of the records from head on before it, and d is k links on
pub page-from : (nx ws : List ℕ) (c d : PermissionIterator) (head k : ℕ) (before after : List ℕ) (n : ℕ) → permissions_from nx ws c ≡ map permission_of (stored_at nx ws head)
    → slots nx d.next ≡ drop k (slots nx c.next) → Filled 3 (map permission_group (permissions_from nx ws d)) 0 before after n
    → Filled 3 (map (λ q. permission_group (permission_of q)) (stored_at nx ws head)) k before after n
page-from nx ws c d head k before after n s e g =
    subst
    (λ (gs : List (List ℕ)). Filled 3 gs k before after n)
    (ap (map permission_group) s ∙ map-map permission_group permission_of (stored_at nx ws head))
    (from_at 3 permission_group (permissions_from nx ws c) (permissions_from nx ws d) k before after n
    (ap (λ (ss : List ℕ). map permission_of (records ws ss)) e ∙ ap (map permission_of) (map-drop (region_at ws) k (slots nx c.next))
    ∙ map-drop permission_of k (stored_at nx ws c.next)) g)

-- so many elements as the slice has room for, and as many as there are and as it has room for
module _ {A : Type 0} (w : ℕ) (f : A → List ℕ) (fw : (a : A) → length (f a) ≡ w) {xs ahead : List A} {before now : List ℕ} {i : ℕ} (g : Walk w f xs ahead before now i) where
  pub walk-all : length before / w ≤ i → Filled w (map f xs) 0 before now (length before / w)
  walk-all l = let e : i ≡ length before / w = omega (arith, g.room) in rw e at (walk-full w f fw g e)

  pub walk-most : (r : ℕ) → r ≡ min (length before / w) (length xs) → r ≤ i → Filled w (map f xs) 0 before now r
  walk-most r e l = elim (dec_lt i (length before / w)) [
    | yes b ↦
        let q : i ≡ r = omega (arith, g.room, g.some) in
        rw q at (walk-short w f fw g (g.left ∙ drop_of_length-le xs (omega (arith, g.some))))
    | no b ↦
        let q : i ≡ r = omega (arith, g.room, g.some) in
        rw q at (walk-full w f fw g (omega (arith, g.room)))
  ]
