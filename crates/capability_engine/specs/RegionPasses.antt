-- What the passes of a remove make of a list of regions, and the tests of a cut.
use Rattle.std.specs.Prelude.{ℕ, ◌≤◌, ◌<◌, List, [], ◌∷◌, if◌then◌else◌}
use Rattle.definitions.specs.Tests.{keep}
use Rattle.definitions.specs.Rights.{Right, count_of}
use Rattle.definitions.specs.Values.{held, raise, lower}
use Rattle.definitions.specs.Regions.{region, within, splits, cut}
use Rattle.definitions.specs.declared.addr.HostAddr.{HostAddr}
use Rattle.definitions.specs.declared.region.Values.{Values}
use Rattle.definitions.specs.declared.region.Region.{Region}
use Rattle.definitions.proofs.Lists.{change, peak, Ordered, AllHeld, Runs}
use Rattle.capability_engine.specs.PoolOwn.{Heap, Ready, Room, records_of, Place}

-- the regions that lie in the range are lowered, and go if nobody holds them any more
unfoldable pub lowered : ℕ → HostAddr → HostAddr → List Region → List Region
lowered rights a e rs = keep (λ q. held q.values) (change (lower rights) a e rs)

-- where the region begins that has e strictly inside; e if none has
unfoldable pub start_of : HostAddr → List Region → HostAddr
start_of e [] = e
start_of e (r ∷ rs) = if splits e r then r.start else start_of e rs

-- one region that lies in the range is changed
unfoldable pub changed_one : (Values → Values) → HostAddr → HostAddr → Region → Region
changed_one f a e r = if within a e r then region r.start r.end (f r.values) else r

-- no count is above 65,536
pub record Small (v : Values) : Type 0 where
  pub refcount : v.refcount ≤ 65536
  pub counts : (t : Right) → count_of t v ≤ 65536

abbrev pub AllSmall : List Region → Type 0
AllSmall [] = Unit {0}
AllSmall (r ∷ rs) = Small r.values × AllSmall rs

-- what a remove asks before it changes anything
pub record CanApplyRemove (nx ws : List ℕ) (fl : Heap) (a e : HostAddr) (rights : ℕ) : Type 0 where
  pub order : a.0 < e.0
  pub ordered : Ordered 0 (records_of nx ws)
  pub full : AllHeld (records_of nx ws)
  pub first : Room nx fl (cut a (records_of nx ws))
  pub second : Room nx fl (cut e (lowered rights a e (cut a (records_of nx ws))))

-- what an add and a remove ask that leave alone what lies before p
pub record CanAddBetween (nx ws : List ℕ) (fl : Heap) (a e : HostAddr) (rights p : ℕ) : Type 0 where
  pub order : a.0 < e.0
  pub ready : Ready nx ws fl
  pub runs : Runs 0 (records_of nx ws)
  pub place : Place (λ r. r.end.0 < a.0) nx ws p
  pub room : Room nx fl (peak a e (records_of nx ws))
  pub small : AllSmall (change (raise rights) a e (peak a e (records_of nx ws)))

pub record CanRemoveBetween (nx ws : List ℕ) (fl : Heap) (a e : HostAddr) (rights p : ℕ) : Type 0 where
  pub ready : Ready nx ws fl
  pub runs : Runs 0 (records_of nx ws)
  pub place : Place (λ r. r.end.0 < a.0) nx ws p
  pub applies : CanApplyRemove nx ws fl a e rights
