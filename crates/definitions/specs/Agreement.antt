-- Document 01, "The reckoning": what it is for a list of mappings to agree with a compartment's reckoning at a host address;
-- and document 02, order 10: to give a right back there.
use Rattle.std.specs.Prelude.{ℕ, ◌+◌, ◌-◌, ◌≡◌, Bool, true, false, not, ◌&&◌, List}
use Rattle.definitions.specs.Tests.{◌<?◌, ◌=?◌, inside, bit, any, count}
use Rattle.definitions.specs.Rights.{Right, named, count_of}
use Rattle.definitions.specs.Values.{held, rights_of}
use Rattle.definitions.specs.Segments.{covers}
use Rattle.definitions.specs.Reckoning.{Compartment}
use Rattle.definitions.specs.declared.addr.HostAddr.{HostAddr}
use Rattle.definitions.specs.declared.addr.GuestAddr.{GuestAddr}
use Rattle.definitions.specs.declared.region.Values.{Values}
use Rattle.definitions.specs.declared.remapper.Segment.{Segment}
use Rattle.definitions.specs.declared.remapper.Mapping.{Mapping}

-- does the mapping contain x, and does it put x at y (gpa plus x's distance from hpa)?
unfoldable pub contains : HostAddr → Mapping → Bool
contains x m = inside m.hpa.0 (m.hpa.0 + m.size) x.0

unfoldable pub puts : HostAddr → GuestAddr → Mapping → Bool
puts x y m = contains x m && (m.gpa.0 + (x.0 - m.hpa.0) =? y.0)

-- does the segment cover x, and put it at y?
unfoldable pub aims : HostAddr → GuestAddr → Segment → Bool
aims x y s = covers s x && (s.gpa.0 + (x.0 - s.hpa.0) =? y.0)

-- identity mappings: gpa = hpa, repeat 1
unfoldable pub maps1to1 : Mapping → Bool
maps1to1 m = (m.gpa.0 =? m.hpa.0) && (m.repeat =? 1)

pub record AgreesAt (x : HostAddr) (c : Compartment) (ms : List Mapping) : Type 0 where
  -- an address not held lies in no mapping
  pub unheld : held (c.values x) ≡ false → count (contains x) ms ≡ 0
  -- a held one in exactly one mapping for each covering segment
  pub once : held (c.values x) ≡ true → any (λ s. covers s x) c.segments ≡ true
      → count (contains x) ms ≡ count (λ s. covers s x) c.segments
  -- for each guest address y as many mappings put it at y as there are such segments that put it at y
  pub covered : held (c.values x) ≡ true → any (λ s. covers s x) c.segments ≡ true
      → (y : GuestAddr) → count (puts x y) ms ≡ count (aims x y) c.segments
  -- and as many of them with each repeat
  pub repeated : held (c.values x) ≡ true → any (λ s. covers s x) c.segments ≡ true
      → (y : GuestAddr) (t : ℕ)
      → count (λ m. puts x y m && (m.repeat =? t)) ms ≡ count (λ s. aims x y s && (s.repeat =? t)) c.segments
  -- with none covering, in exactly one, an identity mapping
  pub plain : held (c.values x) ≡ true → any (λ s. covers s x) c.segments ≡ false
      → (count (contains x) ms ≡ 1) × (count (λ m. contains x m && not (maps1to1 m)) ms ≡ 0)
  -- each with exactly the rights left there
  pub rights : count (λ m. contains x m && not (m.ops.0 =? (rights_of (c.values x)).0)) ms ≡ 0

-- Document 02, order 10: whoever reads the stream gets a right back exactly where the per-address reckoning leaves it, which is
-- where it leaves its count above 0.
pub record GivesBack (t : Right) (x : HostAddr) (v : Values) (ms : List Mapping) : Type 0 where
  -- some mapping with x names it exactly if its count is above 0
  pub back : any (λ m. contains x m && (named t m.ops.0 =? 1)) ms ≡ (0 <? count_of t v)
  -- and none with x says otherwise
  pub no_other : count (λ m. contains x m && not (named t m.ops.0 =? bit (0 <? count_of t v))) ms ≡ 0
