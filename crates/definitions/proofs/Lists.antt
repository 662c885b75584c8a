-- The list operations that compute regions and runs: what a table says of an address, the passes of an add and a remove,
-- and what a segment leaves of a region. The definitions go by address; the laws tie the two.
use Rattle.std.specs.Prelude.{if◌then◌else◌}
use Prim.Native.Nat.{ℕ, ◌≤◌, ◌<◌, min, max}
use mathlib.Core.Path.{◌≡◌}
use mathlib.Core.Bool.{true, false}
use mathlib.Core.List.{List, [], ◌∷◌, ◌++◌}
use Rattle.definitions.specs.Tests.{◌<?◌, ◌≤?◌, host, keep, each}
use Rattle.definitions.specs.Values.{nothing, held, raise, lower}
use Rattle.definitions.specs.Regions.{region, has, within, joins, joined, cut}
use Rattle.definitions.specs.Segments.{host_end}
use Rattle.definitions.specs.declared.addr.HostAddr.{HostAddr}
use Rattle.definitions.specs.declared.region.Values.{Values}
use Rattle.definitions.specs.declared.region.Region.{Region}
use Rattle.definitions.specs.declared.remapper.Segment.{Segment}

-- what the table says of an address
unfoldable pub values_at : List Region → HostAddr → Values
values_at [] x = nothing
values_at (r ∷ rs) x = if has r x then r.values else values_at rs x

-- an unheld run, if it is not empty
unfoldable pub gap : HostAddr → HostAddr → List Region
gap a e = if a.0 <? e.0 then region a e nothing ∷ [] else []

-- the unheld runs of the range become regions that hold nothing
unfoldable pub fill : HostAddr → HostAddr → List Region → List Region
fill a e [] = gap a e
fill a e (r ∷ rs) =
    if r.end.0 ≤? a.0 then r ∷ fill a e rs
    else if e.0 ≤? r.start.0 then gap a e ++ (r ∷ rs)
    else gap a r.start ++ (r ∷ fill r.end e rs)

unfoldable pub change : (Values → Values) → HostAddr → HostAddr → List Region → List Region
change f a e [] = []
change f a e (r ∷ rs) =
    (if within a e r then region r.start r.end (f r.values) else r) ∷ change f a e rs

-- the table that an add has at its peak, before joining
unfoldable pub peak : HostAddr → HostAddr → List Region → List Region
peak a e rs = fill a e (cut e (cut a rs))

unfoldable pub added : HostAddr → HostAddr → ℕ → List Region → List Region
added a e rights rs = joined (change (raise rights) a e (peak a e rs))

unfoldable pub removed : HostAddr → HostAddr → ℕ → List Region → List Region
removed a e rights rs = joined (keep (λ q. held q.values) (change (lower rights) a e (cut e (cut a rs))))

-- not empty, in address order, and apart, from an address on
abbrev pub Ordered : ℕ → List Region → Type 0
Ordered lo [] = Unit {0}
Ordered lo (r ∷ rs) = (lo ≤ r.start.0) × (r.start.0 < r.end.0) × Ordered r.end.0 rs

abbrev pub AllHeld : List Region → Type 0
AllHeld [] = Unit {0}
AllHeld (r ∷ rs) = (held r.values ≡ true) × AllHeld rs

-- no region goes on in the next
abbrev pub Ends : Region → List Region → Type 0
Ends r [] = Unit {0}
Ends r (q ∷ qs) = joins r q ≡ false

abbrev pub Longest : List Region → Type 0
Longest [] = Unit {0}
Longest (r ∷ rs) = Ends r rs × Longest rs

-- the longest runs of held addresses with equal values, from an address on
pub record Runs (lo : ℕ) (rs : List Region) : Type 0 where
  pub ordered : Ordered lo rs
  pub full : AllHeld rs
  pub longest : Longest rs

-- what is not held has no value
abbrev pub Blank : (HostAddr → Values) → Type 0
Blank f = (x : HostAddr) → held (f x) ≡ false → f x ≡ nothing

-- the part of a region below an address, and the part from an address on, if they are not empty
unfoldable pub below : ℕ → Region → List Region
below x r =
    if r.start.0 <? min x r.end.0 then region r.start (host (min x r.end.0)) r.values ∷ [] else []

unfoldable pub above : ℕ → Region → List Region
above x r =
    if max x r.start.0 <? r.end.0 then region (host (max x r.start.0)) r.end r.values ∷ [] else []

unfoldable pub without : Segment → Region → List Region
without s r = below s.hpa.0 r ++ above (host_end s).0 r

-- what the segments leave of the regions
unfoldable pub left_over : List Segment → List Region → List Region
left_over [] rs = rs
left_over (s ∷ ss) rs = left_over ss (each (without s) rs)
