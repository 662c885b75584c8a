-- Document 01, "The reckoning": one compartment's, fed the arguments of each call for it and whether that was accepted,
-- nothing else.
use Rattle.std.specs.Prelude.{ℕ, Bool, ◌&&◌, List, [], ◌∷◌, if◌then◌else◌}
use Rattle.definitions.specs.Tests.{◌=?◌}
use Rattle.definitions.specs.Values.{nothing, raise, lower, changed_in}
use Rattle.definitions.specs.Segments.{mapped, unmapped, unmapped_gpa}
use Rattle.definitions.specs.declared.addr.HostAddr.{HostAddr}
use Rattle.definitions.specs.declared.region.Values.{Values}
use Rattle.definitions.specs.declared.remapper.Segment.{Segment}
use Rattle.definitions.specs.declared.call.Call.{Call}
use Rattle.definitions.specs.declared.call.Call.TheVariants.{Add, Remove, Refcount, Overlaps, Map, Unmap, UnmapGpa, Permissions, Remap, Mappings, Allow}

-- It keeps each address's values, at first 0, and a segment list of its own, at first empty.
pub record Compartment : Type 0 where
  pub values : HostAddr → Values
  pub segments : List Segment

unfoldable pub empty : Compartment
empty = record { values = λ x. nothing; segments = [] }

unfoldable pub with_values : Compartment → (HostAddr → Values) → Compartment
with_values c f = record { values = f; segments = c.segments }

unfoldable pub with_segments : Compartment → List Segment → Compartment
with_segments c ss = record { values = c.values; segments = ss }

-- Accepted adds and removes change the values as above, accepted maps and unmaps the list as under Segments, all other
-- calls nothing.
unfoldable pub reckon : Call → Compartment → Compartment
reckon (Add k a e r) c = with_values c (changed_in (raise r) a e c.values)
reckon (Remove k a e r) c = with_values c (changed_in (lower r) a e c.values)
reckon (Map k h g n t) c = with_segments c (mapped h g n t c.segments)
reckon (Unmap k h n) c = with_segments c (unmapped h n c.segments)
reckon (UnmapGpa k g n) c = with_segments c (unmapped_gpa g n c.segments)
reckon (Refcount k a e) c = c
reckon (Overlaps k g n) c = c
reckon (Permissions k i n) c = c
reckon (Remap k i n) c = c
reckon (Mappings k) c = c
reckon (Allow k n) c = c

-- the compartment that a call names
unfoldable pub compartment_of : Call → ℕ
compartment_of (Add k a e r) = k
compartment_of (Remove k a e r) = k
compartment_of (Refcount k a e) = k
compartment_of (Overlaps k g n) = k
compartment_of (Map k h g n t) = k
compartment_of (Unmap k h n) = k
compartment_of (UnmapGpa k g n) = k
compartment_of (Permissions k i n) = k
compartment_of (Remap k i n) = k
compartment_of (Mappings k) = k
compartment_of (Allow k n) = k

-- compartment k's reckoning of calls, oldest first, each with whether it was accepted
unfoldable pub reckon_from : ℕ → Compartment → List (Call × Bool) → Compartment
reckon_from k c [] = c
reckon_from k c (fed ∷ later) =
    reckon_from k (if (compartment_of fed.0 =? k) && fed.1 then reckon fed.0 c else c) later

unfoldable pub reckoning : ℕ → List (Call × Bool) → Compartment
reckoning k fed = reckon_from k empty fed
