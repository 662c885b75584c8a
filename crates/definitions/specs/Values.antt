-- Document 01, "What an address holds": the values of an address, and how an accepted add or remove changes them; with
-- document 02, orders 8 and 10: uncacheable and device are counted as the other rights are.
use Rattle.std.specs.Prelude.{ℕ, ◌+◌, ◌-◌, ◌*◌, Bool, if◌then◌else◌}
use Rattle.definitions.specs.Tests.{◌<?◌, ◌≤?◌, inside, bit, total}
use Rattle.definitions.specs.Rights.{flag, RIGHTS, named, count_of, counters_of}
use Rattle.definitions.specs.declared.addr.HostAddr.{HostAddr}
use Rattle.definitions.specs.declared.region.MemOps.{MemOps}
use Rattle.definitions.specs.declared.region.Values.{Values}

-- Per compartment an address has a holders count (`refcount`) and a count for each right; all zero when not held.
unfoldable pub nothing : Values
nothing = record { refcount = 0; counters = counters_of (λ t. 0) }

-- Held is holders above 0.
unfoldable pub held : Values → Bool
held v = 0 <? v.refcount

-- An accepted add raises holders and each named count by one in its range.
unfoldable pub raise : ℕ → Values → Values
raise rights v = record { refcount = v.refcount + 1; counters = counters_of (λ t. count_of t v + named t rights) }

-- An accepted remove lowers holders and the named counts on held addresses of its range and skips the others. Where
-- holders reaches 0, all become zero.
unfoldable pub lower : ℕ → Values → Values
lower rights v =
    if v.refcount ≤? 1 then nothing
    else record { refcount = v.refcount - 1; counters = counters_of (λ t. count_of t v - named t rights) }

-- The rights are those with a count above 0.
unfoldable pub rights_of : Values → MemOps
rights_of v = record { 0 = total (λ t. flag t * bit (0 <? count_of t v)) RIGHTS }

-- the values of [a, e) changed, all others as they were
unfoldable pub changed_in : (Values → Values) → HostAddr → HostAddr → (HostAddr → Values) → HostAddr → Values
changed_in g a e f x = if inside a.0 e.0 x.0 then g (f x) else f x
