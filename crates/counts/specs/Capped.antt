-- What a count becomes that does not fit 64 bits.
use Rattle.std.specs.Prelude.{ℕ, ◌-◌, ◌^◌, if◌then◌else◌}
use Rattle.definitions.specs.Tests.{fits}
use Rattle.definitions.specs.Rights.{count_of, counters_of}
use Rattle.definitions.specs.declared.region.Values.{Values}

-- the number, or the greatest of 64 bits
unfoldable pub capped : ℕ → ℕ
capped n = if fits n then n else 2 ^ 64 - 1

-- the holders and each count so
unfoldable pub capped_counts : Values → Values
capped_counts v = record { refcount = capped v.refcount; counters = counters_of (λ t. capped (count_of t v)) }
