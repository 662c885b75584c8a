-- Document 01, "Modules, leaves first", 3: rights.
use Rattle.std.specs.Prelude.{ℕ, ◌/◌, ◌%◌, Bool, not, ◌&&◌, ◌||◌, List, [], ◌∷◌}
use Rattle.definitions.specs.Tests.{◌=?◌}
use Rattle.definitions.specs.declared.region.MemOps.{MemOps}
use Rattle.definitions.specs.declared.region.Counters.{Counters}
use Rattle.definitions.specs.declared.region.Values.{Values}

-- 1 read, 2 write, 4 exec, 8 super, 16 uncacheable; document 02, order 10: 32 device
pub data Right : Type 0 where
  READ : Right
  WRITE : Right
  EXEC : Right
  SUPER : Right
  UNCACHEABLE : Right
  DEVICE : Right

abbrev pub flag : Right → ℕ
flag READ = 1
flag WRITE = 2
flag EXEC = 4
flag SUPER = 8
flag UNCACHEABLE = 16
flag DEVICE = 32

-- all of them, in this order; each is counted (document 02, order 8)
unfoldable pub RIGHTS : List Right
RIGHTS = READ ∷ WRITE ∷ EXEC ∷ SUPER ∷ UNCACHEABLE ∷ DEVICE ∷ []

-- 1 if the rights name this one, else 0
unfoldable pub named : Right → ℕ → ℕ
named right rights = rights / flag right % 2

-- is_valid says no for write or exec without read
unfoldable pub is_valid : MemOps → Bool
is_valid ops =
    not (((named WRITE ops.0 =? 1) || (named EXEC ops.0 =? 1)) && (named READ ops.0 =? 0))

-- a right's count, and the counters that have these counts
abbrev pub count_of : Right → Values → ℕ
count_of READ v = v.counters.read
count_of WRITE v = v.counters.write
count_of EXEC v = v.counters.exec
count_of SUPER v = v.counters.supervisor
count_of UNCACHEABLE v = v.counters.uncacheable
count_of DEVICE v = v.counters.device

abbrev pub counters_of : (Right → ℕ) → Counters
counters_of f = record {
  read = f READ;
  write = f WRITE;
  exec = f EXEC;
  supervisor = f SUPER;
  uncacheable = f UNCACHEABLE;
  device = f DEVICE;
}

-- the counters of one holder: 1 for each right that is named
unfoldable pub as_counters : MemOps → Counters
as_counters ops = counters_of (λ t. named t ops.0)
