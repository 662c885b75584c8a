-- Document 02, order 8: "A held address is uncacheable exactly while, since its holders were last 0, more accepted adds than
-- removes have named it there." Here is what is counted, of any right.
use Rattle.std.specs.Prelude.{ℕ, ◌+◌, ◌-◌, Bool, ◌&&◌, List, [], ◌∷◌, if◌then◌else◌}
use Rattle.definitions.specs.Tests.{◌≤?◌, ◌=?◌, inside}
use Rattle.definitions.specs.Rights.{Right, named}
use Rattle.definitions.specs.Reckoning.{compartment_of}
use Rattle.definitions.specs.declared.addr.HostAddr.{HostAddr}
use Rattle.definitions.specs.declared.call.Call.{Call}
use Rattle.definitions.specs.declared.call.Call.TheVariants.{Add, Remove, Refcount, Overlaps, Map, Unmap, UnmapGpa, Permissions, Remap, Mappings, Allow}

-- how many hold an address, and how many adds and removes have named the right there since none did
pub record Tally : Type 0 where
  pub holders : ℕ
  pub adds : ℕ
  pub removes : ℕ

-- where nobody holds, nothing has been counted
unfoldable pub no_tally : Tally
no_tally = record { holders = 0; adds = 0; removes = 0 }

-- what an accepted call makes of the tally at an address; where a remove leaves no holder, it begins anew
unfoldable pub tallied : Right → HostAddr → Call → Tally → Tally
tallied t x (Add k a e r) n =
    if inside a.0 e.0 x.0
    then record { holders = n.holders + 1; adds = n.adds + named t r; removes = n.removes } else n
tallied t x (Remove k a e r) n =
    if inside a.0 e.0 x.0
    then (if n.holders ≤? 1 then no_tally
    else record { holders = n.holders - 1; adds = n.adds; removes = n.removes + named t r }) else n
tallied t x (Map k h g n r) m = m
tallied t x (Unmap k h n) m = m
tallied t x (UnmapGpa k g n) m = m
tallied t x (Refcount k a e) m = m
tallied t x (Overlaps k g n) m = m
tallied t x (Permissions k i n) m = m
tallied t x (Remap k i n) m = m
tallied t x (Mappings k) m = m
tallied t x (Allow k n) m = m

-- compartment k's tally of calls, oldest first, each with whether it was accepted
unfoldable pub tally_from : Right → ℕ → HostAddr → Tally → List (Call × Bool) → Tally
tally_from t k x n [] = n
tally_from t k x n (fed ∷ later) =
    tally_from t k x (if (compartment_of fed.0 =? k) && fed.1 then tallied t x fed.0 n else n) later

unfoldable pub tally : Right → ℕ → HostAddr → List (Call × Bool) → Tally
tally t k x fed = tally_from t k x no_tally fed
