-- Document 01, "What an address holds": records, here regions, what an add or a remove changes, and the records it needs.
use Rattle.std.specs.Prelude.{ℕ, zero, suc, ◌+◌, ◌-◌, ◌^◌, max, Bool, not, ◌&&◌, ◌||◌, List, [], ◌∷◌, length, if◌then◌else◌}
use Rattle.definitions.specs.Tests.{◌<?◌, ◌≤?◌, ◌=?◌, inside, bit, host, all, any, count, keep}
use Rattle.definitions.specs.Rights.{RIGHTS, count_of}
use Rattle.definitions.specs.Values.{nothing, held, raise, lower, rights_of}
use Rattle.definitions.specs.declared.addr.HostAddr.{HostAddr}
use Rattle.definitions.specs.declared.region.Values.{Values}
use Rattle.definitions.specs.declared.region.Region.{Region}
use Rattle.definitions.specs.declared.region.MemoryPermission.{MemoryPermission}

unfoldable pub region : HostAddr → HostAddr → Values → Region
region a e v = record { start = a; end = e; values = v }

-- does the region contain the address, lie in the range [a, e), share an address with it?
unfoldable pub has : Region → HostAddr → Bool
has r x = inside r.start.0 r.end.0 x.0

unfoldable pub within : HostAddr → HostAddr → Region → Bool
within a e r = (a.0 ≤? r.start.0) && (r.end.0 ≤? e.0)

unfoldable pub meets : HostAddr → HostAddr → Region → Bool
meets a e r = (a.0 <? r.end.0) && (r.start.0 <? e.0)

-- Records are the longest runs of held addresses with holders and all counts equal, those of uncacheable and device too
-- (document 02, orders 8 and 10).
unfoldable pub same : Values → Values → Bool
same v w = (v.refcount =? w.refcount) && all (λ t. count_of t v =? count_of t w) RIGHTS

-- does the second go on where the first ends, with the same values?
unfoldable pub joins : Region → Region → Bool
joins r q = (r.end.0 =? q.start.0) && same r.values q.values

unfoldable pub join : Region → List Region → List Region
join r [] = r ∷ []
join r (q ∷ qs) = if joins r q then region r.start q.end q.values ∷ qs else r ∷ q ∷ qs

unfoldable pub joined : List Region → List Region
joined [] = []
joined (r ∷ rs) = join r (joined rs)

-- the held ones of the n addresses from x up, each by itself
unfoldable pub singles : (HostAddr → Values) → ℕ → ℕ → List Region
singles f x zero = []
singles f x (suc n) =
    if held (f (host x)) then region (host x) (host (suc x)) (f (host x)) ∷ singles f (suc x) n else singles f (suc x) n

unfoldable pub regions_below : (HostAddr → Values) → ℕ → List Region
regions_below f n = joined (singles f 0 n)

unfoldable pub regions : (HostAddr → Values) → List Region
regions f = regions_below f (2 ^ 64)

unfoldable pub permission_of : Region → MemoryPermission
permission_of r = record { start = r.start; end = r.end; ops = rights_of r.values }

-- the n addresses from x up, and those of [a, e)
unfoldable pub addresses_from : ℕ → ℕ → List HostAddr
addresses_from x zero = []
addresses_from x (suc n) = host x ∷ addresses_from (suc x) n

unfoldable pub addresses : HostAddr → HostAddr → List HostAddr
addresses a e = addresses_from a.0 (e.0 - a.0)

-- do holders or one of the counts, uncacheable among them (document 02, order 8), pass this test, before and after?
unfoldable pub some_count : (ℕ → ℕ → Bool) → Values → Values → Bool
some_count p v w = p v.refcount w.refcount || any (λ t. p (count_of t v) (count_of t w)) RIGHTS

-- Change is 1 when some address had a 0 that became 1 (add: holders or a count) or a 1 that became 0 (remove), else 0.
unfoldable pub add_change : HostAddr → HostAddr → ℕ → (HostAddr → Values) → ℕ
add_change a e rights f =
    bit (any (λ x. some_count (λ b c. (b =? 0) && (c =? 1)) (f x) (raise rights (f x))) (addresses a e))

unfoldable pub remove_change : HostAddr → HostAddr → ℕ → (HostAddr → Values) → ℕ
remove_change a e rights f =
    bit (any (λ x. some_count (λ b c. (b =? 1) && (c =? 0)) (f x) (lower rights (f x))) (addresses a e))

-- `get_refcount` gives the greatest holders among records ending above start and beginning below end, else 0.
unfoldable pub greatest : List Region → ℕ
greatest [] = 0
greatest (q ∷ qs) = max q.values.refcount (greatest qs)

unfoldable pub refcount_of : HostAddr → HostAddr → List Region → ℕ
refcount_of a e rs = greatest (keep (meets a e) rs)

-- is the address strictly inside the region?
unfoldable pub splits : HostAddr → Region → Bool
splits x r = (r.start.0 <? x.0) && (x.0 <? r.end.0)

-- The longest unheld runs of the range [a, e): the regions there would be if just its unheld addresses were held.
unfoldable pub unheld_in : HostAddr → HostAddr → (HostAddr → Values) → HostAddr → Values
unheld_in a e f x = if inside a.0 e.0 x.0 && not (held (f x)) then raise 0 nothing else nothing

-- New records an add needs at its peak, before joining: one if start is strictly inside a record, one if end is, one for
-- each longest unheld run in the range.
unfoldable pub new_records : HostAddr → HostAddr → (HostAddr → Values) → ℕ
new_records a e f =
    bit (any (splits a) (regions f)) + bit (any (splits e) (regions f)) + length (regions (unheld_in a e f))

-- A remove cuts at start first.
unfoldable pub cut : HostAddr → List Region → List Region
cut x [] = []
cut x (r ∷ rs) =
    if splits x r then region r.start x r.values ∷ region x r.end r.values ∷ rs else r ∷ cut x rs

-- Before cutting at end it frees the records with holders 1 that lie in the range and end at or below the start of the
-- record it cuts; that record, or its part, isn't freed yet. (A record that end cuts does not lie in the range.)
unfoldable pub freed : HostAddr → HostAddr → List Region → ℕ
freed a e rs = count (λ r. within a e r && (r.values.refcount =? 1)) (cut a rs)
