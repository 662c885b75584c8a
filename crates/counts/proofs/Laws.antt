-- What the counts of a region become, from what becomes of each.
use Rattle.std.specs.Prelude.{if◌then◌else◌}
use native.Mathlib.Decide.{dec_lt}
use Prim.Native.Nat.{ℕ, min, ◌+◌, ◌-◌, ◌^◌}
use native.Mathlib.Omega.{arith}
use mathlib.Core.Path.{◌≡◌, refl}
use mathlib.Core.Bool.{Bool, true, false}
use borrow.Author.Tests.{lt-ltb, le-ltb}
use Rattle.definitions.specs.Tests.{◌≤?◌, fits}
use Rattle.definitions.specs.Rights.{Right, named, count_of, counters_of, as_counters}
use Rattle.definitions.specs.Values.{nothing, raise, lower}
use Rattle.definitions.specs.Regions.{region}
use Rattle.definitions.specs.declared.region.Region.{Region}
use Rattle.definitions.specs.declared.region.Counters.{Counters}
use Rattle.counts.specs.Capped.{capped, capped_counts}

-- what the functions of numbers answer
abbrev pub plus_of : ℕ → ℕ → ℕ
plus_of a b = capped (a + b)

abbrev pub left_of : ℕ → ℕ → ℕ → ℕ
left_of holders count by = if holders ≤? 1 then 0 else count - by

-- the library's sum that stays below 2^64 is the capped one
pub capped-min : (n : ℕ) → min n 18446744073709551615 ≡ capped n
unfolding capped fits
capped-min n =
    elim (dec_lt n (2 ^ 64)) [
      | yes l ↦ simp (lt-ltb n (2 ^ 64) l) (omega arith)
      | no g ↦ simp (le-ltb n (2 ^ 64) (omega arith)) (omega arith)
    ]

-- what the functions of regions make of one
abbrev pub raised : ℕ → Region → Region
raised rights r = region r.start r.end (capped_counts (raise rights r.values))

abbrev pub lowered : ℕ → Region → Region
lowered rights r = region r.start r.end (lower rights r.values)

-- the region with these values
abbrev pub made : Region → ℕ → ℕ → ℕ → ℕ → ℕ → ℕ → ℕ → Region
made r n a b c d u v = record {
  start = r.start;
  end = r.end;
  values = record { refcount = n; counters = record { read = a; write = b; exec = c; supervisor = d; uncacheable = u; device = v } };
}

pub raised_is : (r : Region) (rights : ℕ) (by : Counters) → by ≡ as_counters (record { 0 = rights }) → (n a b c d u v : ℕ) → n ≡ plus_of r.values.refcount 1
    → a ≡ plus_of r.values.counters.read by.read → b ≡ plus_of r.values.counters.write by.write → c ≡ plus_of r.values.counters.exec by.exec → d ≡ plus_of r.values.counters.supervisor by.supervisor
    → u ≡ plus_of r.values.counters.uncacheable by.uncacheable → v ≡ plus_of r.values.counters.device by.device
    → made r n a b c d u v ≡ raised rights r
unfolding region raise as_counters capped_counts
raised_is r rights by e n a b c d u v en ea eb ec ed eu ev = rw (en, ea, eb, ec, ed, eu, ev, e)

last-or-not : (t : Bool) (n m : ℕ) (f g : Right → ℕ)
    → record { refcount = if t then 0 else n - m; counters = counters_of (λ i. if t then 0 else f i - g i) }
    ≡ (if t then nothing else record { refcount = n - m; counters = counters_of (λ i. f i - g i) })
unfolding nothing
last-or-not true n m f g = refl
last-or-not false n m f g = refl

pub lowered_is : (r : Region) (rights : ℕ) (by : Counters) → by ≡ as_counters (record { 0 = rights }) → (n a b c d u v : ℕ) → n ≡ left_of r.values.refcount r.values.refcount 1
    → a ≡ left_of r.values.refcount r.values.counters.read by.read → b ≡ left_of r.values.refcount r.values.counters.write by.write
    → c ≡ left_of r.values.refcount r.values.counters.exec by.exec → d ≡ left_of r.values.refcount r.values.counters.supervisor by.supervisor
    → u ≡ left_of r.values.refcount r.values.counters.uncacheable by.uncacheable → v ≡ left_of r.values.refcount r.values.counters.device by.device
    → made r n a b c d u v ≡ lowered rights r
unfolding region lower as_counters
lowered_is r rights by e n a b c d u v en ea eb ec ed eu ev =
    rw (en, ea, eb, ec, ed, eu, ev, e)
    (λ i. record {
      start = r.start;
      end = r.end;
      values = last-or-not (r.values.refcount ≤? 1) r.values.refcount 1 (λ t. count_of t r.values) (λ t. named t rights) i;
    })
