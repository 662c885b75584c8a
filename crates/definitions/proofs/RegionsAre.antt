-- The list operations, and the regions made address by address, are one: an add of the one is an add of the other.
use Rattle.std.specs.Prelude.{if◌then◌else◌}
use Prim.Native.Nat.{ℕ, ◌^◌, ◌≤◌}
use mathlib.Core.Path.{◌≡◌, refl, sym, ap, ◌∙◌}
use mathlib.Core.Bool.{Bool, true, false, true≢false}
use mathlib.Core.List.{List}
use native.Mathlib.Omega.{arith}
use borrow.Author.Tests.{ltb-false}
use Rattle.definitions.specs.Tests.{◌<?◌, inside}
use Rattle.definitions.proofs.Bools.{in-high}
use Rattle.definitions.specs.Values.{nothing, held, raise, lower, changed_in}
use Rattle.definitions.specs.Regions.{regions_below, regions}
use Rattle.definitions.proofs.Lists.{values_at, added, removed, Runs, Blank}
use Rattle.definitions.proofs.RegionLaws.{added-values}
use Rattle.definitions.proofs.RunLaws.{unique-runs, below-runs, below-values}
use Rattle.definitions.proofs.ChangeLaws.{added-runs, removed-runs, removed-values, raise-held, lower-blank}
use Rattle.definitions.specs.declared.addr.HostAddr.{HostAddr}
use Rattle.definitions.specs.declared.region.Values.{Values}
use Rattle.definitions.specs.declared.region.Region.{Region}

-- a change of the values of [a, e) that leaves nothing on what is not held
module _ (g : Values → Values) (gb : (v : Values) → held (g v) ≡ false → g v ≡ nothing) (a e : HostAddr) (f : HostAddr → Values) (b : Blank f) where
  pub changed-blank : Blank (changed_in g a e f)
  unfolding changed_in
  changed-blank y h = go (inside a.0 e.0 y.0) refl h
    where
      go : (t : Bool) → inside a.0 e.0 y.0 ≡ t → held (if inside a.0 e.0 y.0 then g (f y) else f y) ≡ false
          → (if inside a.0 e.0 y.0 then g (f y) else f y) ≡ nothing
      go true d k = simp d (gb (f y) (simp d at k))
      go false d k = simp d (b y (simp d at k))

  changed-is : (n : ℕ) → e.0 ≤ n → (rs : List Region) → Runs 0 rs
      → ((y : HostAddr) → values_at rs y ≡ (if inside a.0 e.0 y.0 then g (values_at (regions_below f n) y) else values_at (regions_below f n) y))
      → rs ≡ regions_below (changed_in g a e f) n
  unfolding changed_in
  changed-is n l rs r v =
      unique-runs 0 rs (regions_below (changed_in g a e f) n) r (below-runs (changed_in g a e f) n)
      (λ y. v y ∙ ap (λ u. if inside a.0 e.0 y.0 then g u else u) (below-values f b n y) ∙ go y (y.0 <? n) refl
      ∙ sym (below-values (changed_in g a e f) changed-blank n y))
    where
      go : (y : HostAddr) (t : Bool) → (y.0 <? n) ≡ t
          → (if inside a.0 e.0 y.0 then g (if y.0 <? n then f y else nothing) else (if y.0 <? n then f y else nothing))
          ≡ (if y.0 <? n then (if inside a.0 e.0 y.0 then g (f y) else f y) else nothing)
      go y true d = simp d
      go y false d = simp (d, in-high a.0 e.0 y.0 (omega (arith, ltb-false y.0 n d)))

raised-held : (k : ℕ) (v : Values) → held (raise k v) ≡ false → raise k v ≡ nothing
raised-held k v p = absurd (true≢false (sym (raise-held k v) ∙ p))

module _ (a e : HostAddr) (k : ℕ) (f : HostAddr → Values) (b : Blank f) where
  pub raised-blank : Blank (changed_in (raise k) a e f)
  raised-blank = changed-blank (raise k) (raised-held k) a e f b

  pub lowered-blank : Blank (changed_in (lower k) a e f)
  lowered-blank = changed-blank (lower k) (lower-blank k) a e f b

  pub added_is : e.0 ≤ 2 ^ 64 → added a e k (regions f) ≡ regions (changed_in (raise k) a e f)
  unfolding regions
  added_is h =
      changed-is (raise k) (raised-held k) a e f b (2 ^ 64) h (added a e k (regions_below f (2 ^ 64)))
      (added-runs a e k (regions_below f (2 ^ 64)) (below-runs f (2 ^ 64)))
      (λ y. added-values a e k y (regions_below f (2 ^ 64)) (below-runs f (2 ^ 64)).ordered)

  pub removed-is : e.0 ≤ 2 ^ 64 → removed a e k (regions f) ≡ regions (changed_in (lower k) a e f)
  unfolding regions
  removed-is h =
      changed-is (lower k) (lower-blank k) a e f b (2 ^ 64) h (removed a e k (regions_below f (2 ^ 64)))
      (removed-runs a e k (regions_below f (2 ^ 64)) (below-runs f (2 ^ 64)))
      (removed-values a e k (regions_below f (2 ^ 64)) (below-runs f (2 ^ 64)))
