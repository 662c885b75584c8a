-- What the functions that ask one region show.
use Prim.Native.Nat.{ℕ, ◌≤◌, ◌<◌}
use mathlib.Core.Path.{◌≡◌, refl}
use mathlib.Core.Bool.{Bool, true, false, ◌&&◌, ◌||◌}
use borrow.Author.Tests.{le-leb, lt-leb}
use Rattle.definitions.specs.Tests.{◌<?◌, ◌=?◌}
use Rattle.definitions.specs.Rights.{as_counters, RIGHTS}
use Rattle.definitions.specs.Questions.{every_named}
use Rattle.definitions.specs.declared.addr.HostAddr.{HostAddr}
use Rattle.definitions.specs.declared.region.Counters.{Counters}
use Rattle.definitions.specs.declared.region.Region.{Region}
use Rattle.definitions.specs.declared.region.Values.{Values}
use Rattle.definitions.proofs.Bools.{and-true}
use Rattle.capability_engine.specs.RegionAsks.{every_of, gap_from, gap_here}

module _ (e s : HostAddr) (r : Region) where
  pub from-skip : r.end.0 ≤ s.0 → s ≡ gap_from e s r
  unfolding gap_from
  from-skip l = simp (le-leb r.end.0 s.0 l)

  pub from-stop : s.0 < r.end.0 → e.0 ≤ r.start.0 → e ≡ gap_from e s r
  unfolding gap_from
  from-stop l m = simp (lt-leb r.end.0 s.0 l, le-leb e.0 r.start.0 m)

  pub from_on : s.0 < r.end.0 → r.start.0 < e.0 → r.end ≡ gap_from e s r
  unfolding gap_from
  from_on l m = simp (lt-leb r.end.0 s.0 l, lt-leb e.0 r.start.0 m)

  pub here-skip : r.end.0 ≤ s.0 → false ≡ gap_here e s r
  unfolding gap_here
  here-skip l = simp (le-leb r.end.0 s.0 l)

  pub here-stop : s.0 < r.end.0 → e.0 ≤ r.start.0 → (s.0 <? e.0) ≡ gap_here e s r
  unfolding gap_here
  here-stop l m = simp (lt-leb r.end.0 s.0 l, le-leb e.0 r.start.0 m)

  pub here_on : s.0 < r.end.0 → r.start.0 < e.0 → (s.0 <? r.start.0) ≡ gap_here e s r
  unfolding gap_here
  here_on l m = simp (lt-leb r.end.0 s.0 l, lt-leb e.0 r.start.0 m)

and-right : (a b c : Bool) → ((a && b) && c) ≡ (a && (b && c))
and-right true b c = refl
and-right false b c = refl

pub every-is : (p : ℕ → Bool) (n v : Counters) (a b d e f g : Bool) → a ≡ p v.read → b ≡ p v.write → d ≡ p v.exec → e ≡ p v.supervisor → f ≡ p v.uncacheable → g ≡ p v.device
    → ((((((n.read =? 0) || a) && ((n.write =? 0) || b)) && ((n.exec =? 0) || d)) && ((n.supervisor =? 0) || e)) && ((n.uncacheable =? 0) || f)) && ((n.device =? 0) || g) ≡ every_of p n v
unfolding every_of
every-is p n v a b d e f g ea eb ed ee ef eg = rw (ea, eb, ed, ee, ef, eg, and-true) (simp and-right)

-- the counts that the rights name
pub every-named : (p : ℕ → Bool) (rights : ℕ) (v : Values) (n : Counters) → n ≡ as_counters (record { 0 = rights }) → every_of p n v.counters ≡ every_named p rights v
unfolding every_of as_counters every_named RIGHTS
every-named p rights v n en = rw en
