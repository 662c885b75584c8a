-- Records along a chain, and segments by their number. Assumes nothing.
use Prim.Native.Nat.{ℕ, zero, suc, ◌+◌, ◌-◌, ◌≤◌, ◌<◌}
use mathlib.Core.Path.{◌≡◌, refl, ap}
use mathlib.Core.List.{List, [], ◌∷◌, map}
use native.Mathlib.Omega.{arith}
use native.Mathlib.Numerals.{add-one}
use lib.ListN.{get_or, drop, length}
use Rattle.definitions.proofs.Lists.{Ordered}
use Rattle.definitions.proofs.RegionLaws.{ordered-from}
use Rattle.definitions.proofs.SegmentLaws.{Good, AllGood}
use Rattle.definitions.specs.declared.region.Region.{Region}
use Rattle.capability_engine.specs.PoolWords.{region_at}
use Rattle.capability_engine.specs.PoolChain.{Listed, stored_at}
use Rattle.capability_engine.specs.StreamFlow.{Past}
use Rattle.capability_engine.specs.SegmentWords.{segment_at, segments_from}
use Rattle.capability_engine.specs.StreamCursor.{Sound}
use Rattle.capability_engine.proofs.PoolLinks.{slots-are, listed-step, stored-step, stored-none, stored-few}

pub past_of : {x y : ℕ} (rs : List Region) → x ≤ y → Ordered y rs → Past x rs
past_of [] l g = tt
past_of (r ∷ rs) l g = omega arith

module _ {nx ws : List ℕ} where
  pub regions-step : {h : ℕ} → Sound nx ws h → h < 1024 → stored_at nx ws h ≡ region_at ws h ∷ stored_at nx ws (get_or nx h 0)
  regions-step g l = stored-step ws g.listed l

  pub regions-none : {h : ℕ} → Sound nx ws h → 1024 ≤ h → stored_at nx ws h ≡ []
  regions-none g l = stored-none ws g.listed l

  pub regions-few : {h : ℕ} → Sound nx ws h → length (stored_at nx ws h) ≤ 1024
  regions-few g = stored-few ws g.listed

  pub ordered_step : {h : ℕ} → Sound nx ws h → h < 1024 → Ordered 0 (region_at ws h ∷ stored_at nx ws (get_or nx h 0))
  ordered_step {h} g l = rw (regions-step g l) at g.ordered

  pub sound-step : {h : ℕ} → Sound nx ws h → h < 1024 → Sound nx ws (get_or nx h 0)
  sound-step {h} g l =
      record {
        listed = listed-step nx h g.listed l;
        ordered = ordered-from (region_at ws h).end.0 0 (stored_at nx ws (get_or nx h 0)) (omega arith) (ordered_step g l).2;
      }

ended : (nx : List ℕ) → length nx ≡ 1025 → Listed nx 1024 []
ended nx e = record { size = e; seg = refl; few = omega arith }

pub regions-ended : (nx ws : List ℕ) → length nx ≡ 1025 → stored_at nx ws 1024 ≡ []
regions-ended nx ws e = ap (map (region_at ws)) (slots-are (ended nx e))

pub sound-ended : (nx ws : List ℕ) → length nx ≡ 1025 → Sound nx ws 1024
sound-ended nx ws e = record { listed = rw (slots-are (ended nx e)) (ended nx e); ordered = rw (regions-ended nx ws e) tt }

-- ---- segments

pub segments-step : (sg : List ℕ) (i n : ℕ) → i < n → segments_from sg i (n - i) ≡ segment_at sg i ∷ segments_from sg (i + 1) (n - (i + 1))
segments-step sg i n l =
    let e : n - i ≡ suc (n - (i + 1)) = omega arith in
    rw e (rw (add-one i))

pub segments-none : (sg : List ℕ) (i n : ℕ) → n ≤ i → segments_from sg i (n - i) ≡ []
segments-none sg i n l = let e : n - i ≡ 0 = omega arith in rw e

pub segments-length : (sg : List ℕ) (i k : ℕ) → length (segments_from sg i k) ≡ k
segments-length sg i zero = refl
segments-length sg i (suc k) = ap suc (segments-length sg (suc i) k)

drop-from : (sg : List ℕ) (i k n : ℕ) → segments_from sg (i + k) (n - k) ≡ drop k (segments_from sg i n)
drop-from sg i zero n = let e : i + 0 ≡ i = omega arith in let d : n - 0 ≡ n = omega arith in rw (e, d)
drop-from sg i (suc k) zero = let d : 0 - suc k ≡ 0 = omega arith in rw d
drop-from sg i (suc k) (suc n) =
    let e : i + suc k ≡ suc i + k = omega arith in
    let d : suc n - suc k ≡ n - k = omega arith in
    rw (e, d) (drop-from sg (suc i) k n)

pub segments-drop : (sg : List ℕ) (k n : ℕ) → segments_from sg k (n - k) ≡ drop k (segments_from sg 0 n)
segments-drop sg k n = let e : 0 + k ≡ k = omega arith in rw e at (drop-from sg 0 k n)

good-from : (sg : List ℕ) (j k i : ℕ) → AllGood (segments_from sg j k) → i < k → Good (segment_at sg (j + i))
good-from sg j zero i g l = absurd (omega arith)
good-from sg j (suc k) zero g l = let e : j + 0 ≡ j = omega arith in rw e g.0
good-from sg j (suc k) (suc i) g l = let e : j + suc i ≡ suc j + i = omega arith in rw e (good-from sg (suc j) k i g.1 (omega arith))

pub good-at : (sg : List ℕ) (n i : ℕ) → AllGood (segments_from sg 0 n) → i < n → Good (segment_at sg i)
good-at sg n i g l = let e : 0 + i ≡ i = omega arith in rw e at (good-from sg 0 n i g l)
