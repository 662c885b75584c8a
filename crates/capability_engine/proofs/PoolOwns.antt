-- Laws of the list that is worked on with the free slots: a slot goes in, and one goes out.
use Prim.Native.Nat.{ℕ, ◌≤◌, ◌<◌}
use mathlib.Core.Path.{◌≡◌, refl, ◌∙◌}
use mathlib.Core.Logic.{◌≢◌}
use mathlib.Core.Bool.{Bool, true, false}
use mathlib.Core.List.{List, [], ◌∷◌, ◌++◌}
use native.Mathlib.Omega.{arith}
use native.Mathlib.Decide.{dec_lt}
use lib.ListN.{get_or, set, length-set, length-append}
use lib.Seq.{get_or-set_other}
use lib.Dec.{eqb}
use Rattle.definitions.specs.Tests.{bit}
use Rattle.capability_engine.specs.PoolChain.{Seg, cnt, last, Listed}
use Rattle.capability_engine.specs.PoolOwn.{Own, mine_of, linked, unlinked}
use Rattle.capability_engine.proofs.PoolLinks.{slots-are, bit-same, bit-other, cnt-append, seg-second, seg-insert, seg-remove}

-- a slot is below 1,024
pub seg-high : (nx : List ℕ) (h : ℕ) (ss : List ℕ) (k t : ℕ) → 1024 ≤ t → Seg nx h ss k → cnt t ss ≡ 0
seg-high nx h [] k t l g = refl
seg-high nx h (s ∷ ss) k t l g =
    omega (arith, seg-high nx (get_or nx s 0) ss k t l g.2, bit-other {t = t} {s = s} (λ (e : t ≡ s). omega (arith, g.1)))

pub seg-low : (nx : List ℕ) (h : ℕ) (ss : List ℕ) (k t : ℕ) → Seg nx h ss k → 1 ≤ cnt t ss → t < 1024
seg-low nx h ss k t g n = elim (dec_lt t 1024) [ yes q ↦ q | no q ↦ absurd (omega (arith, seg-high nx h ss k t (omega arith) g)) ]

pub bit_le : (b : Bool) → bit b ≤ 1
bit_le true = omega arith
bit_le false = omega arith

module _ {nx mine free : List ℕ} (o : Own nx mine free) where
  pub own-listed : Listed nx (get_or nx 1024 0) mine
  own-listed = record { size = o.size; seg = o.ring; few = omega (arith, o.few) }

  pub own-mine : mine_of nx ≡ mine
  own-mine = slots-are own-listed

  pub owned : Own nx (mine_of nx) free
  owned = rw own-mine o

  -- with 1,024 in front no slot stands twice either
  pub ring-once : (t : ℕ) → cnt t (1024 ∷ mine) ≤ 1
  ring-once t =
      elim (dec_lt t 1024) [ yes q ↦ omega (arith, o.once t, bit-other {t = t} {s = 1024} (λ e. omega arith)) | no q ↦ omega (arith, bit_le (eqb t 1024), seg-high nx (get_or nx 1024 0) mine 1024 t (omega arith) o.ring) ]

-- the last of p and a, in a ring, is at most 1,024
pub last-le : (nx : List ℕ) (h p : ℕ) (a : List ℕ) (k : ℕ) → Seg nx h a k → p ≤ 1024 → last p a ≤ 1024
last-le nx h p [] k g l = l
last-le nx h p (s ∷ a) k g l = last-le nx (get_or nx s 0) s a k g.2 (omega (arith, g.1))

pub seg-front : (nx : List ℕ) (h : ℕ) (a b : List ℕ) (k : ℕ) → Seg nx h (a ++ b) k → (j : ℕ) × Seg nx h a j
seg-front nx h [] b k g = (h, refl)
seg-front nx h (s ∷ a) b k g = let r = seg-front nx (get_or nx s 0) a b k g.2 in (r.0, (g.0, g.1, r.1))

pub own-last : {nx free : List ℕ} (a b : List ℕ) → Own nx (a ++ b) free → last 1024 a ≤ 1024
own-last {nx} {free} a b o =
    let f = seg-front nx (get_or nx 1024 0) a b 1024 o.ring in last-le nx (get_or nx 1024 0) 1024 a f.0 f.1 (omega arith)

-- a free slot is below 1,024
pub own-first-low : {nx mine free : List ℕ} (x : ℕ) → Own nx mine (x ∷ free) → x < 1024
own-first-low x o = elim (dec_lt x 1024) [ yes q ↦ q | no q ↦ absurd (omega (arith, o.low x (omega arith), bit-same x)) ]

-- the first free slot goes in after the last of a
pub own-insert : (nx a b : List ℕ) (x : ℕ) (free : List ℕ) → Own nx (a ++ b) (x ∷ free)
    → Own (linked nx (last 1024 a) x) (a ++ x ∷ b) free
unfolding linked
own-insert nx a b x free o =
    let lx : x < 1024 = own-first-low x o in
    let zx : cnt x (a ++ b) ≡ 0 = omega (arith, o.once x, bit-same x) in
    let hx : bit (eqb x 1024) ≡ 0 = bit-other {t = x} {s = 1024} (λ e. omega arith) in
    record {
      size = simp length-set o.size;
      ring = seg-insert nx 1024 a x b 1024 (ring-once o) (omega arith) lx (omega (arith, o.size)) (omega (arith, o.size, own-last a b o)) o.ring;
      low = λ t l. omega (arith, o.low t l);
      once = λ t. omega (arith, o.once t, cnt-append t a b, cnt-append t a (x ∷ b));
      few = omega (arith, o.few, length-append a b, length-append a (x ∷ b));
    }

-- the slot after the last of a goes, and is free
pub own-remove : (nx a b : List ℕ) (x : ℕ) (free : List ℕ) → Own nx (a ++ x ∷ b) free
    → Own (unlinked nx (last 1024 a)) (a ++ b) (x ∷ free)
unfolding unlinked
own-remove nx a b x free o =
    let second = seg-second nx 1024 a (x ∷ b) 1024 o.ring in
    let lx : x < 1024 = second.1 in
    record {
      size = simp length-set o.size;
      ring = rw second.0 (seg-remove nx 1024 a x b 1024 (ring-once o) (omega (arith, o.size, own-last a (x ∷ b) o)) o.ring);
      low = λ t l. omega (arith, o.low t l, bit-other {t = t} {s = x} (λ e. omega arith));
      once = λ t. omega (arith, o.once t, cnt-append t a b, cnt-append t a (x ∷ b));
      few = omega (arith, o.few, length-append a b, length-append a (x ∷ b));
    }

pub last_snoc : (p : ℕ) (a : List ℕ) (x : ℕ) → last p (a ++ x ∷ []) ≡ x
last_snoc p [] x = refl
last_snoc p (s ∷ a) x = last_snoc s a x

pub linked-other : (nx : List ℕ) (p x t : ℕ) → t ≢ p → t ≢ x → get_or (linked nx p x) t 0 ≡ get_or nx t 0
unfolding linked
linked-other nx p x t n m = get_or-set_other (set nx x (get_or nx p 0)) p t x 0 n ∙ get_or-set_other nx x t (get_or nx p 0) 0 m

pub unlinked-other : (nx : List ℕ) (p t : ℕ) → t ≢ p → get_or (unlinked nx p) t 0 ≡ get_or nx t 0
unfolding unlinked
unlinked-other nx p t n = get_or-set_other nx p t (get_or nx (get_or nx p 0) 0) 0 n
