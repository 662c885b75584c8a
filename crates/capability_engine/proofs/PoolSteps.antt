-- The three elementary passes: a record is written over, one goes in, one goes out.
use Prim.Native.Nat.{ℕ, ◌+◌, ◌≤◌, ◌<◌}
use mathlib.Core.Path.{◌≡◌, sym, subst, ◌≡◌, refl, ap, ap₂, ◌∙◌}
use mathlib.Core.Logic.{◌≢◌}
use mathlib.Core.List.{List, ◌∷◌, ◌++◌}
use native.Mathlib.Omega.{arith}
use lib.ListN.{length, length-append}
use lib.Dec.{eqb}
use Rattle.definitions.specs.declared.region.Region.{Region}
use Rattle.definitions.specs.Tests.{bit}
use Rattle.capability_engine.specs.PoolWords.{put_region, pool_len}
use Rattle.capability_engine.specs.PoolChain.{cnt, last, records}
use Rattle.capability_engine.specs.PoolOwn.{Heap, IsHeap, free_of, Own, linked, unlinked, Popped, Pushed, Pass}
use Rattle.capability_engine.proofs.PoolLinks.{seg-second, bit-same, bit-other, bit-apart, cnt-append, cnt-last}
use Rattle.capability_engine.proofs.PoolSlots.{length-put, at-put-same, at-put-other, records-put, records-append}
use Rattle.capability_engine.proofs.PoolOwns.{own-insert, own-remove, own-first-low, linked-other, unlinked-other}
use Rattle.capability_engine.proofs.PoolPasses.{pass_of}

-- the region of slot s is written over
module _ (nx ws : List ℕ) (fl : Heap) (pre post : List ℕ) (s : ℕ) (r : Region) (o : Own nx (pre ++ s ∷ post) (free_of fl)) (h : IsHeap fl) (lw : length ws ≡ pool_len) where
  pub put-records : records (put_region ws s r) (pre ++ s ∷ post) ≡ records ws pre ++ r ∷ records ws post
  put-records =
      let us = o.once s in
      let cs = cnt-append s pre (s ∷ post) in
      let hs = bit-same s in
      records-append (put_region ws s r) pre (s ∷ post)
      ∙ ap₂ ◌++◌ (records-put ws s r pre (omega arith))
      (ap₂ ◌∷◌ (at-put-same ws s r (seg-second nx 1024 pre (s ∷ post) 1024 o.ring).1 lw) (records-put ws s r post (omega arith)))

  pub pass-put : Pass nx ws fl nx (put_region ws s r) fl (records ws pre ++ r ∷ records ws post)
  pass-put =
      pass_of o o h ws (put_region ws s r) (length-put ws s r ∙ lw) put-records (λ t. refl) refl (λ t l z. refl)
      (λ t l z. at-put-other ws s r t (bit-apart t s (omega (arith, cnt-append t pre (s ∷ post)))))

-- the first free slot goes in after pre, with the region r
module _ (nx ws : List ℕ) (fl fl' : Heap) (pre post : List ℕ) (n : ℕ) (r : Region) (o : Own nx (pre ++ post) (free_of fl)) (p : Popped fl n fl') (lw : length ws ≡ pool_len) where
  o' : Own nx (pre ++ post) (n ∷ free_of fl')
  o' = rw p.free at o

  pub insert-records : records (put_region ws n r) (pre ++ n ∷ post) ≡ records ws pre ++ r ∷ records ws post
  insert-records =
      let un = o'.once n in
      let cn = cnt-append n pre post in
      let hn = bit-same n in
      records-append (put_region ws n r) pre (n ∷ post)
      ∙ ap₂ ◌++◌ (records-put ws n r pre (omega arith)) (ap₂ ◌∷◌ (at-put-same ws n r (own-first-low n o') lw) (records-put ws n r post (omega arith)))

  -- the slot before the place is 1,024 or mine
  before-mine : (t : ℕ) → t < 1024 → cnt t (pre ++ post) ≡ 0 → t ≢ last 1024 pre
  before-mine t l z e =
      let w : 1 ≤ cnt t (1024 ∷ pre) = subst (λ (z : ℕ). 1 ≤ cnt z (1024 ∷ pre)) (sym e) (cnt-last 1024 pre) in
      omega (arith, cnt-append t pre post, bit-other {t = t} {s = 1024} (λ q. omega arith))

  count-free : (t : ℕ) → cnt t (free_of fl) ≡ bit (eqb t n) + cnt t (free_of fl')
  count-free t = ap (cnt t) p.free

  pub pass-insert : Pass nx ws fl (linked nx (last 1024 pre) n) (put_region ws n r) fl' (records ws pre ++ r ∷ records ws post)
  pass-insert =
      pass_of o (own-insert nx pre post n (free_of fl') o') p.heap ws (put_region ws n r) (length-put ws n r ∙ lw) insert-records
      (λ t. omega (arith, count-free t, cnt-append t pre post, cnt-append t pre (n ∷ post)))
      (omega (arith, ap length p.free, length-append pre post, length-append pre (n ∷ post)))
      (λ t l z. linked-other nx (last 1024 pre) n t (before-mine t l (omega arith)) (bit-apart t n (omega (arith, count-free t))))
      (λ t l z. at-put-other ws n r t (bit-apart t n (omega (arith, count-free t))))

-- the slot after pre goes
module _ (nx ws : List ℕ) (fl fl' : Heap) (pre post : List ℕ) (s : ℕ) (o : Own nx (pre ++ s ∷ post) (free_of fl)) (p : Pushed fl s fl') (lw : length ws ≡ pool_len) where
  count-freed : (t : ℕ) → cnt t (free_of fl') ≡ bit (eqb t s) + cnt t (free_of fl)
  count-freed t = ap (cnt t) p.free

  pub removed-own : Own (unlinked nx (last 1024 pre)) (pre ++ post) (free_of fl')
  removed-own = rw p.free (own-remove nx pre post s (free_of fl) o)

  pub pass-remove : Pass nx ws fl (unlinked nx (last 1024 pre)) ws fl' (records ws pre ++ records ws post)
  pass-remove =
      pass_of o removed-own p.heap ws ws lw (records-append ws pre post)
      (λ t. omega (arith, count-freed t, cnt-append t pre post, cnt-append t pre (s ∷ post)))
      (omega (arith, ap length p.free, length-append pre post, length-append pre (s ∷ post)))
      (λ t l z.
      unlinked-other nx (last 1024 pre) t
      (λ e. let w : 1 ≤ cnt t (1024 ∷ pre) = subst (λ (z : ℕ). 1 ≤ cnt z (1024 ∷ pre)) (sym e) (cnt-last 1024 pre) in omega (arith, cnt-append t pre (s ∷ post), bit-other {t = t} {s = 1024} (λ q. omega arith))))
      (λ t l z. refl)
