-- Laws of the words: a record that is stored is read back, and the others stay.
use Prim.Native.Nat.{ℕ, zero, suc, ◌+◌, ◌*◌, ◌≤◌, ◌<◌}
use mathlib.Core.Path.{◌≡◌, refl, ap, ap₂, ◌∙◌}
use mathlib.Core.Logic.{◌≢◌, ◌⊎◌, inl, inr, ⊎_elim}
use native.Mathlib.Nat.{add-zero, add-suc, suc-add}
use native.Mathlib.Decide.{dec_lt}
use mathlib.Core.List.{List, [], ◌∷◌, ◌++◌}
use native.Mathlib.Omega.{arith}
use lib.ListN.{get_or, length, set, length-set}
use native.Mathlib.Numerals.{towards_suc}
use lib.Seq.{sets, length-sets, get_or-set_same, get_or-set_other, set-get_or}
use borrow.Author.Tests.{ltb-true}
use Rattle.definitions.specs.Tests.{◌<?◌}
use Rattle.definitions.specs.Rights.{Right, RIGHTS, counters_of}
use Rattle.definitions.specs.Pages.{region_group, record_len}
use Rattle.definitions.specs.declared.region.Region.{Region}
use Rattle.definitions.proofs.RightLaws.{each_right}
use Rattle.definitions.proofs.PageLaws.{record-long}
use Rattle.capability_engine.specs.PoolWords.{pool_len, place, region_at, put_region}
use Rattle.capability_engine.specs.PoolChain.{cnt, records}
use Rattle.capability_engine.proofs.PoolLinks.{bit-same}

-- a run of stores, read outside it and in it
sets-out : (vs ws : List ℕ) (b j : ℕ) → (j < b) ⊎ (b + length vs ≤ j) → get_or (sets ws b vs) j 0 ≡ get_or ws j 0
sets-out [] ws b j n = refl
sets-out (v ∷ vs) ws b j n =
    sets-out vs (set ws b v) (suc b) j (⊎_elim (λ l. inl (omega arith)) (λ l. inr (omega arith)) n)
    ∙ get_or-set_other ws b j v 0 (λ (e : j ≡ b). ⊎_elim (λ (l : j < b). omega arith) (λ (l : b + suc (length vs) ≤ j). omega arith) n)

sets-in : (vs ws : List ℕ) (b d : ℕ) → d < length vs → b + length vs ≤ length ws → get_or (sets ws b vs) (b + d) 0 ≡ get_or vs d 0
sets-in [] ws b d l f = absurd (omega arith)
sets-in (v ∷ vs) ws b zero l f =
    rw (add-zero b) (sets-out vs (set ws b v) (suc b) b (inl (omega arith)) ∙ get_or-set_same ws b v 0 (omega arith))
sets-in (v ∷ vs) ws b (suc d) l f =
    rw (add-suc b d, ← suc-add b d) (sets-in vs (set ws b v) (suc b) d (omega arith) (simp length-set (omega arith)))

-- the counts lie among a record's words
place-low : (t : Right) → place t < record_len
unfolding RIGHTS
place-low t = ltb-true (place t) record_len (each_right (λ t. place t <? record_len) refl t)

-- the words of slot j stay, where another is written
far : (ws : List ℕ) (i : ℕ) (r : Region) (j d : ℕ) → j ≢ i → d < record_len
    → get_or (put_region ws i r) (record_len * j + d) 0 ≡ get_or ws (record_len * j + d) 0
unfolding put_region
far ws i r j d n l =
    sets-out (region_group r) ws (record_len * i) (record_len * j + d)
    (elim (dec_lt j i) [ yes q ↦ inl (omega arith) | no q ↦ inr (omega (arith, record-long r)) ])

far-0 : (ws : List ℕ) (i : ℕ) (r : Region) (j : ℕ) → j ≢ i → get_or (put_region ws i r) (record_len * j) 0 ≡ get_or ws (record_len * j) 0
far-0 ws i r j n = rw add-zero at (far ws i r j 0 n (omega arith))

-- word d of slot i is the region's
near : (ws : List ℕ) (i : ℕ) (r : Region) (d : ℕ) → i < 1024 → length ws ≡ pool_len → d < record_len
    → get_or (put_region ws i r) (record_len * i + d) 0 ≡ get_or (region_group r) d 0
unfolding put_region
near ws i r d l s k =
    sets-in (region_group r) ws (record_len * i) d (omega (arith, record-long r)) (omega (arith, record-long r))

near-0 : (ws : List ℕ) (i : ℕ) (r : Region) → i < 1024 → length ws ≡ pool_len → get_or (put_region ws i r) (record_len * i) 0 ≡ r.start.0
near-0 ws i r l s = rw add-zero at (near ws i r 0 l s (omega arith))

pub length-put : (ws : List ℕ) (i : ℕ) (r : Region) → length (put_region ws i r) ≡ length ws
unfolding put_region
length-put ws i r = length-sets ws (record_len * i) (region_group r)

pub at-put-other : (ws : List ℕ) (i : ℕ) (r : Region) (j : ℕ) → j ≢ i → region_at (put_region ws i r) j ≡ region_at ws j
unfolding region_at
at-put-other ws i r j n = λ k. record {
  start = record { 0 = far-0 ws i r j n k };
  end = record { 0 = far ws i r j 1 n (omega arith) k };
  values = record {
    refcount = far ws i r j 2 n (omega arith) k;
    counters = counters_of (λ t. far ws i r j (place t) n (place-low t) k);
  };
}

pub at-put-same : (ws : List ℕ) (i : ℕ) (r : Region) → i < 1024 → length ws ≡ pool_len → region_at (put_region ws i r) i ≡ r
unfolding region_at RIGHTS
at-put-same ws i r l s = λ k. record {
  start = record { 0 = near-0 ws i r l s k };
  end = record { 0 = near ws i r 1 l s (omega arith) k };
  values = record {
    refcount = near ws i r 2 l s (omega arith) k;
    counters = counters_of (λ t. near ws i r (place t) l s (place-low t) k);
  };
}

-- a region that is written where it is changes nothing
abbrev words_from : List ℕ → ℕ → ℕ → List ℕ
words_from ws b zero = []
words_from ws b (suc n) = get_or ws b 0 ∷ words_from ws (suc b) n

sets-own : (ws : List ℕ) (b n : ℕ) → sets ws b (words_from ws b n) ≡ ws
sets-own ws b zero = refl
sets-own ws b (suc n) = ap (λ l. sets l (suc b) (words_from ws (suc b) n)) (set-get_or ws b 0) ∙ sets-own ws (suc b) n

put-own : (ws : List ℕ) (i : ℕ) → put_region ws i (region_at ws i) ≡ ws
unfolding put_region region_at RIGHTS
put-own ws i = simp towards_suc (sets-own ws (record_len * i) record_len)

pub put-there : (ws : List ℕ) (i : ℕ) (r : Region) → r ≡ region_at ws i → ws ≡ put_region ws i r
put-there ws i r e = rw (e, put-own ws i)

-- the records read along slots: only those slots matter
pub records-frame : (ws wt : List ℕ) (ss : List ℕ) → ((t : ℕ) → 1 ≤ cnt t ss → region_at wt t ≡ region_at ws t) → records wt ss ≡ records ws ss
records-frame ws wt [] e = refl
records-frame ws wt (s ∷ ss) e =
    ap₂ (λ (r : Region) (rs : List Region). r ∷ rs) (e s (omega (arith, bit-same s))) (records-frame ws wt ss (λ t n. e t (omega arith)))

pub records-put : (ws : List ℕ) (i : ℕ) (r : Region) (ss : List ℕ) → cnt i ss ≡ 0 → records (put_region ws i r) ss ≡ records ws ss
records-put ws i r ss z =
    records-frame ws (put_region ws i r) ss (λ t n. at-put-other ws i r t (λ e. let w : 1 ≤ cnt i ss = rw e at n in omega arith))

pub records-append : (ws : List ℕ) (a b : List ℕ) → records ws (a ++ b) ≡ records ws a ++ records ws b
records-append ws [] b = refl
records-append ws (s ∷ a) b = ap (λ (l : List Region). region_at ws s ∷ l) (records-append ws a b)
