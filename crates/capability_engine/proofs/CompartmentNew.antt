-- Eight empty compartments over a pool whose slots are all free.
use Rattle.std.specs.Prelude.{Option, Some, None}
use Prim.Native.Nat.{ℕ, zero, suc, ◌+◌, ◌≤◌, ◌<◌}
use mathlib.Core.Path.{◌≡◌, subst, ◌≡◌, refl, sym, ap, ap₂, ◌∙◌}
use mathlib.Core.Bool.{Bool, true, false}
use mathlib.Core.List.{List, [], ◌∷◌}
use native.Mathlib.Omega.{arith}
use native.Mathlib.Decide.{ℕ_discrete}
use lib.ListN.{length, replicate}
use lib.Dec.{eqb}
use borrow.Author.Tests.{eqb-true}
use Rattle.free_list.specs.Stack.{up_from}
use Rattle.gen_arena.specs.Grown.{GrownArena, Creates as CreatesArena, created_if, fresh}
use Rattle.gen_arena.specs.declared.GenArena.{GenArena}
use Rattle.definitions.specs.Reckoning.{empty}
use Rattle.definitions.specs.Calls.{start, after_from, after}
use Rattle.definitions.proofs.Tables.{no_table}
use Rattle.definitions.proofs.TableLaws.{shown-empty}
use Rattle.capability_engine.specs.declared.region.RegionTracker.{RegionTracker}
use Rattle.capability_engine.specs.declared.remapper.Remapper.{Remapper}
use Rattle.capability_engine.specs.PoolWords.{pool_len}
use Rattle.capability_engine.specs.PoolChain.{cnt, slots, records}
use Rattle.capability_engine.specs.PoolOwn.{heap, free_of}
use Rattle.capability_engine.specs.RemapHeld as remap
use Rattle.capability_engine.specs.CompartmentGrown.{Holding, Holds, in_lists, all_long, allowances_of, Trackers, Pooled, Remapped, Made, Creates, no_trackers}
use Rattle.capability_engine.proofs.PoolLinks.{slots-are, bit-same, bit-other}
use Rattle.capability_engine.proofs.PoolHeaps.{free-is}

up-low : (x k m : ℕ) → x < k → cnt x (up_from k m) ≡ 0
up-low x k zero l = refl
up-low x k (suc m) l = omega (arith, bit-other {t = x} {s = k} (λ e. omega arith), up-low x (suc k) m (omega arith))

up-once : (x k m : ℕ) → k ≤ x → x < k + m → cnt x (up_from k m) ≡ 1
up-once x k zero l h = absurd (omega arith)
up-once x k (suc m) l h =
    elim (ℕ_discrete x k) [
      | yes e ↦ subst (λ (z : ℕ). cnt z (up_from k (suc m)) ≡ 1) (sym e) (omega (arith, bit-same k, up-low k (suc k) m (omega arith)))
      | no e ↦ omega (arith, bit-other {t = x} {s = k} e, up-once x (suc k) m (omega arith) (omega arith))
    ]

up-long : (k m : ℕ) → length (up_from k m) ≡ m
up-long k zero = refl
up-long k (suc m) = ap suc (up-long (suc k) m)

module _ (nx ws : List ℕ) (size : length nx ≡ 1025) (z : RegionTracker) (ez : (z.head ≡ 1024) × (z.count ≡ 0) × (z.allowance ≡ 128)) where
  none-there : slots nx z.head ≡ []
  none-there = slots-are (record { size = size; seg = ez.0; few = omega arith })

  holds-one : Holding nx ws z empty
  unfolding no_table
  holds-one =
      record {
        listed = rw none-there (record { size = size; seg = ez.0; few = omega arith });
        shown = ap (records ws) none-there ∙ sym shown-empty.records;
        many = ez.1 ∙ ap length (sym shown-empty.records);
      }

  holds-none : (n : ℕ) → Holds nx ws (replicate n z) (replicate n empty)
  holds-none zero = tt
  holds-none (suc n) = (holds-one, holds-none n)

  in-none : (x n : ℕ) → in_lists x nx (replicate n z) ≡ 0
  unfolding in_lists
  in-none x zero = refl
  in-none x (suc n) = omega (arith, ap (cnt x) none-there, in-none x n)

  long-none : (n : ℕ) → all_long nx (replicate n z) ≡ 0
  unfolding all_long
  long-none zero = refl
  long-none (suc n) = omega (arith, ap length none-there, long-none n)

  holds-start : Holds nx ws (replicate 8 z) (after []).compartments
  unfolding after after_from start
  holds-start = holds-none 8

  allowed_all : (n : ℕ) → allowances_of (replicate n z) ≡ replicate n 128
  allowed_all zero = refl
  allowed_all (suc n) = ap₂ ◌∷◌ ez.2 (allowed_all n)

  allowed-start : allowances_of (replicate 8 z) ≡ (after []).allowances
  unfolding after after_from start
  allowed-start = allowed_all 8

  module _ (links gens : List ℕ) (arena : GenArena) (g : GrownArena 1024 links gens arena []) (lw : length ws ≡ pool_len) where
    free_all : free_of (heap links gens arena) ≡ up_from 0 1024
    free_all = free-is (heap links gens arena) [] g

    pooled-new : Pooled ws nx links gens (record { arena = arena; list = replicate 8 z }) []
    pooled-new =
        record {
          next_size = size;
          words_size = lw;
          arena = record { calls = []; grown = g };
          holds = holds-start;
          allowed = allowed-start;
          once = λ x l.
              (let f : cnt x (free_of (heap links gens arena)) ≡ 1 = ap (cnt x) free_all ∙ up-once x 0 1024 (omega arith) (omega arith) in
              omega (arith, in-none x 8));
          total =
              (let f : length (free_of (heap links gens arena)) ≡ 1024 = ap length free_all ∙ up-long 0 1024 in
              omega (arith, long-none 8));
        }

-- eight trackers with nothing in their lists, and eight remappers with no segment
pub empty-trackers : (z : RegionTracker) → (z.head ≡ 1024) × (z.count ≡ 0) × (z.allowance ≡ 128) → ◌≡◌ {A = Trackers} (record { arena = fresh; list = replicate 8 z }) no_trackers
empty-trackers z ez =
    let e : z ≡ record { head = 1024; count = 0; allowance = 128 } = λ i. record { head = ez.0 i; count = ez.1 i; allowance = ez.2 i } in
    ap (λ (y : RegionTracker). record { arena = fresh; list = replicate 8 y }) e

bare-all : (m : Remapper) → remap.Holds m [] → (n : ℕ) → Remapped (replicate n m) (replicate n empty)
unfolding empty
bare-all m h zero = tt
bare-all m h (suc n) = (h, bare-all m h n)

pub bare-remappers : (m : Remapper) → remap.Holds m [] → Remapped (replicate 8 m) start.compartments
unfolding start
bare-remappers m h = bare-all m h 8

bare-grown : (m : Remapper) → remap.Holds m [] → Remapped (replicate 8 m) (after []).compartments
unfolding after after_from
bare-grown m h = bare-remappers m h

module _ (words nx links gens links' gens' : List ℕ) (r : Option GenArena) (c : CreatesArena links links' gens gens' r) (ll : length links ≡ 1024) where
  pub made-new : length words ≡ pool_len → length nx ≡ 1025 → (z : RegionTracker) → (z.head ≡ 1024) × (z.count ≡ 0) × (z.allowance ≡ 128) → (m : Remapper) → remap.Holds m [] → (arena : GenArena) → r ≡ Some arena
      → Creates words nx links gens links' gens' (Some (record { arena = arena; trackers = replicate 8 z; remappers = replicate 8 m }))
  made-new lw ln z ez m hm arena e = go (eqb (length links) (length gens)) refl
    where
      go : (b : Bool) → eqb (length links) (length gens) ≡ b → Creates words nx links gens links' gens' (Some (record { arena = arena; trackers = replicate 8 z; remappers = replicate 8 m }))
      go false d = absurd (let w : ◌≡◌ {A = Option GenArena} (Some arena) None = sym e ∙ c.answer ∙ ap created_if d in let y : ◌≡◌ {A = ℕ} 0 1 = cc in omega arith)
      go true d =
          let w : ◌≡◌ {A = Option GenArena} (Some arena) (Some fresh) = sym e ∙ c.answer ∙ ap created_if d in
          let ea : arena ≡ fresh = cc in
          let g : GrownArena 1024 links' gens' fresh [] = rw ll at (c.grown (eqb-true (length links) (length gens) d)) in
          record {
            made = λ t q.
                (let same : record { arena = arena; trackers = replicate 8 z; remappers = replicate 8 m } ≡ t = cc in
                subst (Made words nx links' gens') same (record {
                  empty = rw ea (empty-trackers z ez);
                  bare = bare-remappers m hm;
                  grown = record { pooled = pooled-new nx words ln z ez links' gens' arena (rw ea g) lw; remapped = bare-grown m hm };
                }));
            sized = λ _. refl;
            kept = λ h. absurd (cc);
          }
