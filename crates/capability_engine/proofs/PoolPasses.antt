-- Passes over the list that is worked on: how one is shown, and two after another.
use Prim.Native.Nat.{ℕ, ◌+◌, ◌<◌}
use mathlib.Core.Path.{◌≡◌, refl, sym, ◌∙◌}
use mathlib.Core.List.{List}
use lib.ListN.{get_or, length}
use Rattle.definitions.specs.declared.region.Region.{Region}
use Rattle.capability_engine.specs.PoolWords.{region_at, pool_len}
use Rattle.capability_engine.specs.PoolChain.{cnt, records}
use Rattle.capability_engine.specs.PoolOwn.{Heap, IsHeap, free_of, Own, Ready, records_of, Pass}
use Rattle.capability_engine.proofs.PoolOwns.{own-mine, owned}

module _ {nx m nx' m' : List ℕ} {fl fl' : Heap} (o : Own nx m (free_of fl)) (q : Own nx' m' (free_of fl')) (h : IsHeap fl') where
  pub pass_of : (ws ws' : List ℕ) {rs : List Region} → length ws' ≡ pool_len → records ws' m' ≡ rs
      → ((t : ℕ) → cnt t m' + cnt t (free_of fl') ≡ cnt t m + cnt t (free_of fl)) → length m' + length (free_of fl') ≡ length m + length (free_of fl)
      → ((t : ℕ) → t < 1024 → cnt t m + cnt t (free_of fl) ≡ 0 → get_or nx' t 0 ≡ get_or nx t 0)
      → ((t : ℕ) → t < 1024 → cnt t m + cnt t (free_of fl) ≡ 0 → region_at ws' t ≡ region_at ws t) → Pass nx ws fl nx' ws' fl' rs
  pass_of ws ws' l n s t k r =
      record {
        ready = record { own = owned q; heap = h; words = l };
        now = rw (own-mine q) n;
        same = rw (own-mine q, own-mine o) s;
        total = rw (own-mine q, own-mine o) t;
        links = rw (own-mine o) k;
        kept = rw (own-mine o) r;
      }

pub pass-none : (nx ws : List ℕ) (fl : Heap) (rs : List Region) → Ready nx ws fl → rs ≡ records_of nx ws → Pass nx ws fl nx ws fl rs
pass-none nx ws fl rs o e =
    record { ready = o; now = sym e; same = λ t. refl; total = refl; links = λ t _ _. refl; kept = λ t _ _. refl }

pub pass-then : {nx ws nx1 ws1 nx2 ws2 : List ℕ} {fl fl1 fl2 : Heap} {rs1 rs2 : List Region}
    → Pass nx ws fl nx1 ws1 fl1 rs1 → Pass nx1 ws1 fl1 nx2 ws2 fl2 rs2 → Pass nx ws fl nx2 ws2 fl2 rs2
pass-then p q =
    record {
      ready = q.ready;
      now = q.now;
      same = λ t. q.same t ∙ p.same t;
      total = q.total ∙ p.total;
      links = λ t l z. q.links t l (p.same t ∙ z) ∙ p.links t l z;
      kept = λ t l z. q.kept t l (p.same t ∙ z) ∙ p.kept t l z;
    }
