-- Turns of the loops that only read.
use Prim.Native.Nat.{ℕ, ◌≤◌, ◌<◌}
use mathlib.Core.Path.{◌≡◌, refl, sym, ap, ◌∙◌}
use mathlib.Core.Bool.{Bool, true, false}
use mathlib.Core.List.{List, [], ◌∷◌, ◌++◌, append_assoc}
use lib.ListN.{get_or}
use Rattle.definitions.specs.Regions.{splits}
use Rattle.definitions.specs.declared.addr.HostAddr.{HostAddr}
use Rattle.definitions.specs.declared.region.Region.{Region}
use Rattle.capability_engine.specs.PoolWords.{region_at}
use Rattle.capability_engine.specs.PoolChain.{last, slots, records, stored_at, Listed, Walkable, All, Passing, Stopped}
use Rattle.capability_engine.specs.RegionPasses.{start_of}
use Rattle.capability_engine.specs.RegionAsks.{fold_from}
use Rattle.capability_engine.proofs.PoolLinks.{listed-step, slots-step, slots-none}
use Rattle.capability_engine.proofs.PoolSlots.{records-append}
use Rattle.capability_engine.proofs.PoolOwns.{last_snoc}

-- the start of the region that has e strictly inside
module _ (e : HostAddr) (nx ws : List ℕ) (cur : ℕ) (w : HostAddr) (g : Listed nx cur (slots nx cur)) (q : start_of e (stored_at nx ws cur) ≡ w) where
  pub start-end : 1024 ≤ cur → e ≡ w
  unfolding start_of
  start-end l = rw (slots-none nx cur g l) at q

  pub start-found : (r : Region) (f : Bool) → cur < 1024 → r ≡ region_at ws cur → f ≡ splits e r → f ≡ true → r.start ≡ w
  unfolding start_of
  start-found r f l er ef h = let h' : splits e r ≡ true = sym ef ∙ h in rw (slots-step nx cur g l, ← er, h') at q

  pub start-on : (r : Region) (f : Bool) → cur < 1024 → r ≡ region_at ws cur → f ≡ splits e r → f ≡ false → start_of e (stored_at nx ws (get_or nx cur 0)) ≡ w
  unfolding start_of
  start-on r f l er ef h = let h' : splits e r ≡ false = sym ef ∙ h in rw (slots-step nx cur g l, ← er, h') at q

-- the last slot of a list
module _ (nx : List ℕ) (cur q w : ℕ) (g : Listed nx cur (slots nx cur)) (e : last q (slots nx cur) ≡ w) where
  pub last_on : cur < 1024 → last cur (slots nx (get_or nx cur 0)) ≡ w
  last_on l = rw (slots-step nx cur g l) at e

  pub last_end : 1024 ≤ cur → q ≡ w
  last_end l = rw (slots-none nx cur g l) at e

-- a fold over the list: what was passed is in a
module _ {A : Type 0} (step : A → Region → A) where
  pub record Folding (nx ws : List ℕ) (cur : ℕ) (a w : A) : Type 0 where
    pub listed : Listed nx cur (slots nx cur)
    pub all : fold_from step a (stored_at nx ws cur) ≡ w

  pub fold-turn : (nx ws : List ℕ) (cur : ℕ) (a b w : A) (r : Region) → Folding nx ws cur a w → cur < 1024 → r ≡ region_at ws cur → b ≡ step a r → Folding nx ws (get_or nx cur 0) b w
  fold-turn nx ws cur a b w r f l er eb =
      record {
        listed = listed-step nx cur f.listed l;
        all = rw (eb, er) (rw (slots-step nx cur f.listed l) at f.all);
      }

  pub fold_end : (nx ws : List ℕ) (cur : ℕ) (a w : A) → Folding nx ws cur a w → 1024 ≤ cur → a ≡ w
  fold_end nx ws cur a w f l = rw (slots-none nx cur f.listed l) at f.all

all_snoc : (P : Region → Type 0) (rs : List Region) (r : Region) → All P rs → P r → All P (rs ++ r ∷ [])
all_snoc P [] r h k = (k, tt)
all_snoc P (q ∷ rs) r h k = (h.0, all_snoc P rs r h.1 k)

-- a walk that passes the regions of which P holds
pub passing-start : {P : Region → Type 0} {nx ws : List ℕ} {h p : ℕ} → Walkable nx ws h → Passing P nx ws h p h p
passing-start w = record { listed = w.listed; done = []; whole = refl; here = refl; each = tt }

module _ {P : Region → Type 0} {nx ws : List ℕ} {h p cur q : ℕ} (g : Passing P nx ws h p cur q) where
  pub passing-turn : cur < 1024 → P (region_at ws cur) → Passing P nx ws h p (get_or nx cur 0) cur
  passing-turn l r =
      record {
        listed = listed-step nx cur g.listed l;
        done = g.done ++ cur ∷ [];
        whole = g.whole ∙ rw (append_assoc g.done (cur ∷ []) (slots nx (get_or nx cur 0))) (ap (λ (t : List ℕ). g.done ++ t) (slots-step nx cur g.listed l));
        here = sym (last_snoc p g.done cur);
        each = rw (records-append ws g.done (cur ∷ [])) (all_snoc P (records ws g.done) (region_at ws cur) g.each r);
      }

  pub passing-end : {Q : Region → Type 0} → 1024 ≤ cur → Stopped P Q nx ws h p q
  passing-end l = record { cur = cur; passing = g; stop = rw (slots-none nx cur g.listed l) tt }

  pub passing-stop : {Q : Region → Type 0} → cur < 1024 → Q (region_at ws cur) → Stopped P Q nx ws h p q
  passing-stop l r = record { cur = cur; passing = g; stop = rw (slots-step nx cur g.listed l) r }
