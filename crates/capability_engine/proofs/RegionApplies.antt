-- The passes of an add and of a remove, one after another.
use Prim.Native.Nat.{ℕ, ◌≤◌}
use mathlib.Core.Path.{◌≡◌, ap, ◌∙◌}
use mathlib.Core.List.{List}
use native.Mathlib.Omega.{arith}
use lib.ListN.{get_or, length}
use Rattle.definitions.specs.Values.{raise}
use Rattle.definitions.specs.Regions.{joined, cut}
use Rattle.definitions.specs.declared.addr.HostAddr.{HostAddr}
use Rattle.definitions.specs.declared.region.Region.{Region}
use Rattle.definitions.proofs.Lists.{fill, change, peak, added, removed}
use Rattle.definitions.proofs.RegionLaws.{cut-ordered, cut-uncut}
use Rattle.definitions.proofs.ChangeLaws.{cut-full}
use Rattle.definitions.proofs.PeakLaws.{length_cut}
use Rattle.capability_engine.specs.PoolChain.{Walkable, stored_at}
use Rattle.capability_engine.specs.PoolOwn.{Heap, Ready, Room, records_of, Pass}
use Rattle.capability_engine.specs.RegionPasses.{lowered, start_of, AllSmall, CanApplyRemove}
use Rattle.capability_engine.proofs.PoolOwns.{own-listed}
use Rattle.capability_engine.proofs.PoolPasses.{pass-then}
use Rattle.capability_engine.proofs.RegionTurns.{fill-longer}
use Rattle.capability_engine.proofs.RegionTwice.{twice}

cut-longer : (y : HostAddr) (rs : List Region) → length rs ≤ length (cut y rs)
cut-longer y rs = omega (arith, length_cut y rs)

pub ready_links : (fl : Heap) (nx ws : List ℕ) → Ready nx ws fl → length fl.links ≡ 1024
ready_links fl nx ws r = r.heap.grown.list.size

pub ready-walk : {fl : Heap} {nx ws : List ℕ} → Ready nx ws fl → Walkable nx ws (get_or nx 1024 0)
ready-walk r = record { listed = own-listed r.own; words = r.words }

module _ (nx ws : List ℕ) (fl : Heap) (a e : HostAddr) (k : ℕ) (room : Room nx fl (peak a e (records_of nx ws))) where
  pub add-room : Room nx fl (cut a (records_of nx ws))
  unfolding peak
  add-room = omega (arith, cut-longer e (cut a (records_of nx ws)), fill-longer a e (cut e (cut a (records_of nx ws))))

  pub add-first : Ready nx ws fl → Ready nx ws fl × Room nx fl (cut a (records_of nx ws))
  add-first r = (r, add-room)

  module _ (nx1 ws1 : List ℕ) (fl1 : Heap) (p : Pass nx ws fl nx1 ws1 fl1 (cut a (records_of nx ws))) where
    pub add-room2 : Room nx1 fl1 (cut e (records_of nx1 ws1))
    unfolding peak
    add-room2 = rw (p.now, p.total) (omega (arith, fill-longer a e (cut e (cut a (records_of nx ws)))))

    module _ (nx2 ws2 : List ℕ) (fl2 : Heap) (p2 : Pass nx1 ws1 fl1 nx2 ws2 fl2 (cut e (records_of nx1 ws1))) where
      is_cut : records_of nx2 ws2 ≡ cut e (cut a (records_of nx ws))
      is_cut = p2.now ∙ ap (cut e) p.now

      pub add-room3 : Room nx2 fl2 (fill a e (records_of nx2 ws2))
      unfolding peak
      add-room3 = rw (is_cut, p2.total, p.total) room

      module _ (nx3 ws3 : List ℕ) (fl3 : Heap) (p3 : Pass nx2 ws2 fl2 nx3 ws3 fl3 (fill a e (records_of nx2 ws2))) where
        is-peak : records_of nx3 ws3 ≡ peak a e (records_of nx ws)
        unfolding peak
        is-peak = p3.now ∙ ap (fill a e) is_cut

        pub add_small : AllSmall (change (raise k) a e (peak a e (records_of nx ws))) → AllSmall (change (raise k) a e (records_of nx3 ws3))
        add_small s = rw is-peak s

        pub add_done : (ws4 nx5 ws5 : List ℕ) (fl5 : Heap) → Pass nx3 ws3 fl3 nx3 ws4 fl3 (change (raise k) a e (records_of nx3 ws3))
            → Pass nx3 ws4 fl3 nx5 ws5 fl5 (joined (records_of nx3 ws4)) → Pass nx ws fl nx5 ws5 fl5 (added a e k (records_of nx ws))
        unfolding added
        add_done ws4 nx5 ws5 fl5 p4 p5 =
            let q = pass-then p (pass-then p2 (pass-then p3 (pass-then p4 p5))) in
            rw (← is-peak, ← p4.now) q

module _ (nx ws : List ℕ) (fl : Heap) (a e : HostAddr) (k : ℕ) (c : CanApplyRemove nx ws fl a e k) (nx1 ws1 nx2 ws2 : List ℕ) (fl1 fl2 : Heap)
    (p : Pass nx ws fl nx1 ws1 fl1 (cut a (records_of nx ws))) (p2 : Pass nx1 ws1 fl1 nx2 ws2 fl2 (lowered k a e (records_of nx1 ws1))) where
  is-low : records_of nx2 ws2 ≡ lowered k a e (cut a (records_of nx ws))
  is-low = p2.now ∙ ap (lowered k a e) p.now

  pub remove-room : Room nx2 fl2 (cut e (records_of nx2 ws2))
  remove-room = rw (is-low, p2.total, p.total) c.second

  whole : lowered k (start_of e (records_of nx2 ws2)) e (cut e (records_of nx2 ws2)) ≡ lowered k a e (cut e (cut a (records_of nx ws)))
  whole =
      rw is-low
      (twice k a e c.order 0 (cut a (records_of nx ws)) (cut-ordered a 0 (records_of nx ws) c.ordered) (cut-full a (records_of nx ws) c.full)
      (cut-uncut a 0 (records_of nx ws) c.ordered))

  pub remove-done : (b : HostAddr) (nx3 ws3 nx4 ws4 nx5 ws5 : List ℕ) (fl3 fl4 fl5 : Heap) → b ≡ start_of e (stored_at nx2 ws2 (get_or nx2 1024 0))
      → Pass nx2 ws2 fl2 nx3 ws3 fl3 (cut e (records_of nx2 ws2)) → Pass nx3 ws3 fl3 nx4 ws4 fl4 (lowered k b e (records_of nx3 ws3))
      → Pass nx4 ws4 fl4 nx5 ws5 fl5 (joined (records_of nx4 ws4)) → Pass nx ws fl nx5 ws5 fl5 (removed a e k (records_of nx ws))
  unfolding removed lowered
  remove-done b nx3 ws3 nx4 ws4 nx5 ws5 fl3 fl4 fl5 eb p3 p4 p5 =
      let q = pass-then p (pass-then p2 (pass-then p3 (pass-then p4 p5))) in
      let r : records_of nx4 ws4 ≡ lowered k a e (cut e (cut a (records_of nx ws))) = p4.now ∙ rw (eb, p3.now) whole in
      rw r at q
