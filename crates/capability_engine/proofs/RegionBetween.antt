-- An add or a remove that works on a part of the list by itself: what its passes ask, and what they show of the whole list.
use Prim.Native.Nat.{ℕ, ◌+◌, ◌≤◌, ◌<◌}
use mathlib.Core.Path.{◌≡◌, sym, ap, ◌∙◌}
use mathlib.Core.List.{List, [], ◌∷◌, ◌++◌, append_assoc}
use native.Mathlib.Omega.{arith}
use lib.ListN.{get_or, length, length-append, length-map}
use Rattle.definitions.specs.Values.{raise}
use Rattle.definitions.specs.Regions.{cut}
use Rattle.definitions.specs.declared.addr.HostAddr.{HostAddr}
use Rattle.definitions.specs.declared.region.Region.{Region}
use Rattle.definitions.proofs.Lists.{change, peak, added, removed, Runs}
use Rattle.capability_engine.specs.PoolWords.{region_at}
use Rattle.capability_engine.specs.PoolChain.{slots, records, Listed, Walkable, SkipsThrough}
use Rattle.capability_engine.specs.PoolOwn.{Heap, free_of, Own, Ready, Room, mine_of, records_of, Pass, Place, narrowed, widened, Narrows, CanWiden}
use Rattle.capability_engine.specs.RegionPasses.{lowered, AllSmall, CanApplyRemove, CanAddBetween, CanRemoveBetween}
use Rattle.capability_engine.specs.declared.region.Outside.{Outside}
use Rattle.capability_engine.proofs.PoolLinks.{slots-are}
use Rattle.capability_engine.proofs.PoolSlots.{records-append}
use Rattle.capability_engine.proofs.PoolOwns.{own-mine, own-last, owned}
use Rattle.capability_engine.proofs.PoolZips.{own-ahead}
use Rattle.capability_engine.proofs.PoolWindows.{last-append, own-narrow, pass-wide, wide-listed}
use Rattle.capability_engine.proofs.RegionTurns.{small-append}
use Rattle.capability_engine.proofs.RegionWindows.{ordered-first, full-first, runs-rest, cuts-front, peak-front, raise-front, added-front, second-front, removed-front, cuts_back, peak-back, raise-back, added-back, second_back, removed-back}

small-first : (a b : List Region) → AllSmall (a ++ b) → AllSmall a
small-first [] b s = tt
small-first (r ∷ a) b s = (s.0, small-first a b s.1)

module _ (nx ws : List ℕ) (fl : Heap) (a e : HostAddr) (p : ℕ) (ready : Ready nx ws fl) (place : Place (λ r. r.end.0 < a.0) nx ws p) where
  own-place : Own nx (place.pre ++ place.cur) (free_of fl)
  own-place = rw place.whole at ready.own

  pub place-low : p ≤ 1024
  place-low = rw place.here (own-last place.pre place.cur own-place)

  place-listed : Listed nx (get_or nx p 0) place.cur
  place-listed = rw (← place.here) at (own-ahead place.pre place.cur own-place)

  pub place-walk : Walkable nx ws (get_or nx p 0)
  place-walk = record { listed = rw (slots-are place-listed) place-listed; words = ready.words }

  module _ (z : ℕ) (s : SkipsThrough nx ws (get_or nx p 0) p e z) where
    abbrev mid : List ℕ
    mid = s.passing.done

    abbrev post : List ℕ
    post = slots nx s.cur

    cur-is : place.cur ≡ mid ++ post
    cur-is = sym (slots-are place-listed) ∙ s.passing.whole

    own-parts : Own nx (place.pre ++ (mid ++ post)) (free_of fl)
    own-parts = rw cur-is at own-place

    pub place-z : z ≤ 1024
    place-z =
        let o : Own nx ((place.pre ++ mid) ++ post) (free_of fl) = rw (append_assoc place.pre mid post) own-parts in
        rw (s.passing.here, place.here, ← last-append 1024 place.pre mid) (own-last (place.pre ++ mid) post o)

    abbrev before : List Region
    before = records ws place.pre

    abbrev between : List Region
    between = records ws mid

    abbrev behind : List Region
    behind = records ws post

    parts : records_of nx ws ≡ before ++ (between ++ behind)
    parts =
        ap (records ws) (place.whole ∙ ap (λ (t : List ℕ). place.pre ++ t) cur-is) ∙ records-append ws place.pre (mid ++ post)
        ∙ ap (λ (t : List Region). before ++ t) (records-append ws mid post)

    narrow-own : Own (narrowed nx p z) mid (free_of fl)
    narrow-own = own-narrow nx fl place.pre mid post own-parts p z place.here s.passing.here

    narrow-ready : Ready (narrowed nx p z) ws fl
    narrow-ready = record { own = owned narrow-own; heap = ready.heap; words = ready.words }

    narrow-is : records_of (narrowed nx p z) ws ≡ between
    narrow-is = ap (records ws) (own-mine narrow-own)

    -- what fits with the rest of the list fits by itself
    narrow-room : (rs qs : List Region) → rs ≡ before ++ (qs ++ behind) → Room nx fl rs → Room (narrowed nx p z) fl qs
    narrow-room rs qs d r =
        let n : length rs ≡ length before + (length qs + length behind) =
        ap length d ∙ length-append before (qs ++ behind) ∙ ap (λ (k : ℕ). length before + k) (length-append qs behind) in
        let m : length (mine_of nx) ≡ length place.pre + (length mid + length post) =
        ap length (own-mine own-parts) ∙ length-append place.pre (mid ++ post) ∙ ap (λ (k : ℕ). length place.pre + k) (length-append mid post) in
        rw (own-mine narrow-own) (omega (arith, length-map place.pre (region_at ws), length-map post (region_at ws)))

    module _ (off : Outside) (n1 nx' ws' : List ℕ) (fl' : Heap) (rs : List Region) (n : Narrows nx p z off n1) (q : Pass n1 ws fl nx' ws' fl' rs) where
      q1 : Pass (narrowed nx p z) ws fl nx' ws' fl' rs
      q1 = rw n.link at q

      pub widen-asks : CanWiden nx' p off.head
      widen-asks =
          let l = wide-listed nx fl place.pre mid post own-parts p z place.here s.passing.here ws nx' ws' fl' rs q1 in
          record { size = q.ready.own.size; at = place-low; listed = rw n.head (rw (slots-are l) l) }

      widen-done : (n2 : List ℕ) (qs : List Region) → n2 ≡ widened nx' p off.head off.rest → qs ≡ before ++ (rs ++ behind) → Pass nx ws fl n2 ws' fl' qs
      widen-done n2 qs d g =
          rw (d, n.head, n.rest, g, ← append_assoc before rs behind)
          (pass-wide nx fl place.pre mid post own-parts p z place.here s.passing.here ws nx' ws' fl' rs q1)

    module _ (runs : Runs 0 (records_of nx ws)) (ae : a.0 < e.0) where
      le : a.0 ≤ e.0
      le = omega arith

      runs-parts : Runs 0 (before ++ (between ++ behind))
      runs-parts = rw parts at runs

      runs_last : Runs 0 (between ++ behind)
      runs_last = runs-rest 0 before (between ++ behind) runs-parts

      peak-parts : peak a e (records_of nx ws) ≡ before ++ (peak a e between ++ behind)
      peak-parts =
          rw parts (peak-front a e le before (between ++ behind) runs-parts place.each ∙ ap (λ (t : List Region). before ++ t) (peak-back a e le between behind runs_last s.stop))

      raise-parts : (k : ℕ) → change (raise k) a e (peak a e (records_of nx ws)) ≡ before ++ (change (raise k) a e (peak a e between) ++ behind)
      raise-parts k =
          rw parts (raise-front a e le before (between ++ behind) runs-parts place.each (raise k) ∙ ap (λ (t : List Region). before ++ t) (raise-back a e le between behind runs_last s.stop (raise k)))

      added-parts : (k : ℕ) → added a e k (records_of nx ws) ≡ before ++ (added a e k between ++ behind)
      added-parts k =
          rw parts (added-front a e le before (between ++ behind) runs-parts place.each k ∙ ap (λ (t : List Region). before ++ t) (added-back a e le between behind runs_last s.stop k))

      cut_parts : cut a (records_of nx ws) ≡ before ++ (cut a between ++ behind)
      cut_parts =
          rw parts (cuts-front a e le before (between ++ behind) runs-parts place.each ∙ ap (λ (t : List Region). before ++ t) (cuts_back a e le between behind runs_last s.stop))

      second_parts : (k : ℕ) → cut e (lowered k a e (cut a (records_of nx ws))) ≡ before ++ (cut e (lowered k a e (cut a between)) ++ behind)
      second_parts k =
          rw parts (second-front a e le before (between ++ behind) runs-parts place.each k ∙ ap (λ (t : List Region). before ++ t) (second_back a e le between behind runs_last s.stop k))

      removed-parts : (k : ℕ) → removed a e k (records_of nx ws) ≡ before ++ (removed a e k between ++ behind)
      removed-parts k =
          rw parts (removed-front a e le before (between ++ behind) runs-parts place.each k ∙ ap (λ (t : List Region). before ++ t) (removed-back a e le between behind runs_last s.stop k))

module _ (nx ws : List ℕ) (fl : Heap) (a e : HostAddr) (k p : ℕ) (c : CanAddBetween nx ws fl a e k p) (z : ℕ) (s : SkipsThrough nx ws (get_or nx p 0) p e z) where
  pub add-narrow : (n1 : List ℕ) → n1 ≡ narrowed nx p z → Ready n1 ws fl × (Room n1 fl (peak a e (records_of n1 ws)) × AllSmall (change (raise k) a e (peak a e (records_of n1 ws))))
  add-narrow n1 d =
      let b = between nx ws fl a e p c.ready c.place z s in
      let i = narrow-is nx ws fl a e p c.ready c.place z s in
      let r = raise-parts nx ws fl a e p c.ready c.place z s c.runs c.order k in
      rw (d, i) (
        narrow-ready nx ws fl a e p c.ready c.place z s,
        (
          narrow-room nx ws fl a e p c.ready c.place z s _ (peak a e b) (peak-parts nx ws fl a e p c.ready c.place z s c.runs c.order) c.room,
          small-first (change (raise k) a e (peak a e b)) _ (small-append (before nx ws fl a e p c.ready c.place z s) _ (rw r at c.small)),
        ),
      )

  pub add-widen : (off : Outside) (n1 nx' ws' n2 : List ℕ) (fl' : Heap) → Narrows nx p z off n1 → Pass n1 ws fl nx' ws' fl' (added a e k (records_of n1 ws))
      → n2 ≡ widened nx' p off.head off.rest → Pass nx ws fl n2 ws' fl' (added a e k (records_of nx ws))
  add-widen off n1 nx' ws' n2 fl' n q d =
      let i : records_of n1 ws ≡ between nx ws fl a e p c.ready c.place z s = rw n.link (narrow-is nx ws fl a e p c.ready c.place z s) in
      widen-done nx ws fl a e p c.ready c.place z s off n1 nx' ws' fl' _ n q n2 _ d (added-parts nx ws fl a e p c.ready c.place z s c.runs c.order k ∙ rw i)

module _ (nx ws : List ℕ) (fl : Heap) (a e : HostAddr) (k p : ℕ) (c : CanRemoveBetween nx ws fl a e k p) (z : ℕ) (s : SkipsThrough nx ws (get_or nx p 0) p e z) where
  pub remove-narrow : (n1 : List ℕ) → n1 ≡ narrowed nx p z → Ready n1 ws fl × CanApplyRemove n1 ws fl a e k
  remove-narrow n1 d =
      let b = between nx ws fl a e p c.ready c.place z s in
      let i = narrow-is nx ws fl a e p c.ready c.place z s in
      let o = c.applies.order in
      let g = runs_last nx ws fl a e p c.ready c.place z s c.runs o in
      rw d (
        narrow-ready nx ws fl a e p c.ready c.place z s,
        record {
          order = o;
          ordered = rw i (ordered-first 0 b _ g.ordered);
          full = rw i (full-first b _ g.full);
          first = rw i (narrow-room nx ws fl a e p c.ready c.place z s _ (cut a b) (cut_parts nx ws fl a e p c.ready c.place z s c.runs o) c.applies.first);
          second = rw i (narrow-room nx ws fl a e p c.ready c.place z s _ (cut e (lowered k a e (cut a b))) (second_parts nx ws fl a e p c.ready c.place z s c.runs o k) c.applies.second);
        },
      )

  pub remove-widen : (off : Outside) (n1 nx' ws' n2 : List ℕ) (fl' : Heap) → Narrows nx p z off n1 → Pass n1 ws fl nx' ws' fl' (removed a e k (records_of n1 ws))
      → n2 ≡ widened nx' p off.head off.rest → Pass nx ws fl n2 ws' fl' (removed a e k (records_of nx ws))
  remove-widen off n1 nx' ws' n2 fl' n q d =
      let i : records_of n1 ws ≡ between nx ws fl a e p c.ready c.place z s = rw n.link (narrow-is nx ws fl a e p c.ready c.place z s) in
      widen-done nx ws fl a e p c.ready c.place z s off n1 nx' ws' fl' _ n q n2 _ d (removed-parts nx ws fl a e p c.ready c.place z s c.runs c.applies.order k ∙ rw i)
