-- A loop that goes along the list and changes it. At the loop's head the slots pre lie behind, q being the last of them
-- (1,024 if there is none), and cur before it; rs, the regions that are wanted at the end, are those of pre and then G of
-- those of cur.
use Prim.Native.Nat.{ℕ, suc, ◌+◌, ◌≤◌, ◌<◌}
use mathlib.Core.Path.{◌≡◌, refl, sym, ap, ◌∙◌}
use mathlib.Core.List.{List, [], ◌∷◌, ◌++◌, append_assoc}
use native.Mathlib.Omega.{arith}
use lib.ListN.{get_or, length, length-append, length-map}
use Rattle.definitions.specs.declared.region.Region.{Region}
use Rattle.capability_engine.specs.PoolWords.{region_at, put_region, pool_len}
use Rattle.capability_engine.specs.PoolChain.{last, slots, records, Listed}
use Rattle.capability_engine.specs.PoolOwn.{Heap, free_of, Own, Ready, Room, mine_of, records_of, linked, unlinked, Popped, Pushed, Pass, CanInsert, InsertsRegion, CanRemove}
use Rattle.capability_engine.proofs.PoolLinks.{seg-second, bit-same, cnt-append, slots-are, opened, closed}
use Rattle.capability_engine.proofs.PoolSlots.{at-put-same, records-put, records-append}
use Rattle.capability_engine.proofs.PoolOwns.{own-insert, own-first-low, own-last, last_snoc, own-mine}
use Rattle.capability_engine.proofs.PoolPasses.{pass-then, pass-none}
use Rattle.capability_engine.proofs.PoolSteps.{pass-put, pass-insert, pass-remove, removed-own}

pub record Zip (nx0 ws0 : List ℕ) (fl0 : Heap) (nx ws : List ℕ) (fl : Heap) (q : ℕ) (G : List Region → List Region) (rs : List Region) : Type 0 where
  pub pre : List ℕ
  pub cur : List ℕ
  pub pass : Pass nx0 ws0 fl0 nx ws fl (records_of nx ws)
  pub own : Own nx (pre ++ cur) (free_of fl)
  pub here : q ≡ last 1024 pre
  pub goal : rs ≡ records ws pre ++ G (records ws cur)

-- the same, with x the first of cur
pub record ZipAt (nx0 ws0 : List ℕ) (fl0 : Heap) (nx ws : List ℕ) (fl : Heap) (q x : ℕ) (G : List Region → List Region) (rs : List Region) : Type 0 where
  pub pre : List ℕ
  pub post : List ℕ
  pub pass : Pass nx0 ws0 fl0 nx ws fl (records_of nx ws)
  pub own : Own nx (pre ++ x ∷ post) (free_of fl)
  pub here : q ≡ last 1024 pre
  pub goal : rs ≡ records ws pre ++ G (region_at ws x ∷ records ws post)

-- the same, with cur the slots ahead, which hold the regions ks and are as many as n
pub record ZipOf (nx0 ws0 : List ℕ) (fl0 : Heap) (nx ws : List ℕ) (fl : Heap) (q : ℕ) (G : List Region → List Region) (rs : List Region) (cur : List ℕ) (ks : List Region) (n : ℕ) : Type 0 where
  pub pre : List ℕ
  pub pass : Pass nx0 ws0 fl0 nx ws fl (records_of nx ws)
  pub own : Own nx (pre ++ cur) (free_of fl)
  pub here : q ≡ last 1024 pre
  pub goal : rs ≡ records ws pre ++ G (records ws cur)
  pub kept : records ws cur ≡ ks
  pub before : length (slots nx (get_or nx q 0)) ≡ n

-- how many slots lie after q
abbrev pub ahead : List ℕ → ℕ → ℕ
ahead nx q = length (slots nx (get_or nx q 0))

pub own-ahead : {nx free : List ℕ} (pre cur : List ℕ) → Own nx (pre ++ cur) free → Listed nx (get_or nx (last 1024 pre) 0) cur
own-ahead {nx} {free} pre cur o =
    record { size = o.size; seg = seg-second nx 1024 pre cur 1024 o.ring; few = omega (arith, o.few, length-append pre cur) }

ahead-is : {nx free : List ℕ} (pre cur : List ℕ) → Own nx (pre ++ cur) free → ahead nx (last 1024 pre) ≡ length cur
ahead-is pre cur o = ap length (slots-are (own-ahead pre cur o))

pass-now : {nx ws nx' ws' : List ℕ} {fl fl' : Heap} {rs : List Region} → Pass nx ws fl nx' ws' fl' rs → Pass nx ws fl nx' ws' fl' (records_of nx' ws')
pass-now p = record { ready = p.ready; now = refl; same = p.same; total = p.total; links = p.links; kept = p.kept }

pass-with : {nx ws nx' ws' : List ℕ} {fl fl' : Heap} {rs qs : List Region} → Pass nx ws fl nx' ws' fl' qs → records_of nx' ws' ≡ rs → Pass nx ws fl nx' ws' fl' rs
pass-with p e = record { ready = p.ready; now = e; same = p.same; total = p.total; links = p.links; kept = p.kept }

pub zip_start : (nx ws : List ℕ) (fl : Heap) (G : List Region → List Region) → Ready nx ws fl → Zip nx ws fl nx ws fl 1024 G (G (records_of nx ws))
zip_start nx ws fl G o = record { pre = []; cur = mine_of nx; pass = pass-none nx ws fl (records_of nx ws) o refl; own = o.own; here = refl; goal = refl }

snoc-records : (ws pre : List ℕ) (x : ℕ) (l : List Region) → records ws (pre ++ x ∷ []) ++ l ≡ records ws pre ++ region_at ws x ∷ l
snoc-records ws pre x l = rw (records-append ws pre (x ∷ []), append_assoc (records ws pre) (region_at ws x ∷ []) l)

module _ {nx0 ws0 nx ws : List ℕ} {fl0 fl : Heap} {q : ℕ} {G : List Region → List Region} {rs : List Region} where
  pub zip-le : Zip nx0 ws0 fl0 nx ws fl q G rs → q ≤ 1024
  zip-le z = rw z.here (own-last z.pre z.cur z.own)

  pub zip-lt : Zip nx0 ws0 fl0 nx ws fl q G rs → q < length nx
  zip-lt z = omega (arith, zip-le z, z.own.size)

  -- what is left is as it is wanted
  pub zip-stop : (z : Zip nx0 ws0 fl0 nx ws fl q G rs) → G (records ws z.cur) ≡ records ws z.cur → Pass nx0 ws0 fl0 nx ws fl rs
  zip-stop z e = pass-with z.pass (rw (z.goal, e, ← records-append ws z.pre z.cur) (ap (records ws) (own-mine z.own)))

  -- what lies before, by its first slot
  pub zip-none : (z : Zip nx0 ws0 fl0 nx ws fl q G rs) → 1024 ≤ get_or nx q 0 → z.cur ≡ []
  zip-none z l = closed z.cur (rw (← z.here) at (own-ahead z.pre z.cur z.own)) l

  pub zip_end : (z : Zip nx0 ws0 fl0 nx ws fl q G rs) → 1024 ≤ get_or nx q 0 → G [] ≡ [] → Pass nx0 ws0 fl0 nx ws fl rs
  zip_end z l e = zip-stop z (rw (zip-none z l) e)

  pub zip-open : (z : Zip nx0 ws0 fl0 nx ws fl q G rs) → get_or nx q 0 < 1024 → ZipAt nx0 ws0 fl0 nx ws fl q (get_or nx q 0) G rs
  zip-open z l =
      let o = opened z.cur (rw (← z.here) at (own-ahead z.pre z.cur z.own)) l in
      record {
        pre = z.pre;
        post = o.rest;
        pass = z.pass;
        here = z.here;
        own = rw o.whole at z.own;
        goal = rw o.whole at z.goal;
      }

  -- the same, not opened
  abbrev pub zat-zip : (x : ℕ) (z : ZipAt nx0 ws0 fl0 nx ws fl q x G rs) → Zip nx0 ws0 fl0 nx ws fl q G rs
  zat-zip x z = record { pre = z.pre; cur = x ∷ z.post; pass = z.pass; own = z.own; here = z.here; goal = z.goal }

  zat-ahead : (x : ℕ) (z : ZipAt nx0 ws0 fl0 nx ws fl q x G rs) → ahead nx q ≡ suc (length z.post)
  zat-ahead x z = rw z.here (ahead-is z.pre (x ∷ z.post) z.own)

  zat-snoc : (x : ℕ) (z : ZipAt nx0 ws0 fl0 nx ws fl q x G rs) → Own nx ((z.pre ++ x ∷ []) ++ z.post) (free_of fl)
  zat-snoc x z = rw (append_assoc z.pre (x ∷ []) z.post) z.own

  -- x is passed over
  zat-skip-to : (x : ℕ) (G' : List Region → List Region) (z : ZipAt nx0 ws0 fl0 nx ws fl q x G rs)
      → G (region_at ws x ∷ records ws z.post) ≡ region_at ws x ∷ G' (records ws z.post) → Zip nx0 ws0 fl0 nx ws fl x G' rs × (ahead nx x < ahead nx q)
  zat-skip-to x G' z e =
      let l : last 1024 (z.pre ++ x ∷ []) ≡ x = last_snoc 1024 z.pre x in
      let o = zat-snoc x z in
      let a : ahead nx x ≡ length z.post = rw l at (ahead-is (z.pre ++ x ∷ []) z.post o) in (
        record {
          pre = z.pre ++ x ∷ [];
          cur = z.post;
          pass = z.pass;
          own = o;
          here = sym l;
          goal = z.goal ∙ rw e (sym (snoc-records ws z.pre x (G' (records ws z.post))));
        },
        omega (arith, zat-ahead x z),
      )

  pub zat-skip : (x : ℕ) (G' : List Region → List Region) (z : ZipAt nx0 ws0 fl0 nx ws fl q x G rs)
      → ((t : List Region) → G (region_at ws x ∷ t) ≡ region_at ws x ∷ G' t) → Zip nx0 ws0 fl0 nx ws fl x G' rs × (ahead nx x < ahead nx q)
  zat-skip x G' z e = zat-skip-to x G' z (e (records ws z.post))

  zat-next : (x : ℕ) (z : ZipAt nx0 ws0 fl0 nx ws fl q x G rs) → Listed nx (get_or nx x 0) z.post
  zat-next x z = rw (last_snoc 1024 z.pre x) at (own-ahead (z.pre ++ x ∷ []) z.post (zat-snoc x z))

  -- the same, with a look at y, which follows x
  pub zat-skip-by : (x y : ℕ) (G' : List Region → List Region) (z : ZipAt nx0 ws0 fl0 nx ws fl q x G rs) → y ≡ get_or nx x 0 → y < 1024
      → ((t : List Region) → G (region_at ws x ∷ region_at ws y ∷ t) ≡ region_at ws x ∷ G' (region_at ws y ∷ t)) → Zip nx0 ws0 fl0 nx ws fl x G' rs × (ahead nx x < ahead nx q)
  zat-skip-by x y G' z ey ly e =
      let op = opened z.post (zat-next x z) (rw (← ey) ly) in
      let eb : z.post ≡ y ∷ op.rest = op.whole ∙ ap (λ (h : ℕ). h ∷ op.rest) (sym ey) in
      zat-skip-to x G' z (rw eb (e (records ws op.rest)))

  -- x is the last
  pub zat-last : (x : ℕ) (z : ZipAt nx0 ws0 fl0 nx ws fl q x G rs) → 1024 ≤ get_or nx x 0 → G (region_at ws x ∷ []) ≡ region_at ws x ∷ [] → Pass nx0 ws0 fl0 nx ws fl rs
  zat-last x z l e =
      let none : z.post ≡ [] = closed z.post (zat-next x z) l in
      pass-with z.pass
      (ap (records ws) (own-mine z.own) ∙ records-append ws z.pre (x ∷ z.post) ∙ sym (z.goal ∙ rw none (ap (λ (t : List Region). records ws z.pre ++ t) e)))

  -- x is written over, and passed
  pub zat-put : (ws' : List ℕ) (x : ℕ) (r : Region) (G' : List Region → List Region) (z : ZipAt nx0 ws0 fl0 nx ws fl q x G rs) → ws' ≡ put_region ws x r
      → ((t : List Region) → G (region_at ws x ∷ t) ≡ r ∷ G' t) → Zip nx0 ws0 fl0 nx ws' fl x G' rs × (ahead nx x < ahead nx q)
  zat-put ws' x r G' z ew e =
      let lw : length ws ≡ pool_len = z.pass.ready.words in
      let l : last 1024 (z.pre ++ x ∷ []) ≡ x = last_snoc 1024 z.pre x in
      let o = zat-snoc x z in
      let a : ahead nx x ≡ length z.post = rw l at (ahead-is (z.pre ++ x ∷ []) z.post o) in
      let us = z.own.once x in
      let cs = cnt-append x z.pre (x ∷ z.post) in
      let hs = bit-same x in
      let e1 : records (put_region ws x r) z.pre ≡ records ws z.pre = records-put ws x r z.pre (omega arith) in
      let e2 : records (put_region ws x r) z.post ≡ records ws z.post = records-put ws x r z.post (omega arith) in
      let e3 : region_at (put_region ws x r) x ≡ r = at-put-same ws x r (seg-second nx 1024 z.pre (x ∷ z.post) 1024 z.own.ring).1 lw in (
        record {
          pre = z.pre ++ x ∷ [];
          cur = z.post;
          own = o;
          here = sym l;
          pass = rw ew (pass-now (pass-then z.pass (pass-put nx ws fl z.pre z.post x r z.own z.pass.ready.heap lw)));
          goal = z.goal ∙ rw (e (records ws z.post), ew, snoc-records (put_region ws x r) z.pre x (G' (records (put_region ws x r) z.post)), e1, e2, e3);
        },
        omega (arith, zat-ahead x z),
      )

  -- what taking x out asks, x being after q or after p, which follows q
  pub zat-removes : (x : ℕ) (z : ZipAt nx0 ws0 fl0 nx ws fl q x G rs) → x ≡ get_or nx q 0 → CanRemove nx fl q
  zat-removes x z ex =
      let l : x < 1024 = (seg-second nx 1024 z.pre (x ∷ z.post) 1024 z.own.ring).1 in
      record {
        size = z.own.size;
        at = zip-le (zat-zip x z);
        slot = rw ex at l;
        heap = z.pass.ready.heap;
        used = rw (← ex) (omega (arith, z.own.once x, cnt-append x z.pre (x ∷ z.post), bit-same x));
      }

  -- x goes
  pub zat-remove : (nx' : List ℕ) (fl' : Heap) (x : ℕ) (G' : List Region → List Region) (z : ZipAt nx0 ws0 fl0 nx ws fl q x G rs) → nx' ≡ unlinked nx q → Pushed fl x fl'
      → ((t : List Region) → G (region_at ws x ∷ t) ≡ G' t) → Zip nx0 ws0 fl0 nx' ws fl' q G' rs × (ahead nx' q < ahead nx q)
  zat-remove nx' fl' x G' z ex p e =
      let lw : length ws ≡ pool_len = z.pass.ready.words in
      let o' = removed-own nx ws fl fl' z.pre z.post x z.own p lw in
      let a = ahead-is z.pre z.post o' in
      rw (ex, z.here) (
        record {
          pre = z.pre;
          cur = z.post;
          here = refl;
          own = o';
          pass = pass-now (pass-then z.pass (pass-remove nx ws fl fl' z.pre z.post x z.own p lw));
          goal = z.goal ∙ rw (e (records ws z.post));
        },
        omega (arith, ahead-is z.pre (x ∷ z.post) z.own),
      )

  -- y, which follows x, goes, and x is written over
  module _ (x y : ℕ) (z : ZipAt nx0 ws0 fl0 nx ws fl q x G rs) (ey : y ≡ get_or nx x 0) (ly : y < 1024) where
    rest : List ℕ
    rest = (opened z.post (zat-next x z) (rw (← ey) ly)).rest

    post_is : z.post ≡ y ∷ rest
    unfolding rest
    post_is = (opened z.post (zat-next x z) (rw (← ey) ly)).whole ∙ ap (λ (h : ℕ). h ∷ rest) (sym ey)

    two : Own nx (z.pre ++ x ∷ y ∷ rest) (free_of fl)
    two = rw post_is at z.own

    snoc-two : Own nx ((z.pre ++ x ∷ []) ++ y ∷ rest) (free_of fl)
    snoc-two = rw (append_assoc z.pre (x ∷ []) (y ∷ rest)) two

    pub join-removes : CanRemove nx fl x
    join-removes =
        record {
          size = z.own.size;
          at = omega (arith, (seg-second nx 1024 z.pre (x ∷ z.post) 1024 z.own.ring).1);
          slot = rw ey at ly;
          heap = z.pass.ready.heap;
          used = rw (← ey) (omega (arith, snoc-two.once y, cnt-append y (z.pre ++ x ∷ []) (y ∷ rest), bit-same y));
        }

    pub zat-join : (nx' ws' : List ℕ) (fl' : Heap) (r : Region) (G' : List Region → List Region)
        → ws' ≡ put_region ws x r → nx' ≡ unlinked nx x → Pushed fl y fl'
        → ((t : List Region) → G (region_at ws x ∷ region_at ws y ∷ t) ≡ G' (r ∷ t)) → Zip nx0 ws0 fl0 nx' ws' fl' q G' rs × (ahead nx' q < ahead nx q)
    zat-join nx' ws' fl' r G' ew ex p e =
        let lw : length ws ≡ pool_len = z.pass.ready.words in
        let l : last 1024 (z.pre ++ x ∷ []) ≡ x = last_snoc 1024 z.pre x in
        let w1 : List ℕ = put_region ws x r in
        let p1 = pass-put nx ws fl z.pre (y ∷ rest) x r two z.pass.ready.heap lw in
        let o2 : Own (unlinked nx x) (z.pre ++ x ∷ rest) (free_of fl') =
        rw (append_assoc z.pre (x ∷ []) rest, l) at (removed-own nx w1 fl fl' (z.pre ++ x ∷ []) rest y snoc-two p p1.ready.words) in
        let p2 = pass-remove nx w1 fl fl' (z.pre ++ x ∷ []) rest y snoc-two p p1.ready.words in
        let p3 : Pass nx w1 fl (unlinked nx x) w1 fl' (records_of (unlinked nx x) w1) = rw l at (pass-now p2) in
        let us = two.once x in
        let cs = cnt-append x z.pre (x ∷ y ∷ rest) in
        let hs = bit-same x in
        let e1 : records w1 z.pre ≡ records ws z.pre = records-put ws x r z.pre (omega arith) in
        let e2 : records w1 rest ≡ records ws rest = records-put ws x r rest (omega arith) in
        let e3 : region_at w1 x ≡ r = at-put-same ws x r (seg-second nx 1024 z.pre (x ∷ z.post) 1024 z.own.ring).1 lw in
        let g : rs ≡ records ws z.pre ++ G (region_at ws x ∷ region_at ws y ∷ records ws rest) = rw post_is at z.goal in
        let a2 = ahead-is z.pre (x ∷ rest) o2 in
        rw (ex, ew, z.here) (
          record {
            pre = z.pre;
            cur = x ∷ rest;
            here = refl;
            own = o2;
            pass = pass-then z.pass (pass-then (pass-now p1) p3);
            goal = g ∙ rw (e (records ws rest), e1, e2, e3);
          },
          omega (arith, ahead-is z.pre (x ∷ y ∷ rest) two),
        )

  -- the first free slot goes in before cur, with the region r, and is passed
  pub zip-insert : (nx' ws' : List ℕ) (fl' : Heap) (n : ℕ) (r : Region) (G' : List Region → List Region) (z : Zip nx0 ws0 fl0 nx ws fl q G rs)
      → InsertsRegion nx ws fl q n r nx' ws' fl'
      → G (records ws z.cur) ≡ r ∷ G' (records ws z.cur) → ZipOf nx0 ws0 fl0 nx' ws' fl' n G' rs z.cur (records ws z.cur) (ahead nx q)
  zip-insert nx' ws' fl' n r G' z i e =
      let lw : length ws ≡ pool_len = z.pass.ready.words in
      let p : Popped fl n fl' = i.popped in
      let o : Own nx (z.pre ++ z.cur) (n ∷ free_of fl') = rw p.free at z.own in
      let o1 = own-insert nx z.pre z.cur n (free_of fl') o in
      let o2 : Own (linked nx (last 1024 z.pre) n) ((z.pre ++ n ∷ []) ++ z.cur) (free_of fl') = rw (append_assoc z.pre (n ∷ []) z.cur) o1 in
      let l : last 1024 (z.pre ++ n ∷ []) ≡ n = last_snoc 1024 z.pre n in
      let w1 : List ℕ = put_region ws n r in
      let us = o.once n in
      let cs = cnt-append n z.pre z.cur in
      let hs = bit-same n in
      let e1 : records w1 z.pre ≡ records ws z.pre = records-put ws n r z.pre (omega arith) in
      let e2 : records w1 z.cur ≡ records ws z.cur = records-put ws n r z.cur (omega arith) in
      let e3 : region_at w1 n ≡ r = at-put-same ws n r (own-first-low n o) lw in
      let a2 : ahead (linked nx (last 1024 z.pre) n) n ≡ length z.cur = rw l at (ahead-is (z.pre ++ n ∷ []) z.cur o2) in
      rw (i.link, i.words, z.here) (record {
        pre = z.pre ++ n ∷ [];
        here = sym l;
        own = o2;
        pass = pass-now (pass-then z.pass (pass-insert nx ws fl fl' z.pre z.cur n r z.own p lw));
        goal = z.goal ∙ rw (e, snoc-records w1 z.pre n (G' (records w1 z.cur)), e1, e2, e3);
        kept = e2;
        before = a2 ∙ sym (ahead-is z.pre z.cur z.own);
      })

  -- where what is wanted fits, and more is wanted of what lies before than there is, a slot is free
  pub zip-room : (z : Zip nx0 ws0 fl0 nx ws fl q G rs) → Room nx0 fl0 rs
      → suc (length z.cur) ≤ length (G (records ws z.cur)) → 1 ≤ length (free_of fl)
  zip-room z l m =
      let e1 : length rs ≡ length (records ws z.pre) + length (G (records ws z.cur)) = ap length z.goal ∙ length-append (records ws z.pre) (G (records ws z.cur)) in
      let e2 : length (mine_of nx) ≡ length z.pre + length z.cur = ap length (own-mine z.own) ∙ length-append z.pre z.cur in
      omega (arith, z.pass.total, length-map z.pre (region_at ws))

  -- what a function that puts a region after q asks
  pub zip-puts : (z : Zip nx0 ws0 fl0 nx ws fl q G rs) → 1 ≤ length (free_of fl) → CanInsert nx fl q
  zip-puts z l = record { size = z.own.size; at = zip-le z; heap = z.pass.ready.heap; some = l }

module _ {nx0 ws0 nx ws : List ℕ} {fl0 fl : Heap} {q : ℕ} {G : List Region → List Region} {rs : List Region} {ks : List Region} {n : ℕ} where
  pub of-zip : {cur : List ℕ} → ZipOf nx0 ws0 fl0 nx ws fl q G rs cur ks n → Zip nx0 ws0 fl0 nx ws fl q G rs
  of-zip {cur} z = record { pre = z.pre; cur = cur; pass = z.pass; own = z.own; here = z.here; goal = z.goal }

  pub of_at : (x : ℕ) (post : List ℕ) → ZipOf nx0 ws0 fl0 nx ws fl q G rs (x ∷ post) ks n → ZipAt nx0 ws0 fl0 nx ws fl q x G rs
  of_at x post z = record { pre = z.pre; post = post; pass = z.pass; own = z.own; here = z.here; goal = z.goal }
