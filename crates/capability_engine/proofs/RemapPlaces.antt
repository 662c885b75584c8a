-- A place in the list: how a walk starts, goes on and ends, and what the three changes do there.
use Prim.Native.Nat.{ℕ, ◌+◌, ◌<◌, ◌≤◌}
use mathlib.Core.Path.{◌≡◌, subst, ◌≡◌, refl, sym, ap, ◌∙◌}
use mathlib.Core.List.{List, [], ◌∷◌, ◌++◌, append_assoc}
use mathlib.Core.Bool.{Bool, true, false}
use Rattle.std.specs.Prelude.{Option}
use Rattle.free_list.specs.declared.FreeList.{FreeList}
use native.Mathlib.Omega.{arith}
use lib.ListN.{length, get_or, set, length-set, length-append}
use lib.Seq.{get_or-set_same}
use borrow.Author.Tests.{lt-ltb, ne_eqb}
use Rattle.free_list.specs.Stack.{FreeListCall, allocate, free, has, freeable, after, step}
use Rattle.free_list.specs.Grown.{Grown, Allocates, Frees, head_of}
use Rattle.free_list.proofs.Laws.{after-snoc}
use Rattle.definitions.proofs.SegmentLaws.{Good, AllGood}
use Rattle.definitions.specs.declared.remapper.Segment.{Segment}
use Rattle.capability_engine.specs.declared.remapper.Remapper.{Remapper}
use Rattle.capability_engine.specs.RemapSteps.{ZipOver}
use Rattle.capability_engine.specs.RemapHeld.{Chain, hit, occ, no_segment, segs_at, Owns, Holds, last_or, Zip, join_links, join_head, behind, ahead}
use Rattle.capability_engine.proofs.RemapLaws.{hit_same, hit-apart, occ-append, last_or-snoc, chain-frame, chain-both, chain_same, chain_first, chain-behind, join-chain, join-frame, length-join, segs-append, segs-frame, length-segs, good-append, good-parts, append-parts, ahead-is, own-once, own_below, own-small, part-below, grown-rest}

-- ---- a walk

unfoldable pub zip_start : (r : Remapper) (ss : List Segment) → Holds r ss → Zip r 64 r.head [] ss
zip_start r ss h =
    record {
      passed = [];
      left = h.slots;
      owns = h.owns;
      last = refl;
      here = h.owns.chain;
      read_done = refl;
      read_left = h.read;
      good-done = tt;
      good_left = h.good;
    }

module _ (r : Remapper) (prev at : ℕ) (done ts : List Segment) (w : Zip r prev at done ts) where
  left_below : (z : ℕ) → 1 ≤ occ z w.left → z < 64
  left_below z p = own_below r (w.passed ++ w.left) w.owns z (omega (arith, occ-append z w.passed w.left))

  zip_length : length w.passed + length w.left ≡ length done + length ts
  zip_length =
      omega
      (arith, length-segs r.segments w.passed, length-segs r.segments w.left, ap length w.read_done, ap length w.read_left)

  pub zip-small : length done + length ts ≤ 64
  zip-small = omega (arith, own-small r _ w.owns, length-append w.passed w.left, zip_length)

  -- how many are left
  pub zip-ahead : ahead r.links at ≡ length ts
  zip-ahead =
      ahead-is r.links at w.left (omega (arith, own-small r _ w.owns, length-append w.passed w.left)) left_below w.here
      ∙ sym (length-segs r.segments w.left)
      ∙ ap length w.read_left

  -- the end
  pub zip_end : 64 ≤ at → ts ≡ []
  zip_end l = go w.left w.here left_below w.read_left
    where
      go : (q : List ℕ) → Chain r.links at q 64 → ((z : ℕ) → 1 ≤ occ z q → z < 64) → segs_at r.segments q ≡ ts → ts ≡ []
      go [] c b e = sym e
      go (x ∷ q) c b e = absurd (omega (arith, c.0, b x (omega (arith, hit_same x))))

  -- what is next is a slot, or none
  pub zip-at : at ≤ 64
  zip-at = go w.left w.here left_below
    where
      go : (q : List ℕ) → Chain r.links at q 64 → ((z : ℕ) → 1 ≤ occ z q → z < 64) → at ≤ 64
      go [] c b = omega arith
      go (x ∷ q) c b = omega (arith, c.0, b x (omega (arith, hit_same x)))

  -- one more
  pub zip-open : at < 64 → (us : List Segment) × (ts ≡ get_or r.segments at no_segment ∷ us)
  zip-open l = go w.left w.here w.read_left
    where
      go : (q : List ℕ) → Chain r.links at q 64 → segs_at r.segments q ≡ ts → (us : List Segment) × (ts ≡ get_or r.segments at no_segment ∷ us)
      go [] c e = absurd (omega arith)
      go (x ∷ q) c e = (segs_at r.segments q, sym e ∙ rw c.0)

  -- all of the list
  pub zip-holds : Holds r (done ++ ts)
  zip-holds =
      record {
        slots = w.passed ++ w.left;
        owns = w.owns;
        read = segs-append r.segments w.passed w.left ∙ cc (w.read_done, w.read_left);
        good = good-append done ts w.good-done w.good_left;
      }

  passed-below : (z : ℕ) → 1 ≤ occ z w.passed → z < 64
  passed-below z p = own_below r (w.passed ++ w.left) w.owns z (omega (arith, occ-append z w.passed w.left))

  -- what is next stands behind prev
  pub zip-next : at ≡ behind r.links r.head prev
  zip-next =
      chain_same r.links at (behind r.links r.head prev) w.left 64 w.here
      (rw w.last (chain-behind r.links r.head r.head 64 w.passed w.left 64 passed-below refl w.owns.chain))

  pub zip-many : length w.passed ≡ length done
  zip-many = sym (length-segs r.segments w.passed) ∙ ap length w.read_done

  -- a place further up in the list
  pub zip-back : (xs ys : List ℕ) (low high : List Segment) → w.passed ≡ xs ++ ys → done ≡ low ++ high → length xs ≡ length low
      → Zip r (last_or 64 xs) (behind r.links r.head (last_or 64 xs)) low (high ++ ts)
  zip-back xs ys low high e q m =
      let o : Owns r (xs ++ (ys ++ w.left)) = rw (append_assoc xs ys w.left) at (rw e at w.owns) in
      let t : segs_at r.segments xs ++ segs_at r.segments ys ≡ low ++ high =
      sym (segs-append r.segments xs ys) ∙ ap (segs_at r.segments) (sym e) ∙ w.read_done ∙ q in
      let p = append-parts (segs_at r.segments xs) (segs_at r.segments ys) low high (length-segs r.segments xs ∙ m) t in
      let g = good-parts low high (rw q at w.good-done) in
      record {
        passed = xs;
        left = ys ++ w.left;
        owns = o;
        last = refl;
        here = chain-behind r.links r.head r.head 64 xs (ys ++ w.left) 64
            (λ z n. own_below r (xs ++ (ys ++ w.left)) o z (omega (arith, occ-append z xs (ys ++ w.left)))) refl o.chain;
        read_done = p.0;
        read_left = segs-append r.segments ys w.left ∙ cc (p.1, w.read_left);
        good-done = g.0;
        good_left = good-append high ts g.1 w.good_left;
      }

-- the first is a slot, or none
pub zip_first : (r : Remapper) (prev at : ℕ) (done ts : List Segment) → Zip r prev at done ts → r.head ≤ 64
zip_first r prev at done ts w = zip-at r 64 r.head [] (done ++ ts) (zip_start r (done ++ ts) (zip-holds r prev at done ts w))

-- what comes, by another name
unfoldable pub zip-as : (r : Remapper) (prev at : ℕ) (done ts us : List Segment) → Zip r prev at done ts → ts ≡ us → Zip r prev at done us
zip-as r prev at done ts us w e =
    record {
      passed = w.passed;
      left = w.left;
      owns = w.owns;
      last = w.last;
      here = w.here;
      read_done = w.read_done;
      read_left = w.read_left ∙ e;
      good-done = w.good-done;
      good_left = rw e at w.good_left;
    }

-- a list that is not empty is split where its first is
data Split (r : Remapper) (ps : List ℕ) (prev at : ℕ) (done : List Segment) (s : Segment) (us : List Segment) : Type 0 where
  split : (qs : List ℕ) → Owns r (ps ++ (at ∷ qs)) → prev ≡ last_or 64 ps → Chain r.links (get_or r.links at 0) qs 64
      → segs_at r.segments ps ≡ done → get_or r.segments at no_segment ≡ s → segs_at r.segments qs ≡ us → AllGood done → Good s → AllGood us
      → Split r ps prev at done s us

opened : (r : Remapper) (prev at : ℕ) (done us : List Segment) (s : Segment) (w : Zip r prev at done (s ∷ us)) → Split r w.passed prev at done s us
opened r prev at done us s w = go w.left w.owns w.here w.read_left
  where
    heads : (a b : Segment) (ps qs : List Segment) → a ∷ ps ≡ b ∷ qs → (a ≡ b) × (ps ≡ qs)
    heads a b ps qs e = (cc, cc)

    go : (q : List ℕ) → Owns r (w.passed ++ q) → Chain r.links at q 64 → segs_at r.segments q ≡ s ∷ us → Split r w.passed prev at done s us
    go [] o c e = absurd (let z : ◌≡◌ {A = ℕ} 0 1 = cc in omega arith)
    go (x ∷ q) o c e =
        let p = heads (get_or r.segments x no_segment) s (segs_at r.segments q) us e in
        split q (rw c.0 o) w.last (rw c.0 c.1) w.read_done (rw c.0 p.0) p.1 w.good-done w.good_left.0 w.good_left.1

snoc-append : (ps qs : List ℕ) (x : ℕ) → (ps ++ (x ∷ [])) ++ qs ≡ ps ++ (x ∷ qs)
snoc-append ps qs x = simp append_assoc

-- past one
pub zip-skip : (r : Remapper) (prev at : ℕ) (done us : List Segment) (s : Segment) → Zip r prev at done (s ∷ us)
    → Zip r at (get_or r.links at 0) (done ++ (s ∷ [])) us
zip-skip r prev at done us s w = go (opened r prev at done us s w)
  where
    go : Split r w.passed prev at done s us → Zip r at (get_or r.links at 0) (done ++ (s ∷ [])) us
    go (split qs o l c rp rs rq gp gs gq) =
        let ps : List ℕ = w.passed in
        record {
          passed = ps ++ (at ∷ []);
          left = qs;
          owns = rw (snoc-append ps qs at) o;
          last = sym (last_or-snoc 64 ps at);
          here = c;
          read_done = segs-append r.segments ps (at ∷ []) ∙ cc (rp, rs);
          read_left = rq;
          good-done = good-append done (s ∷ []) gp (gs, tt);
          good_left = gq;
        }

-- past one, which becomes another
pub zip-put : (r : Remapper) (prev at : ℕ) (done us : List Segment) (s t : Segment) (w : Zip r prev at done (s ∷ us)) → Good t
    → ZipOver (record { segments = set r.segments at t; links = r.links; free = r.free; list = r.list; head = r.head })
    (w.passed ++ (at ∷ [])) at (get_or r.links at 0) (done ++ (t ∷ [])) us
zip-put r prev at done us s t w gt = go (opened r prev at done us s w)
  where
    go : Split r w.passed prev at done s us
        → ZipOver (record { segments = set r.segments at t; links = r.links; free = r.free; list = r.list; head = r.head })
        (w.passed ++ (at ∷ [])) at (get_or r.links at 0) (done ++ (t ∷ [])) us
    go (split qs o l c rp rs rq gp gs gq) =
        let ps : List ℕ = w.passed in
        let n : occ at ps + (hit at at + occ at qs) ≤ 1 = omega (arith, own-once r (ps ++ (at ∷ qs)) o at, occ-append at ps (at ∷ qs)) in
        let b : at < 64 = own_below r (ps ++ (at ∷ qs)) o at (omega (arith, occ-append at ps (at ∷ qs), hit_same at)) in
        let wide : length r.segments ≡ 64 = o.wide in
        let fp : segs_at (set r.segments at t) ps ≡ segs_at r.segments ps = segs-frame r.segments ps at t (omega (arith, hit_same at)) in
        let fq : segs_at (set r.segments at t) qs ≡ segs_at r.segments qs = segs-frame r.segments qs at t (omega (arith, hit_same at)) in
        let ft : get_or (set r.segments at t) at no_segment ≡ t = get_or-set_same r.segments at t no_segment (omega arith) in (
          record {
            passed = ps ++ (at ∷ []);
            left = qs;
            owns = rw (snoc-append ps qs at) (record {
              wide = simp length-set wide;
              size = o.size;
              chain = o.chain;
              calls = o.calls;
              grown = o.grown;
              parts = o.parts;
              room = o.room;
            });
            last = sym (last_or-snoc 64 ps at);
            here = c;
            read_done = segs-append (set r.segments at t) ps (at ∷ []) ∙ cc (fp, rp, ft);
            read_left = fq ∙ rq;
            good-done = good-append done (t ∷ []) gp (gt, tt);
            good_left = gq;
          },
          refl,
        )

-- ---- one is taken out

none_has : (z : ℕ) (s : List ℕ) → occ z s ≡ 0 → has z s ≡ false
none_has z [] o = refl
none_has z (x ∷ s) o = rw (ne_eqb z x (hit-apart z x (omega arith))) (none_has z s (omega arith))

pub zip-remove : (r : Remapper) (prev at : ℕ) (done us : List Segment) (s : Segment) (w : Zip r prev at done (s ∷ us))
    → (free2 : List ℕ) (list2 : FreeList) (done2 : Bool) → ((n : ℕ) (calls : List FreeListCall) → Grown n r.free r.list calls → Frees n calls at r.free free2 r.list list2 done2)
    → ZipOver (record { segments = r.segments; links = join_links r.links prev (get_or r.links at 0); free = free2; list = list2; head = join_head r.head prev (get_or r.links at 0) })
    w.passed prev (get_or r.links at 0) done us
zip-remove r prev at done us s w free2 list2 done2 spec = go (opened r prev at done us s w)
  where
    next : ℕ
    next = get_or r.links at 0

    go : Split r w.passed prev at done s us
        → ZipOver (record { segments = r.segments; links = join_links r.links prev (get_or r.links at 0); free = free2; list = list2; head = join_head r.head prev (get_or r.links at 0) })
        w.passed prev (get_or r.links at 0) done us
    go (split qs o l c rp rs rq gp gs gq) =
        let ps : List ℕ = w.passed in
        let once : (z : ℕ) → occ z ps + (hit z at + occ z qs) + occ z (after 64 o.calls) ≤ 1 = λ z. omega (arith, own-once r (ps ++ (at ∷ qs)) o z, occ-append z ps (at ∷ qs)) in
        let below : (z : ℕ) → 1 ≤ occ z ps → z < 64 = λ z p. own_below r (ps ++ (at ∷ qs)) o z (omega (arith, occ-append z ps (at ∷ qs))) in
        let b : at < 64 = own_below r (ps ++ (at ∷ qs)) o at (omega (arith, occ-append at ps (at ∷ qs), hit_same at)) in
        let first : Chain r.links r.head ps at = chain_first r.links r.head ps (at ∷ qs) at 64 o.chain (refl, c) in
        let d = spec 64 o.calls o.grown in
        let fr : freeable 64 (after 64 o.calls) at ≡ true =
        rw (lt-ltb at 64 b, none_has at (after 64 o.calls) (omega (arith, once at, hit_same at))) in
        let a : after 64 (o.calls ++ (free at ∷ [])) ≡ at ∷ after 64 o.calls = after-snoc 64 o.calls (free at) ∙ rw fr in
        let lc : Chain (join_links r.links prev next) next qs 64 =
        rw l (join-frame r.links next ps qs 64 next below (λ z. omega (arith, once z)) c) in
        let fc : Chain (join_links r.links prev next) (join_head r.head prev next) ps next =
        rw l (join-chain r.links r.head ps at next o.size below (λ z. omega (arith, once z)) first) in (
          record {
            passed = ps;
            left = qs;
            owns = record {
              wide = o.wide;
              size = length-join r.links prev next ∙ o.size;
              chain = chain-both (join_links r.links prev next) (join_head r.head prev next) ps qs next 64 fc lc;
              calls = o.calls ++ (free at ∷ []);
              grown = d.grown;
              parts = λ z. omega (arith, o.parts z, occ-append z ps (at ∷ qs), occ-append z ps qs, ap (occ z) a);
              room = omega (arith, o.room, length-append ps (at ∷ qs), length-append ps qs, grown-rest 64 free2 list2 _ d.grown, grown-rest 64 r.free r.list o.calls o.grown, ap length a);
            };
            last = l;
            here = lc;
            read_done = rp;
            read_left = rq;
            good-done = gp;
            good_left = gq;
          },
          refl,
        )

-- ---- one is put in

-- where there is room the free list's head is a slot
pub zip-free : (r : Remapper) (prev at : ℕ) (done ts : List Segment) → Zip r prev at done ts → length done + length ts < 64 → r.list.head < 64
zip-free r prev at done ts w room = go (after 64 w.owns.calls) refl
  where
    go : (fs : List ℕ) → after 64 w.owns.calls ≡ fs → r.list.head < 64
    go [] e =
        absurd (omega (arith, w.owns.room, grown-rest 64 r.free r.list w.owns.calls w.owns.grown, ap length e, zip_length r prev at done ts w, length-append w.passed w.left))
    go (y ∷ fs) e =
        let h : r.list.head ≡ y = w.owns.grown.head ∙ ap (head_of 64) e in
        let b : y < 64 = part-below (w.passed ++ w.left) (after 64 w.owns.calls) y (w.owns.parts y) (rw e (omega (arith, hit_same y))) in
        omega arith

pub zip_in : (r : Remapper) (prev at : ℕ) (done ts : List Segment) (s : Segment) (w : Zip r prev at done ts) → length done + length ts < 64 → Good s
    → (free2 : List ℕ) (list2 : FreeList) (slot2 : Option ℕ) → ((n : ℕ) (calls : List FreeListCall) → Grown n r.free r.list calls → Allocates n calls r.free free2 r.list list2 slot2)
    → ZipOver (record { segments = set r.segments r.list.head s; links = join_links (set r.links r.list.head at) prev r.list.head; free = free2; list = list2; head = join_head r.head prev r.list.head })
    (w.passed ++ (r.list.head ∷ [])) r.list.head at (done ++ (s ∷ [])) ts
zip_in r prev at done ts s w room gs free2 list2 slot2 spec = go (after 64 o.calls) refl
  where
    o : Owns r (w.passed ++ w.left)
    o = w.owns

    x : ℕ
    x = r.list.head

    go : (fs : List ℕ) → after 64 o.calls ≡ fs
        → ZipOver (record { segments = set r.segments r.list.head s; links = join_links (set r.links r.list.head at) prev r.list.head; free = free2; list = list2; head = join_head r.head prev r.list.head })
        (w.passed ++ (r.list.head ∷ [])) r.list.head at (done ++ (s ∷ [])) ts
    go [] e = absurd (omega (arith, o.room, grown-rest 64 r.free r.list o.calls o.grown, ap length e, zip_length r prev at done ts w, length-append w.passed w.left))
    go (y ∷ fs) e =
        let ps : List ℕ = w.passed in
        let qs : List ℕ = w.left in
        let h : r.list.head ≡ y = o.grown.head ∙ ap (head_of 64) e in
        let e2 : after 64 o.calls ≡ x ∷ fs = e ∙ ap (λ v. v ∷ fs) (sym h) in
        let once : (z : ℕ) → occ z ps + occ z qs + (hit z x + occ z fs) ≤ 1 =
        λ z. omega (arith, own-once r (ps ++ qs) o z, occ-append z ps qs, ap (occ z) e2) in
        let below : (z : ℕ) → 1 ≤ occ z ps → z < 64 = λ z p. own_below r (ps ++ qs) o z (omega (arith, occ-append z ps qs)) in
        let b : x < 64 = free-below x fs e2 in
        let first : Chain r.links r.head ps at = chain_first r.links r.head ps qs at 64 o.chain w.here in
        let d = spec 64 o.calls o.grown in
        let a : after 64 (o.calls ++ (allocate ∷ [])) ≡ fs = after-snoc 64 o.calls allocate ∙ ap (λ t. step 64 t allocate) e2 in
        let sz : length r.links ≡ 64 = o.size in
        let wd : length r.segments ≡ 64 = o.wide in
        let L : List ℕ = set r.links x at in
        let fp : Chain L r.head ps at = chain-frame r.links r.head ps at x at (omega (arith, once x, hit_same x)) first in
        let fq : Chain L x (x ∷ qs) 64 =
        (refl, rw (get_or-set_same r.links x at 0 (omega arith)) (chain-frame r.links at qs 64 x at (omega (arith, once x, hit_same x)) w.here)) in
        let cp : Chain (join_links L prev x) (join_head r.head prev x) ps x =
        subst (λ (p : ℕ). Chain (join_links L p x) (join_head r.head p x) ps x) (sym w.last) (join-chain L r.head ps at x (simp length-set sz) below (λ z. omega (arith, once z)) fp) in
        let cq : Chain (join_links L prev x) x (x ∷ qs) 64 =
        subst (λ (p : ℕ). Chain (join_links L p x) x (x ∷ qs) 64) (sym w.last) (join-frame L x ps (x ∷ qs) 64 x below (λ z. omega (arith, once z)) fq) in
        let rp : segs_at (set r.segments x s) ps ≡ segs_at r.segments ps = segs-frame r.segments ps x s (omega (arith, once x, hit_same x)) in
        let rq : segs_at (set r.segments x s) qs ≡ segs_at r.segments qs = segs-frame r.segments qs x s (omega (arith, once x, hit_same x)) in
        let rs : get_or (set r.segments x s) x no_segment ≡ s = get_or-set_same r.segments x s no_segment (omega arith) in (
          record {
            passed = ps ++ (x ∷ []);
            left = qs;
            owns = rw (snoc-append ps qs x) (record {
              wide = simp length-set wd;
              size = length-join L prev x ∙ simp length-set sz;
              chain = chain-both (join_links L prev x) (join_head r.head prev x) ps (x ∷ qs) x 64 cp cq;
              calls = o.calls ++ (allocate ∷ []);
              grown = d.grown;
              parts = λ z. omega (arith, o.parts z, occ-append z ps qs, occ-append z ps (x ∷ qs), ap (occ z) a, ap (occ z) e2);
              room = omega (arith, o.room, length-append ps qs, length-append ps (x ∷ qs), grown-rest 64 free2 list2 _ d.grown, grown-rest 64 r.free r.list o.calls o.grown, ap length a, ap length e2);
            });
            last = sym (last_or-snoc 64 ps x);
            here = rw w.last (join-frame L at ps qs 64 x below (λ z. omega (arith, once z)) (chain-frame r.links at qs 64 x at (omega (arith, once x, hit_same x)) w.here));
            read_done = segs-append (set r.segments x s) ps (x ∷ []) ∙ cc (rp, rs, w.read_done);
            read_left = rq ∙ w.read_left;
            good-done = good-append done (s ∷ []) w.good-done (gs, tt);
            good_left = w.good_left;
          },
          refl,
        )
      where
        free-below : (v : ℕ) (vs : List ℕ) → after 64 o.calls ≡ v ∷ vs → v < 64
        free-below v vs q = part-below (w.passed ++ w.left) (after 64 o.calls) v (o.parts v) (rw q (omega (arith, hit_same v)))
