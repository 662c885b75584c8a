-- What one turn of a cursor does. Assumes nothing.
use Prim.Native.Nat.{ℕ, ◌+◌, ◌-◌, ◌≤◌, ◌<◌, max}
use mathlib.Core.Path.{◌≡◌, refl, sym, ap, ap₂, ◌∙◌}
use mathlib.Core.Bool.{true, false}
use mathlib.Core.List.{List, [], ◌∷◌, ◌++◌, map}
use native.Mathlib.Omega.{arith}
use native.Mathlib.Decide.{dec_lt}
use native.Mathlib.Nat.{mul-le-mul_left}
use lib.ListN.{get_or}
use borrow.Author.Tests.{ltb-true, ltb-false, lt-ltb, le-ltb}
use Rattle.definitions.proofs.Bools.{both}
use Rattle.definitions.specs.Tests.{◌<?◌, host_up, guest_up}
use Rattle.definitions.specs.Segments.{host_end, span_end}
use Rattle.definitions.proofs.Lists.{above}
use Rattle.definitions.proofs.SegmentLaws.{Good}
use Rattle.definitions.specs.Stream.{segment_yields, shared_part, identity}
use Rattle.definitions.specs.declared.region.Region.{Region}
use Rattle.definitions.specs.declared.remapper.Segment.{Segment}
use Rattle.definitions.specs.declared.remapper.Mapping.{Mapping}
use Rattle.capability_engine.specs.PoolChain.{stored_at}
use Rattle.capability_engine.specs.declared.stream.RemapCursor.{RemapCursor}
use Rattle.capability_engine.specs.declared.stream.Turn.TheVariants.{Yields}
use Rattle.capability_engine.specs.PoolWords.{region_at}
use Rattle.capability_engine.specs.StreamFlow.{part, flow, Rising}
use Rattle.capability_engine.specs.SegmentWords.{segment_at, segments_from}
use Rattle.capability_engine.specs.StreamCursor.{Table, Met, goes_on, begun, rest, remaining, Ready, to_go, Turned, passed, begins}
use Rattle.capability_engine.proofs.StreamFlows.{yields-head, yields_none, flow-none, flow-pass, flow-same, flow-begin, flow-part, lies-most}
use Rattle.capability_engine.proofs.StreamLinks.{past_of, regions-step, regions-none, ordered_step, sound-step, regions-ended, sound-ended, segments-step, good-at}

-- d comes after c, and ms between them
pub record Move (nx ws sg : List ℕ) (n : ℕ) (c d : RemapCursor) (ms : List Mapping) : Type 0 where
  pub ready : Ready nx ws sg n d
  pub less : to_go nx ws sg n d < to_go nx ws sg n c
  pub same : remaining nx ws sg n c ≡ ms ++ remaining nx ws sg n d

module _ (nx ws sg : List ℕ) (n : ℕ) (c : RemapCursor) (g : Ready nx ws sg n c) where
  -- ---- the segment begun last

  -- it goes on at a record
  pub on-at : goes_on ws c ≡ true → (c.ongoing < 1024) × ((region_at ws c.ongoing).start.0 < c.end.0)
  unfolding goes_on
  on-at e =
      let f = both (c.ongoing <? 1024) ((region_at ws c.ongoing).start.0 <? c.end.0) e in
      (ltb-true c.ongoing 1024 f.0, ltb-true (region_at ws c.ongoing).start.0 c.end.0 f.1)

  -- or is over
  over : goes_on ws c ≡ false → segment_yields (stored_at nx ws c.ongoing) (begun sg c) ≡ []
  unfolding goes_on segment_yields
  over e = elim (dec_lt c.ongoing 1024) [
    | yes l ↦
        let o = ordered_step g.on l in
        let k : ((region_at ws c.ongoing).start.0 <? c.end.0) ≡ false = simp (lt-ltb c.ongoing 1024 l) at e in
        rw (regions-step g.on l)
        (yields_none (begun sg c) (region_at ws c.ongoing).start.0 (region_at ws c.ongoing ∷ stored_at nx ws (get_or nx c.ongoing 0))
        (omega (arith, ltb-false (region_at ws c.ongoing).start.0 c.end.0 k, (g.owner l).1)) (omega arith, o.1, o.2))
    | no l ↦ rw (regions-none g.on (omega arith))
  ]

  left_over : goes_on ws c ≡ false → remaining nx ws sg n c ≡ flow (max c.at.0 c.covered.0) (stored_at nx ws c.region) (rest sg n c)
  unfolding remaining
  left_over e = ap (λ (l : List Mapping). l ++ flow (max c.at.0 c.covered.0) (stored_at nx ws c.region) (rest sg n c)) (over e)

  pub done : goes_on ws c ≡ false → 1024 ≤ c.region → remaining nx ws sg n c ≡ []
  done e l = left_over e ∙ rw (regions-none g.whole l) (flow-none (max c.at.0 c.covered.0) (rest sg n c))

  -- a cursor whose segment is over
  fresh : (d : RemapCursor) → d.ongoing ≡ 1024 → remaining nx ws sg n d ≡ flow (max d.at.0 d.covered.0) (stored_at nx ws d.region) (rest sg n d)
  unfolding remaining segment_yields
  fresh d e = rw (e, regions-ended nx ws g.whole.listed.size)

  none_owned : {P : Type 0} → 1024 < 1024 → P
  none_owned l = absurd (omega arith)

  -- ---- the moves

  -- the segment's next mapping
  pub goes : (tb : Table ws sg n) → goes_on ws c ≡ true
      → Met (begun sg c) c.end (region_at ws c.ongoing)
  unfolding host_end host_up span_end guest_up
  goes tb e =
      let a = on-at e in
      let o = ordered_step g.on a.0 in
      let w = g.owner a.0 in
      let q : Good (begun sg c) = good-at sg n (c.segment - 1) tb.good (omega (arith, w.0, g.bound)) in
      let k : (begun sg c).hpa.0 < (region_at ws c.ongoing).end.0 = rw (regions-step g.on a.0) at g.meets in
      record {
        ends = w.1;
        guest = omega (arith, q.guest, mul-le-mul_left (begun sg c).size q.times);
        below = k;
        above = a.1;
        some = o.1;
        full = q.some;
      }

  pub on-says : (r : Region) (s : Segment) (m : Mapping) (j : ℕ) → goes_on ws c ≡ true → r ≡ region_at ws c.ongoing → s ≡ begun sg c → m ≡ shared_part s r
      → j ≡ get_or nx c.ongoing 0
      → Turned nx ws sg n c
      (Yields m (record { region = c.region; at = c.at; covered = c.covered; segment = c.segment; ongoing = j; end = c.end }))
  unfolding remaining to_go
  on-says r s m j e er es em ej =
      let a = on-at e in
      let x : ℕ = c.ongoing in
      let o = ordered_step g.on a.0 in
      let w = g.owner a.0 in
      let k : (begun sg c).hpa.0 < (region_at ws x).end.0 = rw (regions-step g.on a.0) at g.meets in
      rw (em, es, er, ej) (
        ap (λ (l : List Mapping). l ++ flow (max c.at.0 c.covered.0) (stored_at nx ws c.region) (rest sg n c))
            (ap (λ (l : List Region). segment_yields l (begun sg c)) (regions-step g.on a.0)
            ∙ yields-head (begun sg c) (region_at ws x) (stored_at nx ws (get_or nx x 0)) k (omega (arith, a.1, w.1))),
        record {
          whole = g.whole;
          past = g.past;
          ahead = g.ahead;
          bound = g.bound;
          on = sound-step g.on a.0;
          meets = past_of (stored_at nx ws (get_or nx x 0)) (omega arith) o.2;
          owner = λ _. w;
        },
        omega arith,
        record { segment = refl; end = refl },
      )

  -- from here on the segment begun last is over, and there is a record
  module _ (e : goes_on ws c ≡ false) (l : c.region < 1024) where
    -- the record lies below the segments to come: it is passed
    pub pass : Rising (region_at ws c.region).end.0 (rest sg n c)
        → Move nx ws sg n c (passed c (region_at ws c.region) (get_or nx c.region 0))
        (map identity (above (max c.at.0 c.covered.0) (region_at ws c.region)))
    unfolding to_go
    pass up =
        let r : Region = region_at ws c.region in
        let rs : List Region = stored_at nx ws (get_or nx c.region 0) in
        let d : RemapCursor = passed c r (get_or nx c.region 0) in
        let er : stored_at nx ws c.region ≡ r ∷ rs = regions-step g.whole l in
        let o = ordered_step g.whole l in
        let p : c.at.0 < r.end.0 = rw er at g.past in
        record {
          ready = record {
            whole = sound-step g.whole l;
            past = past_of rs (omega arith) o.2;
            ahead = up;
            bound = g.bound;
            on = sound-ended nx ws g.whole.listed.size;
            meets = rw (regions-ended nx ws g.whole.listed.size) tt;
            owner = λ z. none_owned z;
          };
          less = rw er (omega (arith, lies-most r.end.0 rs (rest sg n c)));
          same = left_over e ∙ rw er
              (flow-pass (max c.at.0 c.covered.0) r rs (rest sg n c) up
              ∙ ap (λ (z : List Mapping). map identity (above (max c.at.0 c.covered.0) r) ++ z)
              (flow-same r.end.0 (max c.at.0 c.covered.0) (max r.end.0 c.covered.0) rs (rest sg n c) o.2 (omega arith) ∙ sym (fresh d refl)));
        }

    -- the first segment to come begins at or below where the record is passed to: it is begun
    pub begin : c.segment < n → (segment_at sg c.segment).hpa.0 ≤ max c.at.0 (region_at ws c.region).start.0
        → Move nx ws sg n c (begins c (segment_at sg c.segment)) []
    unfolding to_go remaining host_end host_up
    begin k h =
        let r : Region = region_at ws c.region in
        let rs : List Region = stored_at nx ws (get_or nx c.region 0) in
        let s : Segment = segment_at sg c.segment in
        let ss : List Segment = segments_from sg (c.segment + 1) (n - (c.segment + 1)) in
        let er : stored_at nx ws c.region ≡ r ∷ rs = regions-step g.whole l in
        let es : rest sg n c ≡ s ∷ ss = segments-step sg c.segment n k in
        let o = ordered_step g.whole l in
        let p : c.at.0 < r.end.0 = rw er at g.past in
        let u : Rising c.at.0 (s ∷ ss) = rw es at g.ahead in
        let one : c.segment + 1 - 1 ≡ c.segment = omega arith in
        let num : max (max c.at.0 c.covered.0) (host_end s).0 ≡ max s.hpa.0 (max c.covered.0 (host_end s).0) = omega arith in
        record {
          ready = record {
            whole = g.whole;
            past = rw er (omega arith);
            ahead = u.1;
            bound = omega arith;
            on = g.whole;
            meets = rw (one, er) (omega arith);
            owner = λ _. (omega arith, rw one);
          };
          less = rw (er, es) (omega (arith, lies-most s.hpa.0 (r ∷ rs) ss));
          same = left_over e ∙ rw (one, er, es)
              (flow-begin (max c.at.0 c.covered.0) r rs s ss o.2 (omega arith) (omega arith)
              ∙ ap (λ (z : ℕ). segment_yields (r ∷ rs) s ++ flow z (r ∷ rs) ss) num);
        }

    -- a part of the record comes before the segment, which begins in the record
    pub first : c.segment < n → max c.at.0 (region_at ws c.region).start.0 < (segment_at sg c.segment).hpa.0
        → (segment_at sg c.segment).hpa.0 < (region_at ws c.region).end.0
        → Move nx ws sg n c
        (record { region = c.region; at = (segment_at sg c.segment).hpa; covered = c.covered; segment = c.segment; ongoing = 1024; end = c.end })
        (map identity (part (max c.at.0 c.covered.0) (segment_at sg c.segment).hpa.0 (region_at ws c.region)))
    unfolding to_go
    first k h q =
        let r : Region = region_at ws c.region in
        let rs : List Region = stored_at nx ws (get_or nx c.region 0) in
        let s : Segment = segment_at sg c.segment in
        let ss : List Segment = segments_from sg (c.segment + 1) (n - (c.segment + 1)) in
        let d : RemapCursor = record { region = c.region; at = s.hpa; covered = c.covered; segment = c.segment; ongoing = 1024; end = c.end } in
        let er : stored_at nx ws c.region ≡ r ∷ rs = regions-step g.whole l in
        let es : rest sg n c ≡ s ∷ ss = segments-step sg c.segment n k in
        let o = ordered_step g.whole l in
        let u : Rising c.at.0 (s ∷ ss) = rw es at g.ahead in
        let num : max s.hpa.0 (max c.at.0 c.covered.0) ≡ max s.hpa.0 c.covered.0 = omega arith in
        record {
          ready = record {
            whole = g.whole;
            past = rw er q;
            ahead = rw es (omega arith, u.1);
            bound = g.bound;
            on = sound-ended nx ws g.whole.listed.size;
            meets = rw (regions-ended nx ws g.whole.listed.size) tt;
            owner = λ z. none_owned z;
          };
          less = rw (er, es) (simp (lt-ltb (max c.at.0 r.start.0) s.hpa.0 h, le-ltb (max s.hpa.0 r.start.0) s.hpa.0 (omega arith)) (omega arith));
          same = left_over e
              ∙ ap₂ (λ (x : List Region) (y : List Segment). flow (max c.at.0 c.covered.0) x y) er es
              ∙ flow-part (max c.at.0 c.covered.0) r rs s ss o.2 q
              ∙ ap (λ (z : List Mapping). map identity (part (max c.at.0 c.covered.0) s.hpa.0 r) ++ z)
              (ap (λ (z : ℕ). flow z (r ∷ rs) (s ∷ ss)) num
              ∙ sym (fresh d refl ∙ ap₂ (λ (x : List Region) (y : List Segment). flow (max s.hpa.0 c.covered.0) x y) er es));
        }
