-- The moves, in the terms of the code. Assumes nothing.
use Rattle.std.specs.Prelude.{None, Some, if◌then◌else◌}
use Prim.Native.Nat.{ℕ, ◌+◌, ◌-◌, ◌^◌, ◌≤◌, ◌<◌, min, max}
use mathlib.Core.Path.{◌≡◌, refl, ap, ◌∙◌}
use mathlib.Core.Bool.{Bool, true, false}
use mathlib.Core.Logic.{inl, inr}
use mathlib.Core.List.{List, [], ◌∷◌, ◌++◌, map}
use native.Mathlib.Omega.{arith}
use native.Mathlib.Decide.{dec_lt}
use lib.ListN.{get_or}
use borrow.Author.Tests.{ltb-true, ltb-false, eq-eqb, ne_eqb}
use Rattle.definitions.specs.Tests.{◌<?◌, host}
use Rattle.definitions.specs.Regions.{region}
use Rattle.definitions.specs.Stream.{identity}
use Rattle.definitions.proofs.Lists.{above}
use Rattle.definitions.specs.declared.region.Region.{Region}
use Rattle.definitions.specs.declared.remapper.Segment.{Segment}
use Rattle.definitions.specs.declared.remapper.Mapping.{Mapping}
use Rattle.capability_engine.specs.declared.stream.RemapCursor.{RemapCursor}
use Rattle.capability_engine.specs.declared.stream.Turn.{Turn}
use Rattle.capability_engine.specs.declared.stream.Turn.TheVariants.{Yields, Skips}
use Rattle.capability_engine.specs.PoolWords.{region_at}
use Rattle.capability_engine.specs.StreamFlow.{part, Rising}
use Rattle.capability_engine.specs.SegmentWords.{segment_at, segments_from}
use Rattle.capability_engine.specs.StreamCursor.{Table, goes_on, remaining, Ready, Kept, Step, Says, Turned, runs, open_from, passed_to, begins, last_turn, first_turn}
use Rattle.capability_engine.proofs.StreamFlows.{part_none, part-some, part-above, above-none, above-some}
use Rattle.capability_engine.proofs.StreamLinks.{segments-step, segments-none, good-at}
use Rattle.capability_engine.proofs.StreamMoves.{Move, pass, begin, first}

-- a move whose part of a record is [from, to), if that is not empty
turned-run : {nx ws sg : List ℕ} {n : ℕ} {c d : RemapCursor} (ms : List Mapping) → Move nx ws sg n c d ms → Kept c d → (from to : ℕ) (r : Region)
    → (from < to → ms ≡ identity (region (host from) (host to) r.values) ∷ []) → (to ≤ from → ms ≡ [])
    → Turned nx ws sg n c (runs from to r d)
unfolding runs
turned-run {nx} {ws} {sg} {n} {c} {d} ms v k from to r some none = go (from <? to) refl
  where
    go : (b : Bool) → (from <? to) ≡ b
        → Turned nx ws sg n c (if b then Yields (identity (region (host from) (host to) r.values)) d else Skips d)
    go true e = (v.same ∙ ap (λ (l : List Mapping). l ++ remaining nx ws sg n d) (some (ltb-true from to e)), v.ready, omega (arith, v.less), k)
    go false e = (v.same ∙ ap (λ (l : List Mapping). l ++ remaining nx ws sg n d) (none (ltb-false from to e)), v.ready, v.less, inl k)

-- what comes of a record from where it is open, up to its end or up to an address
module _ (c : RemapCursor) (r : Region) where
  whole_run : open_from c r < r.end.0
      → map identity (above (max c.at.0 c.covered.0) r) ≡ identity (region (host (open_from c r)) (host r.end.0) r.values) ∷ []
  unfolding host
  whole_run l =
      let q : max (max c.at.0 c.covered.0) r.start.0 ≡ open_from c r = omega arith in
      ap (map identity) (above-some (max c.at.0 c.covered.0) r (omega arith)) ∙ rw q

  no_run : r.end.0 ≤ open_from c r → map identity (above (max c.at.0 c.covered.0) r) ≡ []
  no_run l = ap (map identity) (above-none (max c.at.0 c.covered.0) r (omega arith))

  cut-run : (h : ℕ) → open_from c r < min r.end.0 h
      → map identity (part (max c.at.0 c.covered.0) h r) ≡ identity (region (host (open_from c r)) (host (min r.end.0 h)) r.values) ∷ []
  cut-run h l =
      let q : max (max c.at.0 c.covered.0) r.start.0 ≡ open_from c r = omega arith in
      let z : min h r.end.0 ≡ min r.end.0 h = omega arith in
      ap (map identity) (part-some (max c.at.0 c.covered.0) h r (omega arith)) ∙ rw (q, z)

  no_cut : (h : ℕ) → min r.end.0 h ≤ open_from c r → map identity (part (max c.at.0 c.covered.0) h r) ≡ []
  no_cut h l = ap (map identity) (part_none (max c.at.0 c.covered.0) h r (omega arith))

module _ (nx ws sg : List ℕ) (n : ℕ) (c : RemapCursor) (g : Ready nx ws sg n c) (e : goes_on ws c ≡ false) (l : c.region < 1024)
    (r : Region) (er : r ≡ region_at ws c.region) where
  -- only records are left
  pub turned-last : (t : Turn) → n ≤ c.segment → t ≡ last_turn c r (get_or nx c.region 0) → Turned nx ws sg n c t
  turned-last t k et =
      let q : Region = region_at ws c.region in
      rw (et, er)
      (turned-run (map identity (above (max c.at.0 c.covered.0) q)) (pass nx ws sg n c g e l (rw (segments-none sg c.segment n k) tt))
      (record { segment = refl; end = refl }) (open_from c q) q.end.0 q (whole_run c q) (no_run c q))

  module _ (s : Segment) (k : c.segment < n) (es : s ≡ segment_at sg c.segment) (low : ℕ) (el : low ≡ max c.at.0 r.start.0) where
    -- a segment is begun
    pub turned-begin : (d : RemapCursor) → s.hpa.0 ≤ low → d ≡ begins c s → Turned nx ws sg n c (Skips d)
    turned-begin d h ed =
        let q : (segment_at sg c.segment).hpa.0 ≤ max c.at.0 (region_at ws c.region).start.0 = rw (el, es, er) at h in
        let v = begin nx ws sg n c g e l k q in
        rw (ed, es) (v.same, v.ready, v.less, inr refl)

    -- a part of the record comes first
    first-move : low < s.hpa.0
        → Move nx ws sg n c (passed_to c r (min r.end.0 s.hpa.0) (get_or nx c.region 0)) (map identity (part (max c.at.0 c.covered.0) s.hpa.0 r))
    first-move h = elim (dec_lt s.hpa.0 r.end.0) [
      | yes b ↦
          let q : max c.at.0 (region_at ws c.region).start.0 < (segment_at sg c.segment).hpa.0 = rw (el, es, er) at h in
          let b' : (segment_at sg c.segment).hpa.0 < (region_at ws c.region).end.0 = rw (es, er) at b in
          let t : min r.end.0 s.hpa.0 ≡ s.hpa.0 = omega arith in
          rw t (rw (ne_eqb s.hpa.0 r.end.0 (omega arith)) (rw (es, er) (first nx ws sg n c g e l k q b')))
      | no b ↦
          let t : min r.end.0 s.hpa.0 ≡ r.end.0 = omega arith in
          let u : Rising c.at.0 (segment_at sg c.segment ∷ segments_from sg (c.segment + 1) (n - (c.segment + 1))) = rw (segments-step sg c.segment n k) at g.ahead in
          let b₀ : r.end.0 ≤ s.hpa.0 = omega arith in
          let b' : (region_at ws c.region).end.0 ≤ (segment_at sg c.segment).hpa.0 = rw (es, er) at b₀ in
          rw (part-above (max c.at.0 c.covered.0) s.hpa.0 r (omega arith))
          (rw t (rw (eq-eqb r.end.0 r.end.0 refl) (rw er (pass nx ws sg n c g e l (rw (segments-step sg c.segment n k) (b', u.1))))))
    ]

    pub turned-first : (t : Turn) → low < s.hpa.0 → t ≡ first_turn c r s.hpa (get_or nx c.region 0) → Turned nx ws sg n c t
    turned-first t h et =
        rw et
        (turned-run (map identity (part (max c.at.0 c.covered.0) s.hpa.0 r)) (first-move h)
        (record { segment = refl; end = refl }) (open_from c r) (min r.end.0 s.hpa.0) r (cut-run c r s.hpa.0) (no_cut c r s.hpa.0))

-- the end of a segment of the table fits
pub end_fits : {ws sg : List ℕ} {n : ℕ} (i : ℕ) (s : Segment) → Table ws sg n → i < n → s ≡ segment_at sg i → s.hpa.0 + s.size < 2 ^ 64
end_fits {ws} {sg} {n} i s g l e = rw e (good-at sg n i g.good l).host

-- what an answer says, by its case
module _ (nx ws sg : List ℕ) (n : ℕ) (c : RemapCursor) (q : Step) (h : Says nx ws sg n c q) where
  pub told-done : q ≡ None → remaining nx ws sg n c ≡ []
  told-done e = rw e at h

  pub told-found : (m : Mapping) (d : RemapCursor) → q ≡ Some (m, d) → Says nx ws sg n c (Some (m, d))
  told-found m d e = rw e at h
