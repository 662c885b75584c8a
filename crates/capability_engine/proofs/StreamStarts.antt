-- Where a cursor starts. Assumes nothing.
use Prim.Native.Nat.{ℕ, ◌+◌, ◌*◌, ◌-◌, ◌^◌, ◌≤◌, max}
use mathlib.Core.Path.{◌≡◌, sym, ap, ◌∙◌}
use mathlib.Core.Bool.{true}
use mathlib.Core.List.{List}
use native.Mathlib.Omega.{arith}
use lib.ListN.{length, length-append}
use Rattle.definitions.specs.Segments.{in_order}
use Rattle.definitions.specs.Stream.{segment_yields, stream}
use Rattle.definitions.proofs.Lists.{Runs}
use Rattle.definitions.proofs.RunLaws.{EndBy}
use Rattle.definitions.proofs.SegmentLaws.{AllGood}
use Rattle.definitions.specs.declared.region.Region.{Region}
use Rattle.definitions.specs.declared.remapper.Segment.{Segment}
use Rattle.capability_engine.specs.PoolWords.{pool_len}
use Rattle.capability_engine.specs.PoolChain.{slots, Listed, records, stored_at}
use Rattle.capability_engine.specs.declared.stream.RemapCursor.{RemapCursor}
use Rattle.capability_engine.specs.StreamFlow.{flow}
use Rattle.capability_engine.specs.SegmentWords.{segments_from}
use Rattle.capability_engine.specs.StreamCursor.{Table, Whole, remaining, Ready, to_go, begun, rest, at_start}
use Rattle.capability_engine.proofs.PoolLinks.{slots-are}
use Rattle.capability_engine.proofs.StreamMerged.{stream-flow, rising-order}
use Rattle.capability_engine.proofs.StreamFlows.{flow-length, yields-length, lies-most}
use Rattle.capability_engine.proofs.StreamLinks.{past_of, regions-ended, sound-ended, regions-few, segments-length}

module _ (nx ws sg : List ℕ) (n h : ℕ) (t : Table ws sg n) (g : Whole nx ws h) where
  zero-less : n - 0 ≡ n
  zero-less = omega arith

  pub starts : Ready nx ws sg n (at_start h)
  starts = record {
    whole = g.sound;
    past = past_of (stored_at nx ws h) (omega arith) g.sound.ordered;
    ahead = rw zero-less (rising-order (segments_from sg 0 n) t.order);
    bound = omega arith;
    on = sound-ended nx ws g.sound.listed.size;
    meets = rw (regions-ended nx ws g.sound.listed.size) tt;
    owner = λ l. absurd (omega arith);
  }

  pub start-stream : remaining nx ws sg n (at_start h)
      ≡ stream (stored_at nx ws h) (segments_from sg 0 n)
  unfolding remaining segment_yields
  start-stream =
      rw (regions-ended nx ws g.sound.listed.size, zero-less)
      (sym (stream-flow 0 (stored_at nx ws h) (segments_from sg 0 n) g.sound.ordered g.full g.ends t.good (rising-order (segments_from sg 0 n) t.order)))

  pub start-few : to_go nx ws sg n (at_start h)
      ≤ 2 * (length (stored_at nx ws h) + n) + 1
  unfolding to_go
  start-few =
      rw zero-less (omega (arith, lies-most 0 (stored_at nx ws h) (segments_from sg 0 n), segments-length sg 0 n))

-- how many mappings are left at most
pub remaining-most : (nx ws sg : List ℕ) (n : ℕ) (c : RemapCursor) → Table ws sg n → Ready nx ws sg n c → length (remaining nx ws sg n c) ≤ 140000
unfolding remaining
remaining-most nx ws sg n c t g =
    rw (length-append (segment_yields (stored_at nx ws c.ongoing) (begun sg c)) (flow (max c.at.0 c.covered.0) (stored_at nx ws c.region) (rest sg n c)))
    (omega (
      arith,
      yields-length (begun sg c) (stored_at nx ws c.ongoing),
      regions-few g.on,
      flow-length (max c.at.0 c.covered.0) (stored_at nx ws c.region) (rest sg n c) (regions-few g.whole),
      segments-length sg c.segment (n - c.segment),
      t.few,
    ))

pub stream-most : (nx ws sg : List ℕ) (n h : ℕ) → Table ws sg n → Whole nx ws h → length (stream (stored_at nx ws h) (segments_from sg 0 n)) ≤ 140000
stream-most nx ws sg n h t g =
    omega (arith, ap length (start-stream nx ws sg n h t g), remaining-most nx ws sg n (at_start h) t (starts nx ws sg n h t g))

-- what the engine shows: slots that hold the records rs, and numbers that hold the segments ss
pub whole_of : {nx ws : List ℕ} {h : ℕ} {ss : List ℕ} {rs : List Region} → Listed nx h ss → records ws ss ≡ rs → Runs 0 rs → EndBy (2 ^ 64) rs
    → Whole nx ws h × (stored_at nx ws h ≡ rs)
whole_of {nx} {ws} {h} {ss} {rs} l e r b =
    let s : slots nx h ≡ ss = slots-are l in
    let k : stored_at nx ws h ≡ rs = ap (records ws) s ∙ e in (
      record {
        sound = record { listed = rw s l; ordered = rw k r.ordered };
        full = rw k r.full;
        ends = rw k b;
      },
      k,
    )

pub table_of : {ws sg : List ℕ} {n : ℕ} {ss : List Segment} → length ws ≡ pool_len → n ≤ 64 → 4 * n ≤ length sg → segments_from sg 0 n ≡ ss → AllGood ss
    → in_order ss ≡ true → Table ws sg n
table_of w f r e g o = record { words = w; few = f; room = r; good = rw e g; order = rw e o }
