use mathlib.Core.Path.{ap, ◌≡◌, ◌∙◌}
use native.Mathlib.Omega.{arith}
use Prim.Native.Nat.{◌+◌, ◌-◌, ◌*◌, ◌<◌}
use lib.Seq.{sets}
use Rattle.definitions.specs.Pages.{segment_group}
use Rattle.definitions.specs.declared.remapper.Segment.{Segment}
use Rattle.definitions.proofs.Fills.{four, walk_start, walk-fits, walk_more, from_at}
use Rattle.capability_engine.specs.SegmentWords.{segments_from}
use Rattle.capability_engine.proofs.StreamLinks.{segments-step, segments-length, segments-drop}
use Rattle.capability_engine.proofs.StreamWalks.{walk-most}
use Rattle.capability_engine.proofs.stream.segments.Goals as goal

pub loop-i-init : goal.loop-i-init
loop-i-init c = let e : c.args.k + 0 ≡ c.args.k = omega arith in rw e (walk_start 4 segment_group four)

pub put_segment-requires : goal.put_segment-requires
put_segment-requires c = walk-fits 4 segment_group four c.loop-i.invariant (omega (arith, c.loop-i-test.true, c.min-many.ensures))

pub loop-i-preserved : goal.loop-i-preserved
loop-i-preserved c =
    let l : c.args.k + c.loop-i.i < c.args.n = omega (arith, c.loop-i-test.true, c.min-many.ensures, c.saturating_sub.ensures) in
    let e : c.args.k + (c.loop-i.i + 1) ≡ c.args.k + c.loop-i.i + 1 = omega arith in
    rw e (walk_more 4 segment_group four c.loop-i.invariant (segments-step _ _ _ l) (omega (arith, c.loop-i-test.true, c.min-many.ensures))
    (c.put_segment.ensures ∙ ap (λ (s : Segment). sets c.loop-i.out (4 * c.loop-i.i) (segment_group s)) c.load_segment-s.ensures))

pub returns : goal.returns
returns c = from_at 4 segment_group (segments_from c.args.list.now 0 c.args.n) _ c.args.k _ _ _ (segments-drop c.args.list.now c.args.k c.args.n)
    (walk-most 4 segment_group four c.loop-i.invariant _ (omega (arith, c.min-many.ensures, c.saturating_sub.ensures, segments-length c.args.list.now c.args.k (c.args.n - c.args.k))) c.loop-i-test.false)
