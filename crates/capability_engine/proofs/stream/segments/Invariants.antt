use Prim.Native.Nat.{◌+◌, ◌-◌}
use Rattle.definitions.proofs.Fills.{Walk}
use Rattle.definitions.specs.Pages.{segment_group}
use Rattle.capability_engine.specs.SegmentWords.{segments_from}
use Rattle.capability_engine.proofs.stream.segments.Given as goal

abbrev pub invariant-loop-i : goal.invariant-loop-i
invariant-loop-i l =
    Walk 4 segment_group (segments_from l.list l.k (l.n - l.k)) (segments_from l.list (l.k + l.i) (l.n - (l.k + l.i))) l.initial.out l.out l.i
