use Prim.Native.Nat.{◌-◌}
use mathlib.Core.List.{map}
use lib.ListN.{length, drop}
use Rattle.definitions.specs.Script.{mapping_line}
use Rattle.definitions.specs.Stream.{stream}
use Rattle.capability_engine.specs.PoolChain.{stored_at}
use Rattle.capability_engine.specs.SegmentWords.{segments_from}
use Rattle.capability_engine.specs.StreamCursor.{Ready, remaining}
use Rattle.capability_engine.proofs.ScriptPrints.{Printing}
use Rattle.capability_engine.proofs.script.print_mappings.Given as goal

abbrev pub invariant-loop-m : goal.invariant-loop-m
invariant-loop-m l = Ready l.next l.words l.segments l.n l.cursor × Printing (drop (l.initial.p.from - 1) (map mapping_line (stream (stored_at l.next l.words l.head) (segments_from l.segments 0 l.n)))) l.initial.out l.out l.initial.p l.p (map mapping_line (remaining l.next l.words l.segments l.n l.cursor))

abbrev pub decreases-loop-m : goal.decreases-loop-m
decreases-loop-m l = length (remaining l.next l.words l.segments l.n l.cursor)
