use mathlib.Core.List.{List}
use Rattle.definitions.specs.declared.remapper.Segment.{Segment}
use Rattle.capability_engine.specs.RemapHeld.{Holds, ahead}
use Rattle.capability_engine.proofs.RemapCuts.{Asks}
use Rattle.capability_engine.proofs.remapper.Remapper.ask.Given as goal

abbrev pub invariant-loop-at : goal.invariant-loop-at
invariant-loop-at l = (ss : List Segment) → Holds l.self ss → Asks l.self l.span l.k l.at ss

abbrev pub decreases-loop-at : goal.decreases-loop-at
decreases-loop-at l = ahead l.self.links l.at
