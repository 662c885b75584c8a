use mathlib.Core.List.{List}
use Rattle.definitions.specs.declared.remapper.Segment.{Segment}
use Rattle.capability_engine.specs.RemapHeld.{Sound, ahead}
use Rattle.capability_engine.specs.RemapAnswers.{Builds}
use Rattle.capability_engine.proofs.RemapCuts.{Lays, Moves}
use Rattle.capability_engine.proofs.remapper.Remapper.build.Given as goal

abbrev pub invariant-loop-at : goal.invariant-loop-at
invariant-loop-at l =
    (ss : List Segment) → Sound l.self ss → Builds l.span l.up ss → Lays l.self l.out l.span l.up.hpa.0 l.prev l.last l.at ss

abbrev pub decreases-loop-at : goal.decreases-loop-at
decreases-loop-at l = ahead l.self.links l.at

abbrev pub invariant-loop-moving : goal.invariant-loop-moving
invariant-loop-moving l =
    (goal : List Segment) → Moves l.self l.initial.out l.span l.initial.last l.initial.moving goal → Moves l.self l.out l.span l.last l.moving goal

abbrev pub decreases-loop-moving : goal.decreases-loop-moving
decreases-loop-moving l = ahead l.self.links l.moving
