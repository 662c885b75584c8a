use mathlib.Core.List.{List}
use mathlib.Core.Path.{◌≡◌}
use mathlib.Core.Bool.{false}
use Rattle.definitions.specs.Tests.{any}
use Rattle.definitions.specs.declared.remapper.Segment.{Segment}
use Rattle.capability_engine.specs.RemapHeld.{Sound, ahead}
use Rattle.capability_engine.specs.RemapAsking.{bad_for}
use Rattle.capability_engine.proofs.RemapWalks.{Trims}
use Rattle.capability_engine.proofs.remapper.Remapper.trim.Given as goal

abbrev pub invariant-loop-at : goal.invariant-loop-at
invariant-loop-at l =
    (ss : List Segment) → Sound l.initial.self ss → any (bad_for l.span) ss ≡ false → Trims l.self l.span l.up.hpa.0 l.prev l.last l.at ss

abbrev pub decreases-loop-at : goal.decreases-loop-at
decreases-loop-at l = ahead l.self.links l.at
