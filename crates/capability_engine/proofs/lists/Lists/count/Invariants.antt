use Rattle.capability_engine.specs.StreamCursor.{Ready, remaining}
use lib.ListN.{length}
use mathlib.Core.Path.{◌≡◌}
use Prim.Native.Nat.{◌+◌}
use Rattle.capability_engine.proofs.lists.Lists.count.Given as goal

abbrev pub invariant-loop-d : goal.invariant-loop-d
invariant-loop-d l =
    Ready l.self.next.now l.self.words.now l.self.segments.now l.self.n l.c × (l.k + length (remaining l.self.next.now l.self.words.now l.self.segments.now l.self.n l.c) ≡ length (remaining l.self.next.now l.self.words.now l.self.segments.now l.self.n l.initial.c))

abbrev pub decreases-loop-d : goal.decreases-loop-d
decreases-loop-d l = length (remaining l.self.next.now l.self.words.now l.self.segments.now l.self.n l.c)
