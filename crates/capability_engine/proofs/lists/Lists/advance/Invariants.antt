use Rattle.capability_engine.specs.StreamCursor.{Ready, remaining}
use lib.ListN.{drop}
use mathlib.Core.Path.{◌≡◌}
use Prim.Native.Nat.{◌≤◌}
use Rattle.capability_engine.proofs.lists.Lists.advance.Given as goal

abbrev pub invariant-loop-i : goal.invariant-loop-i
invariant-loop-i l =
    (l._i ≤ l.k) × Ready l.self.next.now l.self.words.now l.self.segments.now l.self.n l.c × (remaining l.self.next.now l.self.words.now l.self.segments.now l.self.n l.c ≡ drop l._i (remaining l.self.next.now l.self.words.now l.self.segments.now l.self.n l.initial.c))
