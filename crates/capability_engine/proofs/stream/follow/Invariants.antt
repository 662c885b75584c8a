use Rattle.capability_engine.specs.PoolChain.{slots, Listed}
use lib.ListN.{drop}
use mathlib.Core.Path.{◌≡◌}
use Prim.Native.Nat.{◌≤◌}
use Rattle.capability_engine.proofs.stream.follow.Given as goal

abbrev pub invariant-loop-i : goal.invariant-loop-i
invariant-loop-i l = (l._i ≤ l.k) × Listed l.next l.h (slots l.next l.h) × (slots l.next l.h ≡ drop l._i (slots l.next l.head))
