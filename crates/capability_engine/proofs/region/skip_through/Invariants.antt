use Prim.Native.Nat.{◌≤◌}
use lib.ListN.{length}
use Rattle.capability_engine.specs.PoolChain.{slots, Passing}
use Rattle.capability_engine.proofs.region.skip_through.Given as goal

abbrev pub invariant-loop-cur : goal.invariant-loop-cur
invariant-loop-cur l = Passing (λ r. r.start.0 ≤ l.end.0) l.next l.words l.head l.p l.cur l.q

abbrev pub decreases-loop-cur : goal.decreases-loop-cur
decreases-loop-cur l = length (slots l.next l.cur)
