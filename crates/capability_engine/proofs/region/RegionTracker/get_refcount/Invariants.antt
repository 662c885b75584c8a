use lib.ListN.{length}
use Rattle.definitions.proofs.Lists.{Ordered}
use Rattle.capability_engine.specs.PoolChain.{slots, stored_at}
use Rattle.capability_engine.specs.RegionAsks.{most_of, fold_from}
use Rattle.capability_engine.proofs.RegionFinds.{Folding}
use Rattle.capability_engine.proofs.region.RegionTracker.get_refcount.Given as goal

abbrev pub invariant-loop-cur : goal.invariant-loop-cur
invariant-loop-cur l = Folding (most_of l.start l.end) l.next l.words l.cur l.n (fold_from (most_of l.start l.end) l.initial.n (stored_at l.next l.words l.initial.cur)) × Ordered 0 (stored_at l.next l.words l.cur)

abbrev pub decreases-loop-cur : goal.decreases-loop-cur
decreases-loop-cur l = length (slots l.next l.cur)
