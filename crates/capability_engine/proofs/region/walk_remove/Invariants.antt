use lib.ListN.{length}
use Rattle.definitions.proofs.Lists.{Ordered}
use Rattle.capability_engine.specs.PoolChain.{slots, stored_at}
use Rattle.capability_engine.specs.RegionAsks.{remove_step, remove_begin, fold_from}
use Rattle.capability_engine.proofs.RegionFinds.{Folding}
use Rattle.capability_engine.proofs.region.walk_remove.Given as goal

abbrev pub invariant-loop-cur : goal.invariant-loop-cur
invariant-loop-cur l = Folding (remove_step l.start l.end l.rights) l.next l.words l.cur l.ask (fold_from (remove_step l.start l.end l.rights) (remove_begin l.room) (stored_at l.next l.words l.head)) × Ordered 0 (stored_at l.next l.words l.cur)

abbrev pub decreases-loop-cur : goal.decreases-loop-cur
decreases-loop-cur l = length (slots l.next l.cur)
