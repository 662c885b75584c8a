use lib.ListN.{length}
use mathlib.Core.Path.{◌≡◌}
use Rattle.capability_engine.specs.RegionPasses.{start_of}
use Rattle.capability_engine.specs.PoolChain.{Listed, slots, stored_at}
use Rattle.capability_engine.proofs.region.start_at.Given as goal

abbrev pub invariant-loop-cur : goal.invariant-loop-cur
invariant-loop-cur l = Listed l.next l.cur (slots l.next l.cur) × (start_of l.at (stored_at l.next l.words l.cur) ≡ start_of l.at (stored_at l.next l.words l.head))

abbrev pub decreases-loop-cur : goal.decreases-loop-cur
decreases-loop-cur l = length (slots l.next l.cur)
