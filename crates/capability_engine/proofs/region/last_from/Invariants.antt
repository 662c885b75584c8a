use mathlib.Core.Path.{◌≡◌}
use lib.ListN.{get_or, length}
use Rattle.capability_engine.specs.PoolChain.{last, slots, Listed}
use Rattle.capability_engine.proofs.region.last_from.Given as goal

abbrev pub invariant-loop-cur : goal.invariant-loop-cur
invariant-loop-cur l = Listed l.next l.cur (slots l.next l.cur) × (last l.q (slots l.next l.cur) ≡ last l.p (slots l.next (get_or l.next l.p 0)))

abbrev pub decreases-loop-cur : goal.decreases-loop-cur
decreases-loop-cur l = length (slots l.next l.cur)
