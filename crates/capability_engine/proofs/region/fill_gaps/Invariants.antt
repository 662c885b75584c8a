use Rattle.definitions.proofs.Lists.{fill}
use Rattle.capability_engine.specs.PoolOwn.{heap, records_of}
use Rattle.capability_engine.proofs.PoolZips.{Zip, ahead}
use Rattle.capability_engine.proofs.region.fill_gaps.Given as goal

abbrev pub invariant-loop-next : goal.invariant-loop-next
invariant-loop-next l = Zip l.initial.next l.initial.words (heap l.initial.links l.gens l.initial.arena) l.next l.words (heap l.links l.gens l.arena) l.q (fill l.s l.end) (fill l.initial.s l.end (records_of l.initial.next l.initial.words))

abbrev pub decreases-loop-next : goal.decreases-loop-next
decreases-loop-next l = ahead l.next l.q
