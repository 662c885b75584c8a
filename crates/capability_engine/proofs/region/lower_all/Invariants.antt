use Rattle.capability_engine.specs.RegionPasses.{lowered}
use Rattle.capability_engine.specs.PoolOwn.{heap, records_of}
use Rattle.capability_engine.proofs.PoolZips.{Zip, ahead}
use Rattle.capability_engine.proofs.region.lower_all.Given as goal

abbrev pub invariant-loop-start : goal.invariant-loop-start
invariant-loop-start l = Zip l.initial.next l.initial.words (heap l.initial.links l.initial.gens l.initial.arena) l.next l.words (heap l.links l.gens l.arena) l.q (lowered l.rights l.start l.end) (lowered l.rights l.start l.end (records_of l.initial.next l.initial.words))

abbrev pub decreases-loop-start : goal.decreases-loop-start
decreases-loop-start l = ahead l.next l.q
