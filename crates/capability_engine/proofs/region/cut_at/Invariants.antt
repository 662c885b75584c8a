use Rattle.definitions.specs.Regions.{cut}
use Rattle.capability_engine.specs.PoolOwn.{heap, records_of}
use Rattle.capability_engine.proofs.PoolZips.{Zip, ahead}
use Rattle.capability_engine.proofs.region.cut_at.Given as goal

abbrev pub invariant-loop-at : goal.invariant-loop-at
invariant-loop-at l = Zip l.initial.next l.initial.words (heap l.initial.links l.gens l.initial.arena) l.next l.words (heap l.links l.gens l.arena) l.q (cut l.at) (cut l.at (records_of l.initial.next l.initial.words))

abbrev pub decreases-loop-at : goal.decreases-loop-at
decreases-loop-at l = ahead l.next l.q
