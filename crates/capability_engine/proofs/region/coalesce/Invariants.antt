use Rattle.definitions.specs.Regions.{joined}
use Rattle.capability_engine.specs.PoolOwn.{heap, records_of}
use Rattle.capability_engine.proofs.PoolZips.{Zip, ahead}
use Rattle.capability_engine.proofs.region.coalesce.Given as goal

abbrev pub invariant-loop-q : goal.invariant-loop-q
invariant-loop-q l = Zip l.initial.next l.initial.words (heap l.initial.links l.initial.gens l.initial.arena) l.next l.words (heap l.links l.gens l.arena) l.q joined (joined (records_of l.initial.next l.initial.words))

abbrev pub decreases-loop-q : goal.decreases-loop-q
decreases-loop-q l = ahead l.next l.q
