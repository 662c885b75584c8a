use Rattle.definitions.proofs.Lists.{change}
use Rattle.definitions.specs.Values.{raise}
use Rattle.capability_engine.specs.PoolOwn.{Heap, Ready, records_of}
use Rattle.capability_engine.proofs.PoolZips.{Zip, ahead}
use Rattle.capability_engine.proofs.region.raise_all.Given as goal

abbrev pub invariant-loop-start : goal.invariant-loop-start
invariant-loop-start l = (fl : Heap) → Ready l.next l.initial.words fl → Zip l.next l.initial.words fl l.next l.words fl l.q (change (raise l.rights) l.start l.end) (change (raise l.rights) l.start l.end (records_of l.next l.initial.words))

abbrev pub decreases-loop-start : goal.decreases-loop-start
decreases-loop-start l = ahead l.next l.q
