use Rattle.layouts.specs.Stands.{Stands}
use Rattle.layouts.proofs.crowd.Given as goal

abbrev pub invariant-loop-row : goal.invariant-loop-row
invariant-loop-row g l = Stands l.bench

abbrev pub invariant-loop-row-2 : goal.invariant-loop-row-2
invariant-loop-row-2 g l = Stands l.bench
