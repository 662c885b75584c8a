use Rattle.layouts.specs.Stands.{Stands}
use Rattle.layouts.proofs.main.Given as goal

abbrev pub invariant-loop-row : goal.invariant-loop-row
invariant-loop-row l = Stands l.bench
