use Rattle.layouts.specs.Stands.{Stands}
use Rattle.layouts.proofs.singles.Given as goal

abbrev pub invariant-loop-i : goal.invariant-loop-i
invariant-loop-i g l = Stands l.bench
