use Rattle.key.specs.Stands.{Stands}
use Rattle.key.proofs.run.Given as goal

abbrev pub invariant-loop : goal.invariant-loop
invariant-loop g l = Stands l.session
