use Rattle.std.proofs.Common.{◌≤◌, length}
use Rattle.key.specs.Stands.{Stands}
use Rattle.key.proofs.Session.pump.Given as goal

abbrev pub invariant-loop : goal.invariant-loop
invariant-loop l = (l.from ≤ length l.input) × Stands l.self
