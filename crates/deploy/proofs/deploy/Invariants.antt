use Rattle.std.proofs.Common.{◌≤◌, length, IfSome}
use Rattle.deploy.proofs.deploy.Given as goal

abbrev pub invariant-loop : goal.invariant-loop
invariant-loop g l = IfSome l.next (λ next. next ≤ length l.text)
