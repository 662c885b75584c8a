use native.Mathlib.Omega.{arith}
use lib.ListN.{get_or}
use Rattle.definitions.specs.Tests.{host}
use Rattle.bundles.proofs.TurnLaws.{an-add, a-remove, no_call}
use Rattle.bundles.proofs.judge.Goals as goal

pub returns-in-0 : goal.returns-in-0
unfolding host
returns-in-0 c = λ calls g. an-add calls _ _ _ _ _ _ _ _ _ _ _ _ _ _ _ _ c.in-0.is (c.add.ensures calls g)

pub returns-in-1 : goal.returns-in-1
unfolding host
returns-in-1 c = λ calls g. a-remove calls _ _ _ _ _ _ _ _ _ _ _ _ _ _ _ _ c.in-1.is (c.remove.ensures calls g)

pub returns-in_default : goal.returns-in_default
returns-in_default c = λ calls g. no_call calls c.args.compartment (get_or c.args.group.now 0 0) (get_or c.args.group.now 1 0) (get_or c.args.group.now 2 0) (get_or c.args.group.now 3 0) _ _ _ _ _ (λ e. omega (arith, e)) (λ e. omega (arith, e)) g
