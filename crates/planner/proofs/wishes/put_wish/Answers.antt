use mathlib.Core.Path.{ap}
use mathlib.Core.Bool.{not}
use Rattle.planner.proofs.WriteLaws.{wish-refused}
use Rattle.planner.proofs.wishes.put_wish.Goals as goal

pub returns-then-not-can_wish : goal.returns-then-not-can_wish
returns-then-not-can_wish c = wish-refused c.args.compartment c.args.allowance c.args.wanted.now c.args.out.now c.put_refusal.new.out c.put_refusal.result c.can_wish.result c.can_wish.ensures (ap not c.if-not-can_wish.true) c.put_refusal.ensures
