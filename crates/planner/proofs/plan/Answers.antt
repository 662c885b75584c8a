use mathlib.Core.Path.{ap}
use mathlib.Core.Bool.{not}
use Rattle.planner.proofs.Cursors.{page-none, page-some}
use Rattle.planner.proofs.plan.Goals as goal

pub returns-then-not-can_wish : goal.returns-then-not-can_wish
returns-then-not-can_wish c = page-none c.args.allowance c.args.wanted.now c.args.from c.args.out.now c.can_wish.result c.can_wish.ensures (ap not c.if-not-can_wish.true)

pub returns : goal.returns
returns c = page-some c.args.allowance c.args.wanted.now c.args.from c.args.out.now c.can_wish.result c.can_wish.ensures (ap not c.if-not-can_wish.false) c.skip-c.result c.skip-c.ensures _ _ c.fill-n.ensures
