use native.Mathlib.Omega.{arith}
use Rattle.planner.proofs.Cursors.{plan-start, skip_step, skip-end, went, stopped}
use Rattle.planner.proofs.skip.Goals as goal

pub loop-init : goal.loop-init
loop-init c = plan-start _

pub returns-then-is_none : goal.returns-then-is_none
returns-then-is_none c = skip-end c.args.wanted.now c.loop.c c.next.new.self c.loop.counter c.args.k _ (stopped c.args.wanted.now c.loop.c c.next.new.self c.next.result c.next.ensures c.if-is_none.ensures) (omega arith) c.loop.invariant

pub loop-preserved : goal.loop-preserved
loop-preserved c = let s = went c.args.wanted.now c.loop.c c.next.new.self c.next.result c.next.ensures c.if-is_none.ensures in skip_step c.args.wanted.now c.loop.c c.next.new.self s.0 c.loop.counter _ s.1 c.loop.invariant
