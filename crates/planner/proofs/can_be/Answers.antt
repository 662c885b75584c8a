use Rattle.planner.proofs.Cursors.{too-low, no_address, no-rights, is-apart, all-is-apart}
use native.Mathlib.Omega.{arith}
use Rattle.planner.proofs.can_be.Goals as goal
use Rattle.planner.proofs.can_be.Goals.{then-p-lo-via-then-p-lo, then-p-lo-via-else-p-lo+then-p, then-p-lo-via-else-p-lo+else-p+then-p-ge64}

pub returns-then-p-lo : goal.returns-then-p-lo
returns-then-p-lo c = elim c.then-p-lo.branch [
  | then-p-lo-via-then-p-lo w ↦ too-low c.args.allowance c.args.wanted.now c.loop-i.lo c.loop-i.i c.load-p.result c.load-p.ensures (omega arith) c.loop-i.invariant w.if-p-lo.true
  | then-p-lo-via-else-p-lo+then-p w ↦ no_address c.args.allowance c.args.wanted.now c.loop-i.lo c.loop-i.i c.load-p.result c.load-p.ensures (omega arith) c.loop-i.invariant w.if-p.true
  | then-p-lo-via-else-p-lo+else-p+then-p-ge64 w ↦ no-rights c.args.allowance c.args.wanted.now c.loop-i.lo c.loop-i.i c.load-p.result c.load-p.ensures (omega arith) c.loop-i.invariant w.if-p-ge64.true
]

pub loop-i-preserved : goal.loop-i-preserved
loop-i-preserved c = is-apart c.args.allowance c.args.wanted.now c.loop-i.lo c.loop-i.i c.load-p.result c.load-p.ensures (omega arith) c.loop-i.invariant (omega arith) (omega arith) (omega arith)

pub returns : goal.returns
returns c = all-is-apart c.args.allowance c.args.wanted.now c.loop-i.lo c.loop-i.i (omega arith) c.loop-i.invariant
