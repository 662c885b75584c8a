use mathlib.Core.Path.{◌∙◌}
use native.Mathlib.Omega.{arith}
use Rattle.lines.proofs.Written.{numbers-again}
use Rattle.lines.proofs.write_numbers.Goals as goal

pub loop-i-preserved : goal.loop-i-preserved
loop-i-preserved c = (
  c.write.auto.out ∙ c.loop-i.invariant.0,
  numbers-again c.args.at c.loop-i.i c.args.group.now c.loop-i.out c.write.new.out c.args.out.now c.write.result (omega arith) (omega arith) c.loop-i.invariant.1 c.write.ensures,
)
