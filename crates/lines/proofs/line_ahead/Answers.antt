use native.Mathlib.Omega.{arith}
use Prim.Native.Nat.{◌+◌, ◌*◌}
use mathlib.Core.Path.{sym, ◌∙◌}
use Rattle.lines.proofs.Whole.{begins}
use Rattle.lines.proofs.line_ahead.Goals as goal

pub returns : goal.returns
returns c = begins c.args.input.now c.args.from (3 + 21 * c.arity_of.result) _ (omega arith) (omega arith) (sym c.in_ok-call.was ∙ c.parse_line.ensures)
