use native.Mathlib.Omega.{arith}
use mathlib.Core.Path.{◌∙◌}
use Rattle.columns.proofs.Over.{over-spaces, still-spaces}
use Rattle.columns.proofs.fill.Goals as goal

pub over_spaces-requires : goal.over_spaces-requires
over_spaces-requires c = (omega (arith, c.spaces.auto.out), still-spaces c.args.at c.args.columns c.spaces.new.out c.args.out.now c.spaces.ensures)

pub returns : goal.returns
returns c = c.over_spaces.ensures ∙ over-spaces c.args.at c.args.columns c.spaces.new.out c.args.out.now c.spaces.ensures c.args.n
