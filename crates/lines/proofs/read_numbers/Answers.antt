use mathlib.Core.Path.{refl, sym, ap, ◌∙◌}
use native.Mathlib.Omega.{arith}
use lib.ListN.{length-set}
use Rattle.lines.specs.Lines.{read_as}
use Rattle.lines.proofs.Fields.{found_none, found-no, found-more, found_all}
use Rattle.lines.proofs.read_numbers.Goals as goal

pub loop-i-init : goal.loop-i-init
loop-i-init c = (refl, found_none c.args.n c.args.line.now _)

pub returns-in_err-found-clause-says : goal.returns-in_err-found-clause-says
returns-in_err-found-clause-says c =
    found-no c.args.n c.args.line.now c.requires.1 c.loop-i.i (omega arith) c.loop-i.found c.loop-i.invariant.1 c.read.result c.read.ensures c.in_err-found.was
    ∙ ap (read_as c.args.n) (sym c.from_residual.ensures)

pub loop-i-preserved : goal.loop-i-preserved
loop-i-preserved c = (
  simp length-set c.loop-i.invariant.0,
  found-more c.args.n c.args.line.now c.requires.1 c.loop-i.i (omega arith) c.loop-i.found c.loop-i.invariant.1 c.read.result c.read.ensures _ c.in_ok-found.was (omega arith),
)

pub returns-clause-says : goal.returns-clause-says
returns-clause-says c = found_all c.args.n c.args.line.now c.requires.1 c.loop-i.i c.loop-i.found (omega arith) (omega arith) c.loop-i.invariant.1
