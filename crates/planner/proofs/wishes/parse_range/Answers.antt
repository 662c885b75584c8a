use Rattle.definitions.specs.Pages.{permission_group}
use Rattle.planner.proofs.ReadLaws.{range-1, range-2, range-3, range_all}
use Rattle.planner.proofs.wishes.parse_range.Goals as goal

pub returns-in_err-start : goal.returns-in_err-start
returns-in_err-start c = rw c.from_residual.ensures (range-1 c.args.line.now c.requires c.read.result c.read.ensures c.in_err-start.was)

pub returns-in_err-end : goal.returns-in_err-end
returns-in_err-end c = rw c.from_residual-in_err-end.ensures (range-2 c.args.line.now c.requires c.read-2.result c.read-2.ensures c.in_err-end.was)

pub returns-in_err-rights : goal.returns-in_err-rights
returns-in_err-rights c = rw c.from_residual-in_err-rights.ensures (range-3 c.args.line.now c.requires c.read-3.result c.read-3.ensures c.in_err-rights.was)

pub returns : goal.returns
unfolding permission_group
returns c = range_all c.args.line.now c.requires c.read.result c.read-2.result c.read-3.result _ _ _ c.read.ensures c.in_ok-start.was c.read-2.ensures c.in_ok-end.was c.read-3.ensures c.in_ok-rights.was
