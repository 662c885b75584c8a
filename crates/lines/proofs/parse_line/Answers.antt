use mathlib.Core.Path.{◌∙◌}
use native.Mathlib.Omega.{arith}
use Rattle.lines.proofs.Fields.{line-empty, line-length, line-compartment, line-numbers, line-call}
use Rattle.lines.proofs.parse_line.Goals as goal

pub returns-in_default : goal.returns-in_default
returns-in_default c = line-empty c.args.line.now (omega arith)

pub returns-then-line-n : goal.returns-then-line-n
returns-then-line-n c = line-length c.args.line.now (omega arith) c.arity_of-n.result c.arity_of-n.ensures.0 (omega arith)

pub returns-in_err-k : goal.returns-in_err-k
returns-in_err-k c =
    c.from_residual.ensures
    ∙ line-compartment c.args.line.now (omega arith) c.arity_of-n.result c.arity_of-n.ensures.0 (omega arith) c.read.result c.read.ensures c.in_err-k.was

pub returns-in_err-a : goal.returns-in_err-a
returns-in_err-a c =
    c.from_residual-in_err-a.ensures
    ∙ line-numbers c.args.line.now (omega arith) c.arity_of-n.result c.arity_of-n.ensures.0 (omega arith) c.read.result c.read.ensures c.in_ok-k.k c.in_ok-k.was c.read_numbers.result c.read_numbers.ensures.says c.in_err-a.was

pub returns : goal.returns
returns c =
    line-call c.args.line.now (omega arith) c.arity_of-n.result c.arity_of-n.ensures.0 (omega arith) c.read.result c.read.ensures c.in_ok-k.k c.in_ok-k.was c.read_numbers.result c.read_numbers.ensures.says c.in_ok-a.field-0 c.in_ok-a.was c.in_ok-a.ensures.four c.call_of.result c.call_of.ensures
