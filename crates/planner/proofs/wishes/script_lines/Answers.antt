use mathlib.Core.Path.{subst}
use Rattle.std.proofs.lemmas.Result.{err_from_is_err_and}
use Rattle.planner.specs.Writing.{Adds, allow_lines}
use Rattle.planner.proofs.WriteLaws.{script-both, script-stop}
use Rattle.planner.proofs.wishes.script_lines.Goals as goal

pub returns-in_err-at : goal.returns-in_err-at
returns-in_err-at c =
    let p = err_from_is_err_and c.from_residual.result c.from_residual.ensures.1 in
    rw (p.1, p.2) (script-stop c.args.compartment c.args.allowance c.args.wanted.now c.args.out.now c.allow_lines.new.out c.allow_lines.new.out _ (subst (Adds (allow_lines c.args.compartment c.args.allowance) c.args.out.now c.allow_lines.new.out 0) c.in_err-at.was c.allow_lines.ensures))

pub returns : goal.returns
returns c = script-both c.args.compartment c.args.allowance c.args.wanted.now c.args.out.now c.allow_lines.new.out c.add_lines.new.out c.in_ok-at.at c.add_lines.result (subst (Adds (allow_lines c.args.compartment c.args.allowance) c.args.out.now c.allow_lines.new.out 0) c.in_ok-at.was c.allow_lines.ensures) c.add_lines.ensures
