use native.Mathlib.Omega.{arith}
use mathlib.Core.List.{[], ◌∷◌}
use Rattle.definitions.specs.Script.{script_line}
use Rattle.columns.proofs.Room.{wrote-all}
use Rattle.lines.proofs.Written.{none-written, ends, length-line}
use Rattle.columns.proofs.Room.{wrote_none}
use Rattle.lines.proofs.put_allow.Goals as goal

pub returns-in_err-end : goal.returns-in_err-end
returns-in_err-end c =
    none-written c.from_residual.ensures (wrote_none c.args.at 25 (script_line 83 c.args.compartment (c.args.allowance ∷ [])) c.args.out.now (length-line 83 c.args.compartment (c.args.allowance ∷ [])) (omega (arith, c.in_err-end.ensures)))

pub returns : goal.returns
returns c = ends 25 (omega (arith, c.in_ok-end.ensures)) (wrote-all c.args.at 25 (script_line 83 c.args.compartment (c.args.allowance ∷ [])) c.args.out.now c.write_line.new.out (length-line 83 c.args.compartment (c.args.allowance ∷ [])) (omega (arith, c.in_ok-end.ensures)) c.write_line.ensures)
