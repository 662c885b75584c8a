use native.Mathlib.Omega.{arith}
use Rattle.definitions.specs.Pages.{permission_group}
use Rattle.definitions.specs.Script.{script_line}
use Rattle.columns.proofs.Room.{wrote-all}
use Rattle.lines.proofs.Written.{none-written, ends, length-line}
use Rattle.columns.proofs.Room.{wrote_none}
use Rattle.lines.proofs.put_add.Goals as goal

pub returns-in_err-end : goal.returns-in_err-end
unfolding permission_group
returns-in_err-end c =
    none-written c.from_residual.ensures (wrote_none c.args.at 67 (script_line 65 c.args.compartment (permission_group c.args.range)) c.args.out.now (length-line 65 c.args.compartment (permission_group c.args.range)) (omega (arith, c.in_err-end.ensures)))

pub returns : goal.returns
unfolding permission_group
returns c = ends 67 (omega (arith, c.in_ok-end.ensures)) (wrote-all c.args.at 67 (script_line 65 c.args.compartment (permission_group c.args.range)) c.args.out.now c.write_line.new.out (length-line 65 c.args.compartment (permission_group c.args.range)) (omega (arith, c.in_ok-end.ensures)) c.write_line.ensures)
