use native.Mathlib.Omega.{arith}
use Rattle.definitions.specs.Pages.{mapping_group}
use Rattle.definitions.specs.Script.{mapping_line}
use Rattle.lines.proofs.Written.{none-written, ends, length-mapping, mapping-all}
use Rattle.columns.proofs.Room.{wrote_none}
use Rattle.lines.proofs.put_mapping.Goals as goal

pub returns-in_err-end : goal.returns-in_err-end
unfolding mapping_group
returns-in_err-end c =
    none-written c.from_residual.ensures (wrote_none c.args.at 106 (mapping_line c.args.mapping) c.args.out.now (length-mapping c.args.mapping) (omega (arith, c.in_err-end.ensures)))

pub returns : goal.returns
unfolding mapping_group
returns c = ends 106 (omega (arith, c.in_ok-end.ensures)) (mapping-all c.args.at c.args.mapping c.args.out.now c.write_numbers.new.out (omega (arith, c.in_ok-end.ensures)) c.write_numbers.ensures)
