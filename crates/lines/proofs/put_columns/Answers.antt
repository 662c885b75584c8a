use native.Mathlib.Omega.{arith}
use Rattle.definitions.specs.Script.{answer_columns}
use Rattle.lines.proofs.Written.{none-written, ends, length-columns, columns-all}
use Rattle.columns.proofs.Room.{wrote_none}
use Rattle.lines.proofs.put_columns.Goals as goal

pub returns-in_err-end : goal.returns-in_err-end
returns-in_err-end c =
    none-written c.from_residual.ensures (wrote_none c.args.at 25 (answer_columns c.args.number c.args.value) c.args.out.now (length-columns c.args.number c.args.value) (omega (arith, c.in_err-end.ensures)))

pub returns : goal.returns
returns c = ends 25 (omega (arith, c.in_ok-end.ensures)) (columns-all c.args.at c.args.number c.args.value c.args.out.now c.write.new.out c.write-2.new.out c.write.result c.write-2.result (omega (arith, c.in_ok-end.ensures)) c.write.ensures c.write-2.ensures)
