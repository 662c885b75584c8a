use native.Mathlib.Omega.{arith}
use Prim.Native.Nat.{◌-◌}
use Rattle.definitions.specs.Script.{heading}
use Rattle.lines.proofs.Written.{none-written, ends, length-heading, heading-put, heading-all}
use Rattle.columns.proofs.Room.{wrote_none}
use Rattle.lines.proofs.put_heading.Goals as goal

pub returns-in_err-end : goal.returns-in_err-end
unfolding heading
returns-in_err-end c =
    none-written c.from_residual.ensures (wrote_none c.args.at 25 heading c.args.out.now length-heading (omega (arith, c.in_err-end.ensures)))

pub returns : goal.returns
unfolding heading
returns c = ends 25 (omega (arith, c.in_ok-end.ensures)) (heading-all c.args.at c.args.out.now _ (omega (arith, c.in_ok-end.ensures)) (heading-put c.args.at (c.in_ok-end.end - c.args.at) c.args.out.now c.copy_from_slice.new.self (omega (arith, c.in_ok-end.ensures)) (omega (arith, c.in_ok-end.ensures)) c.copy_from_slice.ensures.after))
