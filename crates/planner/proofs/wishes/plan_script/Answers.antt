use native.Mathlib.Omega.{arith}
use Rattle.planner.proofs.WriteLaws.{text-many, text-broken, text-wish}
use Rattle.planner.proofs.wishes.plan_script.Goals as goal

pub returns-then-n-gt-MOST : goal.returns-then-n-gt-MOST
returns-then-n-gt-MOST c = text-many c.args.compartment c.args.allowance c.args.text.now c.args.out.now c.put_refusal-then-n-gt-MOST.new.out c.put_refusal-then-n-gt-MOST.result (omega arith) (omega arith) c.read_wish.new.wish _ c.in-Ok.ensures c.if-n-gt-MOST.true c.put_refusal-then-n-gt-MOST.ensures

pub returns-in-Err : goal.returns-in-Err
returns-in-Err c = text-broken c.args.compartment c.args.allowance c.args.text.now c.args.out.now c.put_refusal-in-Err.new.out c.put_refusal-in-Err.result (omega arith) (omega arith) _ c.in-Err.ensures c.put_refusal-in-Err.ensures

pub returns-else-n-gt-MOST : goal.returns-else-n-gt-MOST
returns-else-n-gt-MOST c = text-wish c.args.compartment c.args.allowance c.args.text.now c.args.out.now c.put_wish.new.out c.put_wish.result (omega arith) (omega arith) c.read_wish.new.wish _ c.in-Ok.ensures (omega (arith, c.read_wish.auto.wish, c.if-n-gt-MOST.false)) c.put_wish.ensures
