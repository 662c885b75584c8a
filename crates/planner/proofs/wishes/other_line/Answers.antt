use mathlib.Core.Path.{sym, subst}
use Rattle.std.specs.Prelude.{Ok}
use Rattle.planner.specs.Writing.{Adds}
use Rattle.planner.proofs.WriteLaws.{adds_none, other-same, other-not}
use Rattle.planner.proofs.wishes.other_line.Goals as goal

pub returns-then-j-k : goal.returns-then-j-k
returns-then-j-k c = subst (λ ls. Adds ls c.args.out.now c.args.out.now c.args.at (Ok c.args.at)) (sym (other-same c.args.k c.args.allowance c.args.j c.if-j-k.true)) (adds_none c.args.out.now c.args.at)

pub returns : goal.returns
returns c = subst (λ ls. Adds ls c.args.out.now c.allow_line.new.out c.args.at c.allow_line.result) (sym (other-not c.args.k c.args.allowance c.args.j c.if-j-k.false)) c.allow_line.ensures
