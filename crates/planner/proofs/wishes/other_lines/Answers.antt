use mathlib.Core.Path.{refl, sym, ◌∙◌, subst}
use Rattle.std.specs.Prelude.{Ok}
use Rattle.std.proofs.lemmas.Result.{err_from_is_err_and}
use Rattle.planner.specs.Writing.{Adds, other_lines}
use Rattle.planner.proofs.WriteLaws.{adds_none, others-none, others-more, others-stop}
use Rattle.planner.proofs.wishes.other_lines.Goals as goal

pub loop-j-init : goal.loop-j-init
loop-j-init c = record {
  size = refl;
  adds = subst (λ ls. Adds ls c.args.out.now c.args.out.now c.args.at (Ok c.args.at)) (sym (others-none c.args.k c.args.allowance)) (adds_none c.args.out.now c.args.at);
}

pub returns-in_err-at : goal.returns-in_err-at
returns-in_err-at c =
    let p = err_from_is_err_and c.from_residual.result c.from_residual.ensures.1 in
    rw (p.1, p.2) (others-stop c.args.k c.args.allowance c.loop-j.j c.args.out.now c.loop-j.out c.other_line.new.out c.args.at c.loop-j.at c.other_line.result c.loop-j.invariant.adds c.other_line.ensures c.loop-j-test.true _ c.in_err-at.was)

pub loop-j-preserved : goal.loop-j-preserved
loop-j-preserved c = record {
  size = c.other_line.auto.out ∙ c.loop-j.invariant.size;
  adds = subst (Adds (other_lines c.args.k 0 _ c.args.allowance) c.args.out.now c.other_line.new.out c.args.at) c.in_ok-at.was (others-more c.args.k c.args.allowance c.loop-j.j c.args.out.now c.loop-j.out c.other_line.new.out c.args.at c.loop-j.at c.other_line.result c.loop-j.invariant.adds c.other_line.ensures);
}
