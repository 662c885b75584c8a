use mathlib.Core.Path.{refl, ◌∙◌}
use Rattle.std.proofs.lemmas.Result.{err_from_is_err_and}
use Rattle.definitions.specs.Pages.{permission_group}
use Rattle.definitions.specs.Script.{script_line}
use Rattle.planner.proofs.Cursors.{plan-start}
use Rattle.planner.proofs.WriteLaws.{line-more, adding-start, adding-more, adding-stop}
use Rattle.planner.proofs.wishes.add_lines.Goals as goal

pub loop-p-init : goal.loop-p-init
loop-p-init c = record { size = refl; adding = adding-start c.args.compartment c.args.wanted.now _ c.args.out.now c.args.at (plan-start _) }

pub returns-in_err-at : goal.returns-in_err-at
returns-in_err-at c =
    let p = err_from_is_err_and c.from_residual.result c.from_residual.ensures.1 in
    rw (p.1, p.2) (adding-stop c.args.compartment c.args.wanted.now c.loop-p.c c.args.out.now c.loop-p.out c.args.at c.loop-p.at c.loop-p.invariant.adding c.in-Some.p c.next.new.self c.put_add.new.out c.ok_or.result c.in-Some.ensures
    (line-more (script_line 65 c.args.compartment (permission_group c.in-Some.p)) c.loop-p.out c.put_add.new.out c.loop-p.at c.put_add.result c.put_add.ensures c.ok_or.result c.ok_or.ensures.value) _ c.in_err-at.was)

pub loop-p-preserved : goal.loop-p-preserved
loop-p-preserved c = record {
  size = c.put_add.auto.out ∙ c.loop-p.invariant.size;
  adding = adding-more c.args.compartment c.args.wanted.now c.loop-p.c c.args.out.now c.loop-p.out c.args.at c.loop-p.at c.loop-p.invariant.adding c.in-Some.p c.next.new.self c.put_add.new.out c.ok_or.result c.in-Some.ensures
      (line-more (script_line 65 c.args.compartment (permission_group c.in-Some.p)) c.loop-p.out c.put_add.new.out c.loop-p.at c.put_add.result c.put_add.ensures c.ok_or.result c.ok_or.ensures.value) _ c.in_ok-at.was;
}
