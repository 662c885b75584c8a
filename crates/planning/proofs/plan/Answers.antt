use Rattle.capability_engine.proofs.CompartmentReads.{handed}
use Rattle.planning.proofs.Allowances.{plan-nowhere, plan-here}
use Rattle.planning.proofs.plan.Goals as goal

pub returns-in_err-k : goal.returns-in_err-k
returns-in_err-k c = λ calls g. rw (handed c.from_residual.result _ c.from_residual.ensures.1 c.in_err-k.ensures.none.0) (plan-nowhere _ _ _ _ _ calls g _ _ _ _ c.in_err-k.ensures.none.1)

pub returns : goal.returns
returns c = λ calls g. rw c.in_ok-k.ensures.one.0 (plan-here c.args.words.now c.args.next.now c.args.links.now c.args.gens.now c.args.tables.now calls g _ c.args.wanted.now c.args.from c.args.out.now _ c.plan.new.out c.plan.result c.in_ok-k.ensures.one.1 c.plan.ensures)
