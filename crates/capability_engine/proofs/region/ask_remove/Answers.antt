use Rattle.std.proofs.lemmas.Result.{err_from_is_err_and}
use mathlib.Core.Path.{◌∙◌}
use Rattle.capability_engine.specs.PoolChain.{stored_at}
use Rattle.definitions.proofs.Tables.{remove_on}
use Rattle.capability_engine.proofs.RegionAnswers.{remove-answer, ranged-no, ranged-none, ranged_on}
use Rattle.capability_engine.proofs.region.ask_remove.Goals as goal

pub returns-in_err-in_range : goal.returns-in_err-in_range
unfolding remove_on
returns-in_err-in_range c =
    let p = err_from_is_err_and c.from_residual.result c.from_residual.ensures.1 in
    rw (p.1, p.2) (ranged-no c.args.start c.args.end c.args.rights _ c.in_range.ensures _ _ c.in_err-in_range.was)

pub returns-then-start-end : goal.returns-then-start-end
unfolding remove_on
returns-then-start-end c = ranged-none c.args.start c.args.end c.args.rights _ c.in_range.ensures _ _ c.in_ok-in_range.was c.if-start-end.true

pub walk_remove-ask-requires : goal.walk_remove-ask-requires
walk_remove-ask-requires c = c.requires

pub returns : goal.returns
unfolding remove_on
returns c =
    remove-answer c.args.start c.args.end c.args.rights c.args.room (stored_at c.args.next.now c.args.words.now c.args.head) c.walk_remove-ask.result _ c.requires.askable.list.ordered c.requires.askable.few c.walk_remove-ask.ensures c.judge_remove.ensures
    ∙ ranged_on c.args.start c.args.end c.args.rights _ c.in_range.ensures _ _ c.in_ok-in_range.was c.if-start-end.false
