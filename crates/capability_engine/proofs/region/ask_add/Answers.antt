use Rattle.std.proofs.lemmas.Result.{err_from_is_err_and}
use mathlib.Core.Path.{◌∙◌}
use Rattle.capability_engine.specs.PoolChain.{stored_at}
use Rattle.definitions.proofs.Tables.{add_on}
use Rattle.capability_engine.proofs.RegionAnswers.{add-answer, ranged-no, ranged-none, ranged_on}
use Rattle.capability_engine.proofs.region.ask_add.Goals as goal

pub returns-in_err-in_range : goal.returns-in_err-in_range
unfolding add_on
returns-in_err-in_range c =
    let p = err_from_is_err_and c.from_residual.result c.from_residual.ensures.1 in
    rw (p.1, p.2) (ranged-no c.args.start c.args.end c.args.rights _ c.in_range.ensures _ _ c.in_err-in_range.was)

pub returns-then-start-end : goal.returns-then-start-end
unfolding add_on
returns-then-start-end c = ranged-none c.args.start c.args.end c.args.rights _ c.in_range.ensures _ _ c.in_ok-in_range.was c.if-start-end.true

pub walk_add-ask-requires : goal.walk_add-ask-requires
walk_add-ask-requires c = c.requires

pub returns : goal.returns
unfolding add_on
returns c =
    add-answer c.args.start c.args.end c.args.rights c.args.room (stored_at c.args.next.now c.args.words.now c.args.head) c.walk_add-ask.result _ c.walk_add-ask.ensures c.judge_add.ensures
    ∙ ranged_on c.args.start c.args.end c.args.rights _ c.in_range.ensures _ _ c.in_ok-in_range.was c.if-start-end.false
