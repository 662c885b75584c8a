use Rattle.planning.proofs.Allowances.{plans-after}
use Rattle.planning.proofs.plan_page.Goals as goal

pub plan-answer-requires : goal.plan-answer-requires
plan-answer-requires c = let l = c.tables_after-tables.ensures in record { calls = l.calls; grown = l.grown }

pub returns : goal.returns
returns c = let l = c.tables_after-tables.ensures in plans-after _ _ _ _ _ _ _ _ _ _ _ _ _ l (c.plan-answer.ensures l.calls l.grown) c.coded.ensures
