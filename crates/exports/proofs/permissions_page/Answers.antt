use Rattle.exports.proofs.Laws.{permissions-read}
use Rattle.exports.proofs.permissions_page.Goals as goal

pub returns : goal.returns
returns c = let l = c.tables_after-tables.ensures in permissions-read _ l.calls l.left _ _ c.coded.ensures _ _ _ _ _ _ _ _ _ (c.permissions-answer.ensures l.calls l.grown)
