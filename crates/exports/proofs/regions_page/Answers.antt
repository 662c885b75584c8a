use Rattle.exports.proofs.Laws.{list-page}
use Rattle.exports.proofs.regions_page.Goals as goal

pub returns : goal.returns
returns c = let l = c.tables_after-tables.ensures in list-page _ l.calls l.left _ _ c.coded.ensures _ _ _ _ _ _ (c.regions-answer.ensures l.calls l.grown)
