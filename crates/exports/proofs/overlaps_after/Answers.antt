use Rattle.definitions.specs.Tests.{guest}
use Rattle.exports.proofs.Laws.{asked}
use Rattle.exports.proofs.overlaps_after.Goals as goal

pub returns : goal.returns
unfolding guest
returns c = let l = c.tables_after-tables.ensures in asked _ l.calls l.left _ _ c.coded.ensures _ (c.overlaps-answer.ensures l.calls l.grown).answered
