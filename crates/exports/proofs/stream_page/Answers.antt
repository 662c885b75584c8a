use Rattle.exports.proofs.Laws.{stream-read}
use Rattle.exports.proofs.stream_page.Goals as goal

pub returns : goal.returns
returns c = let l = c.tables_after-tables.ensures in stream-read _ l.calls l.left _ _ c.coded.ensures _ _ _ _ _ _ _ _ _ (c.stream-answer.ensures l.calls l.grown)
