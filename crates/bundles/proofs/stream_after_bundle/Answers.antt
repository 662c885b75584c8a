use Rattle.exports.proofs.Laws.{stream-read}
use Rattle.bundles.proofs.stream_after_bundle.Goals as goal

pub returns : goal.returns
returns c = let l = c.after_bundle.ensures.leaves in stream-read _ l.calls l.left _ _ c.coded.ensures _ _ _ _ _ _ _ _ _ (c.stream-answer.ensures l.calls l.grown)
