use Rattle.exports.proofs.Laws.{list-page}
use Rattle.bundles.proofs.regions_after_bundle.Goals as goal

pub returns : goal.returns
returns c = let l = c.after_bundle.ensures.leaves in list-page _ l.calls l.left _ _ c.coded.ensures _ _ _ _ _ _ (c.regions-answer.ensures l.calls l.grown)
