use Rattle.bundles.proofs.ScriptLaws.{bundle-asked}
use Rattle.bundles.proofs.bundle_after.Goals as goal

pub returns : goal.returns
returns c = bundle-asked _ _ _ _ _ _ _ _ _ _ c.after_bundle-answer.ensures c.coded.ensures
