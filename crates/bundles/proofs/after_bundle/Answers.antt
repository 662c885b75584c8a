use Rattle.bundles.proofs.ScriptLaws.{leaves-bundle}
use Rattle.bundles.proofs.after_bundle.Goals as goal

pub bundle-answer-requires : goal.bundle-answer-requires
bundle-answer-requires c = let l = c.tables_after-tables.ensures in record { calls = l.calls; grown = l.grown }

pub returns : goal.returns
returns c = let l = c.tables_after-tables.ensures in leaves-bundle _ _ _ _ _ _ _ _ _ _ _ _ _ _ l (c.bundle-answer.ensures l.calls l.grown)
