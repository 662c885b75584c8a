use borrow.Author.Rules.{rules}
use mathlib.Core.Path.{◌∙◌}
use Rattle.definitions.specs.Tests.{◌<?◌}
use Rattle.capability_engine.proofs.RegionSteps.{every-named}
use Rattle.capability_engine.proofs.region.can_fall.Goals as goal

pub returns-else-not-touched : goal.returns-else-not-touched
returns-else-not-touched c =
    rw c.if-not-touched.false (c.every.ensures (λ n. 0 <? n) (λ n b l q. search rules) ∙ every-named _ c.args.rights c.args.v _ c.as_counters-named.ensures)
