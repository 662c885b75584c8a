use borrow.Author.Rules.{rules}
use borrow.Author.Tests.{lt-ltb, le-ltb}
use mathlib.Core.Path.{◌∙◌}
use Rattle.definitions.specs.Tests.{◌<?◌}
use Rattle.capability_engine.specs.RegionAsks.{low_enough}
use Rattle.capability_engine.proofs.RegionSteps.{every-named}
use Rattle.capability_engine.proofs.region.can_rise.Goals as goal

pub returns-then-v-lt65535 : goal.returns-then-v-lt65535
unfolding low_enough
returns-then-v-lt65535 c =
    rw (c.if-not-touched.false, lt-ltb c.args.v.refcount 65535 c.if-v-lt65535.true)
    (c.every.ensures (λ n. n <? 65535) (λ n b l q. search rules) ∙ every-named _ c.args.rights c.args.v _ c.as_counters-named.ensures)

pub returns-else-v-lt65535 : goal.returns-else-v-lt65535
unfolding low_enough
returns-else-v-lt65535 c = rw (c.if-not-touched.false, le-ltb c.args.v.refcount 65535 c.if-v-lt65535.false)
