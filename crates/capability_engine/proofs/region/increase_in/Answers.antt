use mathlib.Core.Path.{◌∙◌}
use Rattle.definitions.specs.Values.{raise}
use Rattle.capability_engine.proofs.RegionTurns.{small-in, small-stays, one_in, one_out}
use Rattle.capability_engine.proofs.region.increase_in.Goals as goal

pub returns-then-lies_in : goal.returns-then-lies_in
returns-then-lies_in c = one_in (raise c.args.rights) c.args.start c.args.end c.args.r _ c.lies_in.ensures c.if-lies_in.true _
    (c.increase.ensures ∙ small-stays _ _ _ (small-in (raise c.args.rights) c.args.start c.args.end c.args.r _ c.lies_in.ensures c.if-lies_in.true c.requires))

pub returns-else-lies_in : goal.returns-else-lies_in
returns-else-lies_in c = one_out (raise c.args.rights) c.args.start c.args.end c.args.r _ c.lies_in.ensures c.if-lies_in.false
