use Rattle.definitions.specs.Values.{lower}
use Rattle.capability_engine.proofs.RegionTurns.{one_in, one_out}
use Rattle.capability_engine.proofs.region.decrease_in.Goals as goal

pub returns-then-lies_in : goal.returns-then-lies_in
returns-then-lies_in c = one_in (lower c.args.rights) c.args.start c.args.end c.args.r _ c.lies_in.ensures c.if-lies_in.true _ c.decrease.ensures

pub returns-else-lies_in : goal.returns-else-lies_in
returns-else-lies_in c = one_out (lower c.args.rights) c.args.start c.args.end c.args.r _ c.lies_in.ensures c.if-lies_in.false
