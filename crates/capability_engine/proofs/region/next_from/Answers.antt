use Rattle.capability_engine.proofs.RegionSteps.{from-skip, from-stop, from_on}
use Rattle.capability_engine.proofs.region.next_from.Goals as goal

pub returns-then-r-from : goal.returns-then-r-from
returns-then-r-from c = from-skip c.args.end c.args.from c.args.r c.if-r-from.true

pub returns-then-end-r : goal.returns-then-end-r
returns-then-end-r c = from-stop c.args.end c.args.from c.args.r c.if-r-from.false c.if-end-r.true

pub returns-else-end-r : goal.returns-else-end-r
returns-else-end-r c = from_on c.args.end c.args.from c.args.r c.if-r-from.false c.if-end-r.false
