use Rattle.layouts.proofs.Tables.{answered}
use Rattle.layouts.proofs.Bench.allow.Goals as goal

pub returns : goal.returns
returns c = answered c.requires c.allow.ensures
