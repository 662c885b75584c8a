use Rattle.exports.proofs.Laws.{fresh}
use Rattle.exports.proofs.Pool.empty.Goals as goal

pub unwrap-requires : goal.unwrap-requires
unwrap-requires c = c.new.ensures.sized c.requires

pub returns : goal.returns
returns c = fresh _ _ _ _ _ _ _ c.new.ensures _ c.unwrap.ensures
