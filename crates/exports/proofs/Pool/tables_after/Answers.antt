use mathlib.Core.List.{[]}
use Rattle.exports.proofs.Laws.{leaves}
use Rattle.exports.proofs.Pool.tables_after.Goals as goal

pub replay-requires : goal.replay-requires
replay-requires c = record { calls = []; grown = c.empty-tables.ensures }

pub returns : goal.returns
returns c = leaves _ _ _ _ _ _ (c.replay.ensures [] c.empty-tables.ensures)
