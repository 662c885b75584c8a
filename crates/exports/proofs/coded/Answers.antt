use Rattle.exports.proofs.Laws.{from_one, coded-refused}
use Rattle.exports.proofs.coded.Goals as goal

pub overflow_sub-result : goal.overflow_sub-result
overflow_sub-result c = from_one c.in-Err.refusal _ c.number.ensures

pub returns-in-Err : goal.returns-in-Err
returns-in-Err c = coded-refused _ _ _ c.in-Err.is c.number.ensures
