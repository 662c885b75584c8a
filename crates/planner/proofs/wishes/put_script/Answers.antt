use Rattle.planner.proofs.WriteLaws.{prints-all, prints-some}
use Rattle.planner.proofs.wishes.put_script.Goals as goal

pub returns-in-Ok : goal.returns-in-Ok
returns-in-Ok c = prints-all _ _ _ _ c.in-Ok.ensures

pub returns-in-Err : goal.returns-in-Err
returns-in-Err c = prints-some _ _ _ _ c.in-Err.ensures
