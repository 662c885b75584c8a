use Rattle.counts.proofs.Laws.{lowered_is}
use Rattle.counts.proofs.decrease_refcount.Goals as goal

pub returns : goal.returns
returns c = lowered_is c.args.r.now c.args.rights c.as_counters-by.result c.as_counters-by.ensures _ _ _ _ _ _ _ c.left-r.ensures c.left-r-2.ensures c.left-r-3.ensures c.left-r-4.ensures c.left-r-5.ensures c.left-r-6.ensures c.left-r-7.ensures
