use borrow.Author.Rules.{rules}
use Rattle.free_list.proofs.Calls.{filled, fresh}
use Rattle.free_list.proofs.FreeList.new.Goals as goal

pub loop-i-preserved : goal.loop-i-preserved
loop-i-preserved c = filled c.loop-i.links c.loop-i.i (search rules) c.loop-i.invariant

pub returns : goal.returns
returns c = fresh _ c.loop-i.i _ (search rules) (search rules) c.loop-i.invariant
