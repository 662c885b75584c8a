use Rattle.free_list.proofs.Calls.{few}
use Rattle.free_list.proofs.FreeList.capacity.Goals as goal

pub overflow_sub-result : goal.overflow_sub-result
overflow_sub-result c = few _ _ _ _ c.requires.grown
