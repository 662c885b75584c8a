use native.Mathlib.Omega.{arith}
use Rattle.free_list.proofs.Calls.{allocates, allocates-none, few}
use Rattle.free_list.proofs.FreeList.allocate.Goals as goal

pub returns-then-n-slot : goal.returns-then-n-slot
returns-then-n-slot c = λ n calls g. allocates-none n calls _ _ g c.if-n-slot.true

pub overflow_add-self : goal.overflow_add-self
overflow_add-self c = omega (arith, few _ _ _ _ c.requires.grown)

pub returns : goal.returns
returns c = λ n calls g. allocates n calls _ _ g c.if-n-slot.false
