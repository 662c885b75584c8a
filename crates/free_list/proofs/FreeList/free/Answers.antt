use native.Mathlib.Omega.{arith}
use Rattle.free_list.proofs.Calls.{frees-no-slot, frees-twice, frees, some-used}
use Rattle.free_list.proofs.FreeList.free.Goals as goal
use Rattle.free_list.proofs.FreeList.free.Goals.{then-n-idx-via-then-n-idx, then-n-idx-via-else-n-idx+then-links-idx}

pub returns-then-n-idx : goal.returns-then-n-idx
returns-then-n-idx c = λ n calls g.
    elim c.then-n-idx.branch [
      | then-n-idx-via-then-n-idx w ↦ frees-no-slot n calls _ _ g c.args.idx (omega arith)
      | then-n-idx-via-else-n-idx+then-links-idx w ↦ frees-twice n calls _ _ g c.args.idx (omega arith) (omega arith)
    ]

pub overflow_sub-self : goal.overflow_sub-self
overflow_sub-self c = some-used _ _ _ _ c.requires.grown _ c.if-n-idx.false c.if-links-idx.false

pub returns : goal.returns
returns c = λ n calls g. frees n calls _ _ g _ c.if-n-idx.false c.if-links-idx.false
