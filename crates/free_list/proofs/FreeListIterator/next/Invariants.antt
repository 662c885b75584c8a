use mathlib.Core.Path.{◌≡◌}
use Rattle.free_list.proofs.Calls.{Passed}
use Rattle.free_list.proofs.FreeListIterator.next.Given as goal

abbrev pub invariant-loop-idx : goal.invariant-loop-idx
invariant-loop-idx l = (l.self ≡ l.initial.self) × Passed l.links l.list l.initial.self.next l.idx
