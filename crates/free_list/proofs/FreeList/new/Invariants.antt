use mathlib.Core.Path.{◌≡◌}
use lib.ListN.{take}
use Rattle.free_list.specs.Stack.{up_from}
use Rattle.free_list.proofs.FreeList.new.Given as goal

abbrev pub invariant-loop-i : goal.invariant-loop-i
invariant-loop-i l = take l.i l.links ≡ up_from 1 l.i
