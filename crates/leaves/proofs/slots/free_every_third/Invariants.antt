use Rattle.leaves.proofs.slots.free_every_third.Given as goal

abbrev pub invariant-loop-i : goal.invariant-loop-i
invariant-loop-i g l = g.S.Slots.is_grown l.slots
