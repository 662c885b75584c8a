use Rattle.leaves.proofs.slots.free_odd.Given as goal

abbrev pub invariant-loop-idx : goal.invariant-loop-idx
invariant-loop-idx g l = g.S.Slots.is_grown l.slots
