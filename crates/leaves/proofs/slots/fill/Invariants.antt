use Rattle.leaves.proofs.slots.fill.Given as goal

abbrev pub invariant-loop : goal.invariant-loop
invariant-loop g l = g.S.Slots.is_grown l.slots
