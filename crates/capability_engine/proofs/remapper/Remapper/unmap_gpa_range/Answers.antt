use Rattle.definitions.specs.Tests.{guest_up}
use Rattle.capability_engine.proofs.RemapCalls.{holding}
use Rattle.capability_engine.proofs.RemapGuests.{gpa-early, gpa-fits, gpa-cuts}
use Rattle.capability_engine.proofs.remapper.Remapper.unmap_gpa_range.Goals as goal

pub returns-then-value_of-ne1 : goal.returns-then-value_of-ne1
returns-then-value_of-ne1 c = λ k h. gpa-early _ k h.held _ _ _ c.can_start-early.ensures _ c.value_of.ensures c.if-value_of-ne1.true

pub overflow_add-result : goal.overflow_add-result
overflow_add-result c = record { fits = gpa-fits _ (holding c.requires.0) c.requires.1 _ _ _ c.can_start-early.ensures _ c.value_of.ensures c.if-value_of-ne1.false }

pub returns : goal.returns
unfolding guest_up
returns c = λ k h. gpa-cuts _ k h.held _ _ _ c.can_start-early.ensures _ c.value_of.ensures h c.if-value_of-ne1.false
