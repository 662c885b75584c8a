use Rattle.capability_engine.proofs.RemapCalls.{overlap-none, overlap-says}
use Rattle.capability_engine.proofs.remapper.Remapper.overlaps.Goals as goal

pub returns-then-size-eq0 : goal.returns-then-size-eq0
returns-then-size-eq0 c = λ k h. overlap-none k _ _ c.in_ok-end.ensures.0 c.if-size-eq0.true

pub returns : goal.returns
returns c = λ k h. overlap-says k _ _ c.in_ok-end.ensures.0 c.if-size-eq0.false _ c.in_ok-end.ensures.1 _ (c.meets.ensures k.segments h) _ c.from.ensures
