use mathlib.Core.Path.{sym, ◌∙◌}
use Rattle.capability_engine.proofs.RemapCalls.{used, insert-aliased, insert-same, insert-full, insert-puts}
use Rattle.capability_engine.proofs.RemapWalks.{placed-room, placed-holds}
use Rattle.capability_engine.proofs.remapper.Remapper.insert_segment.Goals as goal

pub returns-then-meets : goal.returns-then-meets
returns-then-meets c = λ ss h. insert-aliased _ _ c.requires.0 ss h _ c.span_end.ensures (sym c.if-meets.true ∙ c.meets.ensures ss h)

pub returns-then-is_identity : goal.returns-then-is_identity
returns-then-is_identity c = λ ss h. insert-same _ _ c.requires.0 ss h _ c.span_end.ensures (sym c.if-meets.false ∙ c.meets.ensures ss h) _ c.is_identity.ensures c.if-is_identity.true

pub returns-then-self-ge64 : goal.returns-then-self-ge64
returns-then-self-ge64 c = λ ss h. insert-full _ _ c.requires.0 ss h _ c.span_end.ensures (sym c.if-meets.false ∙ c.meets.ensures ss h) _ c.is_identity.ensures c.if-is_identity.false c.if-self-ge64.true

pub put-requires : goal.put-requires
put-requires c = (c.requires.0, placed-room _ _ _ _ (c.place-prev.ensures _ c.requires.1.1) (used _ _ c.requires.1.1) c.if-self-ge64.false)

pub returns : goal.returns
returns c = λ ss h. let w = c.place-prev.ensures ss h in insert-puts _ _ c.requires.0 ss h _ c.span_end.ensures (sym c.if-meets.false ∙ c.meets.ensures ss h) _ c.is_identity.ensures c.if-is_identity.false c.if-self-ge64.false _ (placed-holds _ _ _ ss w (used _ _ h) c.if-self-ge64.false _ _ c.put.ensures)
