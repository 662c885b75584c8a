use native.Mathlib.Omega.{arith}
use Rattle.capability_engine.proofs.RemapCopies.{copying-start, copying-few, copying-fits, copying-less, copying-more, copying-end}
use Rattle.capability_engine.proofs.remapper.Remapper.copy_segments.Goals as goal

pub loop-at-init : goal.loop-at-init
loop-at-init c = λ ss h. copying-start _ ss _ h c.requires.in_bounds

pub put_segment-requires : goal.put_segment-requires
put_segment-requires c = copying-fits _ _ _ _ _ _ (c.loop-at.invariant c.requires.held.0 c.requires.held.1) c.loop-at-test.true

pub overflow_add-n : goal.overflow_add-n
overflow_add-n c = record { fits = omega (arith, copying-few _ _ _ _ _ _ (c.loop-at.invariant c.requires.held.0 c.requires.held.1) c.loop-at-test.true) }

pub loop-at-smaller : goal.loop-at-smaller
loop-at-smaller c = copying-less _ _ _ _ _ _ (c.loop-at.invariant c.requires.held.0 c.requires.held.1) c.loop-at-test.true

pub loop-at-preserved : goal.loop-at-preserved
loop-at-preserved c = λ ss h. copying-more _ _ _ _ _ _ (c.loop-at.invariant ss h) c.loop-at-test.true _ c.put_segment.ensures

pub shape_of-out : goal.shape_of-out
shape_of-out c = (c.loop-at.invariant c.requires.held.0 c.requires.held.1).size

pub returns : goal.returns
returns c = λ ss h. copying-end _ _ _ _ _ _ (c.loop-at.invariant ss h) c.loop-at-test.false
