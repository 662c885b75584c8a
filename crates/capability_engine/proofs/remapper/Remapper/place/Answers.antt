use Rattle.capability_engine.proofs.RemapWalks.{puts-start, puts-on, puts-less, puts-here, puts-end}
use Rattle.capability_engine.proofs.remapper.Remapper.place.Goals as goal

pub loop-at-init : goal.loop-at-init
loop-at-init c = λ ss h. puts-start _ _ ss h

pub returns-then-s-t : goal.returns-then-s-t
returns-then-s-t c = λ ss h. puts-here _ _ _ _ ss (c.loop-at.invariant ss h) c.loop-at-test.true c.if-s-t.true

pub loop-at-smaller : goal.loop-at-smaller
loop-at-smaller c = puts-less _ _ _ _ _ (c.loop-at.invariant c.requires.0 c.requires.1) c.loop-at-test.true

pub loop-at-preserved : goal.loop-at-preserved
loop-at-preserved c = λ ss h. puts-on _ _ _ _ ss (c.loop-at.invariant ss h) c.loop-at-test.true c.if-s-t.false

pub returns : goal.returns
returns c = λ ss h. puts-end _ _ _ _ ss (c.loop-at.invariant ss h) c.loop-at-test.false
