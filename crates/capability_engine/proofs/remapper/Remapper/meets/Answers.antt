use mathlib.Core.Path.{sym, ◌∙◌}
use Rattle.capability_engine.proofs.RemapWalks.{meets-start, meets-end, meets-hit, meets_on, some-open, some-less}
use Rattle.capability_engine.proofs.remapper.Remapper.meets.Goals as goal

pub loop-at-init : goal.loop-at-init
loop-at-init c = λ ss h. meets-start _ _ _ ss h

pub is_touched-requires : goal.is_touched-requires
is_touched-requires c = let w = c.loop-at.invariant c.requires.0 c.requires.1 in (some-open _ _ w.0 w.1 c.loop-at-test.true).good

pub returns-then-is_touched : goal.returns-then-is_touched
returns-then-is_touched c = λ ss h. meets-hit _ _ _ _ ss (c.loop-at.invariant ss h) c.loop-at-test.true (sym c.is_touched.ensures ∙ c.if-is_touched.true)

pub loop-at-smaller : goal.loop-at-smaller
loop-at-smaller c = let w = c.loop-at.invariant c.requires.0 c.requires.1 in some-less _ _ w.0 w.1 c.loop-at-test.true

pub loop-at-preserved : goal.loop-at-preserved
loop-at-preserved c = λ ss h. meets_on _ _ _ _ ss (c.loop-at.invariant ss h) c.loop-at-test.true (sym c.is_touched.ensures ∙ c.if-is_touched.false)

pub returns : goal.returns
returns c = λ ss h. meets-end _ _ _ _ ss (c.loop-at.invariant ss h) c.loop-at-test.false
