use Rattle.capability_engine.proofs.RemapWalks.{some-less}
use Rattle.capability_engine.proofs.RemapCuts.{asks-start, asks-good, asks-left, asks-moved, asks-on, asks-end}
use Rattle.capability_engine.proofs.remapper.Remapper.ask.Goals as goal

pub loop-at-init : goal.loop-at-init
loop-at-init c = λ ss h. rw c.none_asked-k.ensures (asks-start _ _ ss h)

pub ask_one-k-requires : goal.ask_one-k-requires
ask_one-k-requires c = let w = c.loop-at.invariant c.requires.0 c.requires.1 in (asks-good _ _ _ _ _ w c.loop-at-test.true, asks-left _ _ _ _ _ w c.loop-at-test.true, asks-moved _ _ _ _ _ w c.loop-at-test.true)

pub loop-at-smaller : goal.loop-at-smaller
loop-at-smaller c = let w = c.loop-at.invariant c.requires.0 c.requires.1 in some-less _ _ w.left w.rest c.loop-at-test.true

pub loop-at-preserved : goal.loop-at-preserved
loop-at-preserved c = λ ss h. asks-on _ _ _ _ ss (c.loop-at.invariant ss h) c.loop-at-test.true _ c.ask_one-k.ensures

pub returns : goal.returns
returns c = λ ss h. asks-end _ _ _ _ ss (c.loop-at.invariant ss h) c.loop-at-test.false
