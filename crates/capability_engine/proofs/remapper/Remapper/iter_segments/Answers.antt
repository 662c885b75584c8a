use Rattle.capability_engine.proofs.RemapWalks.{some-start}
use Rattle.capability_engine.proofs.remapper.Remapper.iter_segments.Goals as goal

pub returns : goal.returns
returns c = λ ss h. some-start _ ss h
