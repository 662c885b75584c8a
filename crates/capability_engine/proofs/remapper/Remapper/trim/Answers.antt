use mathlib.Core.Path.{sym, ◌∙◌}
use native.Mathlib.Omega.{arith}
use Rattle.capability_engine.proofs.RemapPlaces.{zip-put, zip-remove}
use Rattle.capability_engine.proofs.RemapWalks.{trims-start, trims-cut, trims-next, trims-less, trims-gone, trims-kept, trims-good, trims-end}
use Rattle.capability_engine.proofs.RemapCuts.{lefts-in-order}
use Rattle.capability_engine.proofs.remapper.Remapper.trim.Goals as goal

pub loop-at-init : goal.loop-at-init
loop-at-init c = λ ss h fine. trims-start _ _ _ ss h.held fine

pub overflow_cast-next : goal.overflow_cast-next
overflow_cast-next c = record { fits = omega (arith, trims-next _ _ _ _ _ _ _ (c.loop-at.invariant c.requires.0 c.requires.1 c.requires.2) c.loop-at-test.true) }

pub leave-requires : goal.leave-requires
leave-requires c = (trims-cut _ _ _ _ _ _ _ (c.loop-at.invariant c.requires.0 c.requires.1 c.requires.2) c.loop-at-test.true).good

pub join-head-requires : goal.join-head-requires
join-head-requires c = trims-next _ _ _ _ _ _ _ (c.loop-at.invariant c.requires.0 c.requires.1 c.requires.2) c.loop-at-test.true

pub free-requires : goal.free-requires
free-requires c = let w = (c.loop-at.invariant c.requires.0 c.requires.1 c.requires.2) in record { n = 64; calls = w.zip.owns.calls; grown = w.zip.owns.grown }

pub loop-at-smaller-in-None : goal.loop-at-smaller-in-None
loop-at-smaller-in-None c = let w = (c.loop-at.invariant c.requires.0 c.requires.1 c.requires.2) in let d = trims-cut _ _ _ _ _ _ _ w c.loop-at-test.true in rw c.join-head.ensures.0 (trims-less _ _ _ _ _ _ _ w _ _ w.done c.loop-at-test.true (zip-remove _ _ _ w.done d.more _ d.zip _ c.free.new.self c.free.result c.free.ensures).0)

pub loop-at-preserved-in-None : goal.loop-at-preserved-in-None
loop-at-preserved-in-None c = λ ss h fine. let w = c.loop-at.invariant ss h fine in let d = trims-cut _ _ _ _ _ _ _ w c.loop-at-test.true in rw (c.join-head.ensures.0, c.join-head.ensures.1) (trims-gone _ _ _ _ _ _ _ w _ c.loop-at-test.true (sym c.leave.ensures ∙ c.in-None.is) (zip-remove _ _ _ w.done d.more _ d.zip _ c.free.new.self c.free.result c.free.ensures))

pub loop-at-smaller : goal.loop-at-smaller
loop-at-smaller c = let w = (c.loop-at.invariant c.requires.0 c.requires.1 c.requires.2) in let d = trims-cut _ _ _ _ _ _ _ w c.loop-at-test.true in let e = sym c.leave.ensures ∙ c.in-Some.is in trims-less _ _ _ _ _ _ _ w _ _ _ c.loop-at-test.true (zip-put _ _ _ w.done d.more _ c.in-Some.t d.zip (trims-good _ _ _ _ _ _ _ w _ c.loop-at-test.true e)).0

pub loop-at-preserved : goal.loop-at-preserved
loop-at-preserved c = λ ss h fine. let w = c.loop-at.invariant ss h fine in let d = trims-cut _ _ _ _ _ _ _ w c.loop-at-test.true in let e = sym c.leave.ensures ∙ c.in-Some.is in trims-kept _ _ _ _ _ _ _ w _ c.in-Some.t _ c.loop-at-test.true e c.last_below-last.ensures (zip-put _ _ _ w.done d.more _ c.in-Some.t d.zip (trims-good _ _ _ _ _ _ _ w _ c.loop-at-test.true e))

pub returns : goal.returns
returns c = λ ss h fine. trims-end _ _ _ _ _ _ ss (c.loop-at.invariant ss h fine) c.loop-at-test.false (lefts-in-order _ ss h.order)
