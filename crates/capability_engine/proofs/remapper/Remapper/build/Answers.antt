use mathlib.Core.Path.{refl, sym, ◌∙◌}
use mathlib.Core.List.{[]}
use native.Mathlib.Omega.{arith}
use Rattle.capability_engine.proofs.RemapParts.{moved_by, rear-short, rear-good}
use Rattle.capability_engine.proofs.RemapCuts.{lays-start, lays-good, lays-next, lays-less, lays-gone, lays-kept-good, lays-room, lays-has, lays-kept, moves-start, moves-good, moves_next, moves-less, moves-past, moves-room, moves-has, moves-on, moves-end}
use Rattle.capability_engine.proofs.remapper.Remapper.build.Goals as goal

pub loop-at-init : goal.loop-at-init
loop-at-init c = λ ss h g. lays-start _ _ _ _ ss h g c.new-out.ensures

pub overflow_cast-at : goal.overflow_cast-at
overflow_cast-at c = record { fits = omega (arith, lays-next _ _ _ _ _ _ _ _ (c.loop-at.invariant c.requires.1.0 c.requires.1.1 c.requires.1.2) c.loop-at-test.true) }

pub leave-requires : goal.leave-requires
leave-requires c = lays-good _ _ _ _ _ _ _ _ (c.loop-at.invariant c.requires.1.0 c.requires.1.1 c.requires.1.2) c.loop-at-test.true

pub put-prev-requires : goal.put-prev-requires
put-prev-requires c = let w = (c.loop-at.invariant c.requires.1.0 c.requires.1.1 c.requires.1.2) in let e = sym c.leave.ensures ∙ c.in-Some.is in (lays-kept-good _ _ _ _ _ _ _ _ w c.loop-at-test.true _ e, lays-has _ _ _ _ _ _ _ _ w c.loop-at-test.true _ e)

pub loop-at-smaller-in-Some : goal.loop-at-smaller-in-Some
loop-at-smaller-in-Some c = lays-less _ _ _ _ _ _ _ _ (c.loop-at.invariant c.requires.1.0 c.requires.1.1 c.requires.1.2) c.loop-at-test.true

pub loop-at-preserved-in-Some : goal.loop-at-preserved-in-Some
loop-at-preserved-in-Some c = λ ss h g. let w = c.loop-at.invariant ss h g in let e = sym c.leave.ensures ∙ c.in-Some.is in lays-kept _ _ _ _ _ _ _ _ w c.loop-at-test.true c.in-Some.t e _ _ _ c.last_below-last.ensures (c.put-prev.ensures _ w.done [] w.zip (lays-room _ _ _ _ _ _ _ _ w c.loop-at-test.true _ e))

pub loop-at-smaller : goal.loop-at-smaller
loop-at-smaller c = lays-less _ _ _ _ _ _ _ _ (c.loop-at.invariant c.requires.1.0 c.requires.1.1 c.requires.1.2) c.loop-at-test.true

pub loop-at-preserved : goal.loop-at-preserved
loop-at-preserved c = λ ss h g. lays-gone _ _ _ _ _ _ _ ss (c.loop-at.invariant ss h g) c.loop-at-test.true (sym c.leave.ensures ∙ c.in_default.is)

pub loop-moving-init : goal.loop-moving-init
loop-moving-init c = λ goal w. w

pub overflow_cast-moving : goal.overflow_cast-moving
overflow_cast-moving c = record { fits = omega (arith, moves_next _ _ _ _ _ _ (c.loop-moving.invariant _ (moves-start _ _ c.requires.0 _ c.requires.1.0 c.requires.1.1 c.requires.1.2 _ _ _ _ (c.loop-at.invariant c.requires.1.0 c.requires.1.1 c.requires.1.2) c.loop-at-test.false)) c.loop-moving-test.true) }

pub reach_of-r-requires : goal.reach_of-r-requires
reach_of-r-requires c = moves-good _ _ _ _ _ _ (c.loop-moving.invariant _ (moves-start _ _ c.requires.0 _ c.requires.1.0 c.requires.1.1 c.requires.1.2 _ _ _ _ (c.loop-at.invariant c.requires.1.0 c.requires.1.1 c.requires.1.2) c.loop-at-test.false)) c.loop-moving-test.true

pub rest-u-requires : goal.rest-u-requires
rest-u-requires c = (moves-good _ _ _ _ _ _ (c.loop-moving.invariant _ (moves-start _ _ c.requires.0 _ c.requires.1.0 c.requires.1.1 c.requires.1.2 _ _ _ _ (c.loop-at.invariant c.requires.1.0 c.requires.1.1 c.requires.1.2) c.loop-at-test.false)) c.loop-moving-test.true, rear-short _ _ refl _ (sym c.is_moved.ensures ∙ c.if-is_moved.true))

pub put-last-requires : goal.put-last-requires
put-last-requires c = let m = (c.loop-moving.invariant _ (moves-start _ _ c.requires.0 _ c.requires.1.0 c.requires.1.1 c.requires.1.2 _ _ _ _ (c.loop-at.invariant c.requires.1.0 c.requires.1.1 c.requires.1.2) c.loop-at-test.false)) in let t = moved_by _ _ c.reach_of-r.ensures _ (sym c.is_moved.ensures ∙ c.if-is_moved.true) in (rw (c.rest-u.ensures, c.reach_of-r.ensures) (rear-good _ _ (moves-good _ _ _ _ _ _ m c.loop-moving-test.true) t), moves-has _ _ _ _ _ _ m c.loop-moving-test.true t)

pub loop-moving-smaller-then-is_moved : goal.loop-moving-smaller-then-is_moved
loop-moving-smaller-then-is_moved c = moves-less _ _ _ _ _ _ (c.loop-moving.invariant _ (moves-start _ _ c.requires.0 _ c.requires.1.0 c.requires.1.1 c.requires.1.2 _ _ _ _ (c.loop-at.invariant c.requires.1.0 c.requires.1.1 c.requires.1.2) c.loop-at-test.false)) c.loop-moving-test.true

pub loop-moving-preserved-then-is_moved : goal.loop-moving-preserved-then-is_moved
loop-moving-preserved-then-is_moved c = λ goal w. let m = c.loop-moving.invariant goal w in let t = moved_by _ _ c.reach_of-r.ensures _ (sym c.is_moved.ensures ∙ c.if-is_moved.true) in moves-on _ _ _ _ _ goal m c.loop-moving-test.true t _ _ (rw (c.rest-u.ensures, c.reach_of-r.ensures) at (c.put-last.ensures _ m.done m.after m.zip (moves-room _ _ _ _ _ goal m c.loop-moving-test.true t)).0)

pub loop-moving-smaller : goal.loop-moving-smaller
loop-moving-smaller c = moves-less _ _ _ _ _ _ (c.loop-moving.invariant _ (moves-start _ _ c.requires.0 _ c.requires.1.0 c.requires.1.1 c.requires.1.2 _ _ _ _ (c.loop-at.invariant c.requires.1.0 c.requires.1.1 c.requires.1.2) c.loop-at-test.false)) c.loop-moving-test.true

pub loop-moving-preserved : goal.loop-moving-preserved
loop-moving-preserved c = λ goal w. moves-past _ _ _ _ _ goal (c.loop-moving.invariant goal w) c.loop-moving-test.true (moved_by _ _ c.reach_of-r.ensures _ (sym c.is_moved.ensures ∙ c.if-is_moved.false))

pub returns : goal.returns
returns c = λ ss h g. moves-end _ _ _ _ _ _ (c.loop-moving.invariant _ (moves-start _ _ c.requires.0 _ ss h g _ _ _ _ (c.loop-at.invariant ss h g) c.loop-at-test.false)) c.loop-moving-test.false
