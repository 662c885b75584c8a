use mathlib.Core.Path.{refl, sym, ◌∙◌}
use mathlib.Core.Bool.{true, false}
use native.Mathlib.Omega.{arith}
use Rattle.capability_engine.proofs.RemapParts.{asked-far, asked-near, bad_now, bad_then, rear-short}
use Rattle.capability_engine.proofs.remapper.ask_one.Goals as goal
use Rattle.capability_engine.proofs.remapper.ask_one.Goals.{then-k, else-k}

pub returns-then-not-r : goal.returns-then-not-r
returns-then-not-r c = asked-far _ _ _ _ c.reach_of-r.ensures c.if-not-r.true

pub returns-then-not-is_moved : goal.returns-then-not-is_moved
returns-then-not-is_moved c = asked-near _ _ _ _ c.reach_of-r.ensures c.if-not-r.false _ c.from.ensures _ (elim c.if-k.branch [ then-k w ↦ w.bad-is ∙ bad_now _ _ w.if-k.true | else-k w ↦ w.bad-is ∙ bad_then _ _ _ w.if-k.false w.is_bad-bad.ensures ]) false (sym c.if-not-is_moved.true ∙ c.is_moved.ensures) _ (omega arith) _ refl

pub rest-requires : goal.rest-requires
rest-requires c = (c.requires.0, rear-short c.reach_of-r.result _ refl c.args.s (sym c.is_moved.ensures ∙ c.if-not-is_moved.false))

pub returns : goal.returns
returns c = asked-near _ _ _ _ c.reach_of-r.ensures c.if-not-r.false _ c.from.ensures _ (elim c.if-k.branch [ then-k w ↦ w.bad-is ∙ bad_now _ _ w.if-k.true | else-k w ↦ w.bad-is ∙ bad_then _ _ _ w.if-k.false w.is_bad-bad.ensures ]) true (sym c.if-not-is_moved.false ∙ c.is_moved.ensures) _ (omega arith) _ c.rest.ensures
