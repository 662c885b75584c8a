use Rattle.std.proofs.Common.{◌≡◌}
use Rattle.std.proofs.lemmas.Grind.{common_steps}
use native.Mathlib.Omega.{arith}
use Rattle.capability_engine.proofs.RemapCuts.{cut-refused, cut-clean, cut-done, cut-builds, cut-none, one-good, one-room, one-has, cut-one}
use Rattle.capability_engine.proofs.remapper.Remapper.cut.Goals as goal

pub can_cut-requires : goal.can_cut-requires
can_cut-requires c = let t = c.ask-k.ensures c.requires.1.0 c.requires.1.1.held in (t.stay-few, t.moved-few)

pub returns-in_err-can_cut : goal.returns-in_err-can_cut
returns-in_err-can_cut c = λ ss h. let e : c.from_residual.result ≡ c.can_cut.result = grind (arith, common_steps) in rw e (cut-refused _ _ c.requires.0 ss h _ (c.ask-k.ensures ss h.held) _ c.can_cut.ensures _ c.in_err-can_cut.was)

pub build-requires : goal.build-requires
build-requires c = (c.requires.0, (c.requires.1.0, c.requires.1.1, cut-builds _ _ c.requires.0 c.requires.1.0 c.requires.1.1 _ (c.ask-k.ensures c.requires.1.0 c.requires.1.1.held) _ c.can_cut.ensures _ c.in_ok-can_cut.was))

pub returns-then-k-gt1 : goal.returns-then-k-gt1
returns-then-k-gt1 c = λ ss h. cut-done _ _ c.requires.0 ss h _ (c.ask-k.ensures ss h.held) _ c.can_cut.ensures _ c.in_ok-can_cut.was _ (c.build.ensures ss h (cut-builds _ _ c.requires.0 ss h _ (c.ask-k.ensures ss h.held) _ c.can_cut.ensures _ c.in_ok-can_cut.was))

pub trim-last-requires : goal.trim-last-requires
trim-last-requires c = (c.requires.1.0, c.requires.1.1, cut-clean _ _ c.requires.0 c.requires.1.0 c.requires.1.1 _ (c.ask-k.ensures c.requires.1.0 c.requires.1.1.held) _ c.can_cut.ensures _ c.in_ok-can_cut.was)

pub returns-then-k-lt1 : goal.returns-then-k-lt1
returns-then-k-lt1 c = λ ss h. cut-none _ _ c.requires.0 ss h _ (c.ask-k.ensures ss h.held) _ c.can_cut.ensures _ c.in_ok-can_cut.was _ _ (c.trim-last.ensures ss h (cut-clean _ _ c.requires.0 ss h _ (c.ask-k.ensures ss h.held) _ c.can_cut.ensures _ c.in_ok-can_cut.was)) c.if-k-lt1.true

pub put-requires : goal.put-requires
put-requires c = let b = (c.trim-last.ensures c.requires.1.0 c.requires.1.1 (cut-clean _ _ c.requires.0 c.requires.1.0 c.requires.1.1 _ (c.ask-k.ensures c.requires.1.0 c.requires.1.1.held) _ c.can_cut.ensures _ c.in_ok-can_cut.was)) in (one-good _ _ c.requires.0 c.requires.1.0 c.requires.1.1 _ (c.ask-k.ensures c.requires.1.0 c.requires.1.1.held) _ c.can_cut.ensures _ c.in_ok-can_cut.was _ _ b c.if-k-lt1.false c.if-k-gt1.false, one-has _ _ c.requires.0 c.requires.1.0 c.requires.1.1 _ (c.ask-k.ensures c.requires.1.0 c.requires.1.1.held) _ c.can_cut.ensures _ c.in_ok-can_cut.was _ _ b c.if-k-lt1.false c.if-k-gt1.false)

pub returns : goal.returns
returns c = λ ss h. let b = (c.trim-last.ensures ss h (cut-clean _ _ c.requires.0 ss h _ (c.ask-k.ensures ss h.held) _ c.can_cut.ensures _ c.in_ok-can_cut.was)) in cut-one _ _ c.requires.0 ss h _ (c.ask-k.ensures ss h.held) _ c.can_cut.ensures _ c.in_ok-can_cut.was _ _ b c.if-k-lt1.false c.if-k-gt1.false _ _ (c.put.ensures _ b.low b.high b.zip (one-room _ _ c.requires.0 ss h _ (c.ask-k.ensures ss h.held) _ c.can_cut.ensures _ c.in_ok-can_cut.was _ _ b c.if-k-lt1.false c.if-k-gt1.false)).0
