use mathlib.Core.Path.{sym, ◌∙◌}
use mathlib.Core.Bool.{true≢false}
use borrow.Author.Tests.{not-true, not-false, lt-ltb, le-ltb, ltb-true, ltb-false}
use Rattle.capability_engine.proofs.script.goes_on.Goals as goal

pub returns-then-p-lt8 : goal.returns-then-p-lt8
returns-then-p-lt8 c =
    let l = lt-ltb c.args.p.compartment 8 c.if-p-lt8.true in
    record { on = λ e. (not-true _ c.if-not-p.true, λ h. absurd (true≢false (sym e ∙ le-ltb _ 8 h))); off = λ e. absurd (true≢false (sym l ∙ e)) }

pub returns-else-p-lt8 : goal.returns-else-p-lt8
returns-else-p-lt8 c = record { on = λ e. (not-true _ c.if-not-p.true, λ h. ltb-true _ _ e); off = λ e f. (c.if-p-lt8.false, ltb-false _ _ e) }

pub returns-else-not-p : goal.returns-else-not-p
returns-else-not-p c = record { on = λ e. absurd (true≢false (sym e ∙ c.if-not-p.false)); off = λ e f. absurd (true≢false (sym (not-false _ c.if-not-p.false) ∙ f)) }
