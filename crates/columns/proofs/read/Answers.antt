use native.Mathlib.Omega.{arith}
use borrow.Author.Tests.{eqb-true, eqb-false}
use mathlib.Core.Path.{sym, ap, ◌∙◌}
use Rattle.columns.specs.Columns.{column_from}
use Rattle.columns.proofs.Steps.{rest-length, zero_alone, not_a_column, other-digit}
use Rattle.columns.proofs.read.Goals as goal

pub returns-in-48 : goal.returns-in-48
returns-in-48 c =
    ap column_from
    (zero_alone c.past_spaces.result.now (omega (arith, eqb-true _ 0 (sym c.is_empty.ensures ∙ c.if-is_empty.true), rest-length c.past_spaces.result.now 1)) (omega arith)
    ∙ c.past_spaces.ensures.says)

pub returns-in-49-to-57 : goal.returns-in-49-to-57
returns-in-49-to-57 c =
    c.digits.ensures
    ∙ ap column_from (rw c.from.ensures (other-digit c.past_spaces.result.now (omega arith) (omega arith) (omega arith)) ∙ c.past_spaces.ensures.says)

pub returns-in_default : goal.returns-in_default
returns-in_default c =
    ap column_from
    (not_a_column c.past_spaces.result.now c.past_spaces.ensures.passed (λ l e. omega arith) (λ h a b. omega arith)
    ∙ c.past_spaces.ensures.says)

pub returns-in_default-first : goal.returns-in_default-first
returns-in_default-first c =
    ap column_from
    (not_a_column c.past_spaces.result.now c.past_spaces.ensures.passed (λ l e. omega (arith, eqb-false _ 0 (sym c.is_empty.ensures ∙ c.if-is_empty.false), rest-length c.past_spaces.result.now 1)) (λ h a b. omega (arith, eqb-false _ 0 (sym c.is_empty.ensures ∙ c.if-is_empty.false), rest-length c.past_spaces.result.now 1))
    ∙ c.past_spaces.ensures.says)

pub returns-in_default-first-2 : goal.returns-in_default-first-2
returns-in_default-first-2 c =
    ap column_from
    (not_a_column c.past_spaces.result.now c.past_spaces.ensures.passed (λ l e. omega arith) (λ h a b. omega arith)
    ∙ c.past_spaces.ensures.says)

pub returns-in_default-first-3 : goal.returns-in_default-first-3
returns-in_default-first-3 c =
    ap column_from
    (not_a_column c.past_spaces.result.now c.past_spaces.ensures.passed (λ l e. omega arith) (λ h a b. omega arith)
    ∙ c.past_spaces.ensures.says)
