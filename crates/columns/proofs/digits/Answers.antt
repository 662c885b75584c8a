use native.Mathlib.Omega.{arith}
use Prim.Native.Nat.{ℕ, ◌+◌, ◌*◌, ◌-◌}
use mathlib.Core.Path.{◌≡◌, sym, ap, ◌∙◌}
use lib.ListN.{get_or, drop}
use Rattle.definitions.specs.Script.{digits_of}
use Rattle.columns.specs.Columns.{column_from}
use Rattle.columns.proofs.Steps.{is-ascii-digit, digits-no, digits-big, digits_more, digits-end}
use Rattle.columns.proofs.digits.Goals as goal

pub returns-then-not-is_ascii_digit : goal.returns-then-not-is_ascii_digit
returns-then-not-is_ascii_digit c =
    ap column_from (digits-no c.args.bytes.now c.loop-b.b-index c.loop-b-test.true c.loop-b.n (sym (is-ascii-digit _) ∙ sym c.is_ascii_digit.ensures.value ∙ c.if-not-is_ascii_digit.true) ∙ c.loop-b.invariant)

pub returns-in_err-n : goal.returns-in_err-n
returns-in_err-n c =
    c.from_residual.ensures ∙ ap column_from (digits-big c.args.bytes.now c.loop-b.b-index c.loop-b-test.true c.loop-b.n (sym (is-ascii-digit _) ∙ sym c.is_ascii_digit.ensures.value ∙ c.if-not-is_ascii_digit.false) (omega (arith, c.in_err-n.ensures)) ∙ c.loop-b.invariant)

pub loop-b-preserved : goal.loop-b-preserved
loop-b-preserved c =
    let next : c.in_ok-n.n ≡ c.loop-b.n * 10 + (get_or c.args.bytes.now c.loop-b.b-index 0 - 48) = omega (arith, c.in_ok-n.ensures) in
    ap (λ (k : ℕ). digits_of k (drop (c.loop-b.b-index + 1) c.args.bytes.now)) next
    ∙ digits_more c.args.bytes.now c.loop-b.b-index c.loop-b-test.true c.loop-b.n (sym (is-ascii-digit _) ∙ sym c.is_ascii_digit.ensures.value ∙ c.if-not-is_ascii_digit.false) (omega (arith, c.in_ok-n.ensures))
    ∙ c.loop-b.invariant

pub returns : goal.returns
returns c = ap column_from (digits-end c.args.bytes.now c.loop-b.b-index (omega arith) c.loop-b.n ∙ c.loop-b.invariant)
