use mathlib.Core.Path.{sym, ◌∙◌}
use native.Mathlib.Omega.{arith}
use Rattle.lines.proofs.take_line.Goals.{then-held-line, else-held-line}
use Rattle.lines.proofs.Taking.{taken-all, taken-end, taken-byte, taken_more}
use Rattle.lines.proofs.take_line.Goals as goal

pub returns-then-b-eq10 : goal.returns-then-b-eq10
returns-then-b-eq10 c = sym (c.loop-used.invariant.0 ∙ taken-end _ _ _ _ (omega arith) c.if-b-eq10.true)

pub loop-used-preserved : goal.loop-used-preserved
loop-used-preserved c = (
  elim c.if-held-line.branch [
    | then-held-line w ↦ rw (w.line-is, w.held-is) (c.loop-used.invariant.0 ∙ taken-byte _ _ _ _ (omega arith) c.if-b-eq10.false w.if-held-line.true)
    | else-held-line w ↦ rw (w.line-is, w.held-is) (c.loop-used.invariant.0 ∙ taken_more _ _ _ _ (omega arith) c.if-b-eq10.false w.if-held-line.false)
  ],
  c.if-held-line.auto.line ∙ c.loop-used.invariant.1,
  omega arith,
)

pub returns : goal.returns
returns c = sym (c.loop-used.invariant.0 ∙ taken-all _ _ _ _ c.max.result (omega arith) (omega arith))
