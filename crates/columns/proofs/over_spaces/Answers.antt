use native.Mathlib.Omega.{arith}
use mathlib.Core.Path.{refl}
use lib.ListN.{length-set}
use borrow.Author.Rules.{rules}
use mathlib.Core.Logic.{inl, inr}
use Rattle.columns.proofs.over_spaces.Goals.{then-loop-k-test+else-m-gt9, else-loop-k-test}
use Rattle.columns.proofs.Over.{two-over, one-over, no_digit, no-column}
use Rattle.columns.proofs.over_spaces.Goals as goal

pub loop-k-init : goal.loop-k-init
loop-k-init c = (search rules, refl, record { rest = refl; spaces = c.requires.1 })

pub loop-k-preserved : goal.loop-k-preserved
loop-k-preserved c = (
  simp length-set (omega arith),
  simp length-set c.loop-k.invariant.1,
  two-over _ _ _ _ _ c.loop-k.invariant.2 c.loop-k-test.true c.if-m-gt9.true,
)

pub returns-then-m-gt0 : goal.returns-then-m-gt0
returns-then-m-gt0 c = one-over _ _ _ _ _ c.loop-k.invariant.2 c.if-k-gt0.true c.if-m-gt0.true (elim c.loop-k-test.branch [ then-loop-k-test+else-m-gt9 w ↦ inr w.if-m-gt9.false | else-loop-k-test w ↦ inl w.loop-k-test.false ])

pub returns-else-k-gt0 : goal.returns-else-k-gt0
returns-else-k-gt0 c = elim c.else-k-gt0.either [ inl w ↦ no_digit _ _ c.loop-k.invariant.2 (omega (arith, w.1)) | inr w ↦ no-column _ _ c.loop-k.invariant.2 (omega (arith, w)) ]
