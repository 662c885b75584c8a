use mathlib.Core.Path.{sym, ◌∙◌}
use borrow.Author.Tests.{eqb-true, eqb-false}
use native.Mathlib.Omega.{arith}
use Rattle.planner.proofs.ReadLaws.{ends-none, ends-byte}
use Rattle.planner.proofs.wishes.ends.Goals as goal

pub returns-then-is_empty : goal.returns-then-is_empty
returns-then-is_empty c = c.if-is_empty.true ∙ ends-none c.args.rest.now (eqb-true _ 0 (sym c.is_empty.ensures ∙ c.if-is_empty.true))

pub returns-else-is_empty : goal.returns-else-is_empty
returns-else-is_empty c = let some = eqb-false _ 0 (sym c.is_empty.ensures ∙ c.if-is_empty.false) in ends-byte c.args.rest.now (omega (arith, some))
