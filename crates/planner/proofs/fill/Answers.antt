use Prim.Native.Nat.{ℕ, ◌/◌}
use mathlib.Core.Path.{◌≡◌, subst}
use mathlib.Core.List.{map}
use lib.ListN.{length}
use native.Mathlib.Omega.{arith}
use Rattle.definitions.specs.Pages.{permission_group, Filled}
use Rattle.planner.specs.Cursor.{plan_from}
use Rattle.definitions.proofs.Fills.{three, walk-short, walk-full, walk_more}
use Rattle.planner.proofs.fill.Goals as goal

pub returns-in_default : goal.returns-in_default
returns-in_default c = walk-short 3 permission_group three c.loop-i.invariant (c.in_default.ensures).0

pub loop-i-preserved : goal.loop-i-preserved
loop-i-preserved c = walk_more 3 permission_group three c.loop-i.invariant c.in-Some.ensures c.loop-i-test.true c.put.ensures

pub returns : goal.returns
returns c = let e : c.loop-i.i ≡ length c.args.out.now / 3 = omega arith in subst (λ (n : ℕ). Filled 3 (map permission_group (plan_from c.args.wanted.now c.args.from)) 0 c.args.out.now c.loop-i.out n) e (walk-full 3 permission_group three c.loop-i.invariant e)
