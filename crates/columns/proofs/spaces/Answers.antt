use native.Mathlib.Omega.{arith}
use mathlib.Core.Path.{◌≡◌, refl}
use lib.ListN.{length-set}
use borrow.Author.Rules.{rules}
use Rattle.columns.proofs.Over.{no-space, space-more}
use Rattle.columns.proofs.spaces.Goals as goal

pub loop-i-init : goal.loop-i-init
loop-i-init c = (search rules, refl, no-space c.args.at c.args.out.now)

pub bounds-out-at : goal.bounds-out-at
bounds-out-at c = omega arith

pub loop-i-preserved : goal.loop-i-preserved
loop-i-preserved c = (omega arith, simp length-set c.loop-i.invariant.1, space-more c.args.at c.loop-i.i c.loop-i.out c.args.out.now c.loop-i.invariant.2)

pub shape_of-out : goal.shape_of-out
shape_of-out c = c.loop-i.invariant.1

pub returns : goal.returns
returns c = let e : c.loop-i.i ≡ c.args.columns = omega arith in rw e at c.loop-i.invariant.2
