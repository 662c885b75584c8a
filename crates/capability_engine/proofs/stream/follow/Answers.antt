use Rattle.definitions.proofs.Fills.{opens, drop_past}
use Rattle.capability_engine.proofs.PoolLinks.{slots-step, listed-step, slots-none}
use Rattle.capability_engine.specs.PoolChain.{slots}
use lib.ListN.{drop}
use mathlib.Core.Path.{◌≡◌, refl, sym, ap, ◌∙◌}
use native.Mathlib.Omega.{arith}
use Prim.Native.Nat.{ℕ}
use Rattle.capability_engine.proofs.stream.follow.Goals as goal

pub loop-i-init : goal.loop-i-init
loop-i-init c = (omega arith, c.requires, refl)

pub returns-then-h-ge1024 : goal.returns-then-h-ge1024
returns-then-h-ge1024 c = let z = slots-none _ _ c.loop-i.invariant.1 c.if-h-ge1024.true in record { listed = c.loop-i.invariant.1; result_value = z ∙ sym (drop_past (slots c.args.next.now c.args.head) c.loop-i._i c.args.k (sym c.loop-i.invariant.2 ∙ z) c.loop-i.invariant.0) }

pub offset_bounds-next-h : goal.offset_bounds-next-h
offset_bounds-next-h c = omega (arith, c.if-h-ge1024.false)

pub bounds-next-h : goal.bounds-next-h
bounds-next-h c = omega (arith, c.if-h-ge1024.false, c.loop-i.invariant.1.size)

pub loop-i-preserved : goal.loop-i-preserved
loop-i-preserved c = (omega arith, listed-step _ _ c.loop-i.invariant.1 c.if-h-ge1024.false, sym (opens (slots c.args.next.now c.args.head) c.loop-i._i _ _ (sym c.loop-i.invariant.2 ∙ slots-step _ _ c.loop-i.invariant.1 c.if-h-ge1024.false)).back)

pub returns : goal.returns
returns c = let e : c.loop-i._i ≡ c.args.k = omega arith in record { listed = c.loop-i.invariant.1; result_value = c.loop-i.invariant.2 ∙ ap (λ (x : ℕ). drop x (slots c.args.next.now c.args.head)) e }
