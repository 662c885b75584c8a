use Rattle.capability_engine.proofs.StreamTurns.{told-done, told-found}
use Rattle.definitions.proofs.Fills.{opens, drop_past}
use Rattle.capability_engine.specs.StreamCursor.{remaining}
use lib.ListN.{drop}
use mathlib.Core.Path.{◌≡◌, refl, sym, ap, ◌∙◌}
use native.Mathlib.Omega.{arith}
use Prim.Native.Nat.{ℕ}
use Rattle.capability_engine.proofs.lists.Lists.advance.Goals as goal

pub loop-i-init : goal.loop-i-init
loop-i-init c = (omega arith, c.requires, refl)

pub returns-in_default : goal.returns-in_default
returns-in_default c = let z = told-done c.args.self.next.now c.args.self.words.now c.args.self.segments.now c.args.self.n c.loop-i.c c.next_mapping.result c.next_mapping.ensures c.in_default.is in record { ready_2 = c.loop-i.invariant.1; result_value = z ∙ sym (drop_past (remaining c.args.self.next.now c.args.self.words.now c.args.self.segments.now c.args.self.n c.args.from) c.loop-i._i c.args.k (sym c.loop-i.invariant.2 ∙ z) c.loop-i.invariant.0) }

pub loop-i-preserved : goal.loop-i-preserved
loop-i-preserved c = let v = told-found c.args.self.next.now c.args.self.words.now c.args.self.segments.now c.args.self.n c.loop-i.c c.next_mapping.result c.next_mapping.ensures _ _ c.in-Some.is in (omega arith, v.1, sym (opens (remaining c.args.self.next.now c.args.self.words.now c.args.self.segments.now c.args.self.n c.args.from) c.loop-i._i _ _ (sym c.loop-i.invariant.2 ∙ v.0)).back)

pub returns : goal.returns
returns c = let e : c.loop-i._i ≡ c.args.k = omega arith in record { ready_2 = c.loop-i.invariant.1; result_value = c.loop-i.invariant.2 ∙ ap (λ (x : ℕ). drop x (remaining c.args.self.next.now c.args.self.words.now c.args.self.segments.now c.args.self.n c.args.from)) e }
