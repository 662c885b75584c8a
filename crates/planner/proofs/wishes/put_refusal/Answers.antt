use Prim.Native.Nat.{ℕ}
use mathlib.Core.Path.{subst}
use mathlib.Core.List.{[], ◌∷◌}
use Rattle.definitions.specs.Script.{answer_columns}
use Rattle.planner.specs.Writing.{PrintsLines}
use Rattle.planner.proofs.WriteLaws.{one-line}
use Rattle.planner.proofs.wishes.put_refusal.Goals as goal

pub returns : goal.returns
returns c = subst (λ (x : ℕ). PrintsLines (answer_columns x c.args.value ∷ []) c.args.out.now c.put_columns.new.out c.unwrap_or.result) c.number.ensures (one-line (answer_columns c.number.result c.args.value) c.args.out.now c.put_columns.new.out c.put_columns.result c.put_columns.ensures c.unwrap_or.result c.unwrap_or.ensures)
