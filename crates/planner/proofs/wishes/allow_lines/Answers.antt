use Prim.Native.Nat.{◌-◌, ◌/◌}
use mathlib.Core.Path.{sym, subst}
use mathlib.Core.List.{[], ◌∷◌}
use Rattle.std.specs.Prelude.{Ok}
use Rattle.std.proofs.lemmas.Result.{err_from_is_err_and}
use Rattle.definitions.specs.Script.{script_line}
use Rattle.planner.specs.Writing.{Adds, other_lines}
use Rattle.planner.proofs.WriteLaws.{adds_none, adds-both, adds-stop, allow-same, allow-less, allow-more}
use Rattle.planner.proofs.wishes.allow_lines.Goals as goal

pub returns-then-allowance-eq128 : goal.returns-then-allowance-eq128
returns-then-allowance-eq128 c = subst (λ ls. Adds ls c.args.out.now c.args.out.now c.args.at (Ok c.args.at)) (sym (allow-same c.args.compartment c.args.allowance c.if-allowance-eq128.true)) (adds_none c.args.out.now c.args.at)

pub returns-then-allowance-lt128 : goal.returns-then-allowance-lt128
returns-then-allowance-lt128 c = subst (λ ls. Adds ls c.args.out.now c.allow_line.new.out c.args.at c.allow_line.result) (sym (allow-less c.args.compartment c.args.allowance c.if-allowance-eq128.false c.if-allowance-lt128.true)) c.allow_line.ensures

pub returns-in_err-at : goal.returns-in_err-at
returns-in_err-at c =
    let p = err_from_is_err_and c.from_residual.result c.from_residual.ensures.1 in
    rw (p.1, p.2, allow-more c.args.compartment c.args.allowance c.if-allowance-eq128.false c.if-allowance-lt128.false)
    (adds-stop (other_lines c.args.compartment 0 8 ((1024 - c.args.allowance) / 7)) (script_line 83 c.args.compartment (c.args.allowance ∷ []) ∷ []) c.args.out.now c.other_lines.new.out c.args.at _ (subst (Adds (other_lines c.args.compartment 0 8 ((1024 - c.args.allowance) / 7)) c.args.out.now c.other_lines.new.out c.args.at) c.in_err-at.was c.other_lines.ensures))

pub returns : goal.returns
returns c =
    subst (λ ls. Adds ls c.args.out.now c.allow_line-2.new.out c.args.at c.allow_line-2.result) (sym (allow-more c.args.compartment c.args.allowance c.if-allowance-eq128.false c.if-allowance-lt128.false))
    (adds-both (other_lines c.args.compartment 0 8 ((1024 - c.args.allowance) / 7)) (script_line 83 c.args.compartment (c.args.allowance ∷ []) ∷ []) c.args.out.now c.other_lines.new.out c.args.at c.allow_line-2.new.out c.in_ok-at.at c.allow_line-2.result (subst (Adds (other_lines c.args.compartment 0 8 ((1024 - c.args.allowance) / 7)) c.args.out.now c.other_lines.new.out c.args.at) c.in_ok-at.was c.other_lines.ensures) c.allow_line-2.ensures)
