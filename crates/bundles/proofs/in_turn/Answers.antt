use Rattle.std.specs.Prelude.{Err}
use mathlib.Core.Path.{ap, ◌∙◌}
use mathlib.Core.List.{◌++◌}
use native.Mathlib.Omega.{arith}
use Rattle.std.proofs.lemmas.Result.{err_from_is_err_and}
use Rattle.capability_engine.proofs.ScriptGoing.{lengths}
use Rattle.capability_engine.proofs.ScriptRuns.{some-left, none-left}
use Rattle.bundles.proofs.TurnLaws.{line-grown, turning-none, turning-all, turning-short, turning-refused, turning-more}
use Rattle.bundles.proofs.in_turn.Goals as goal

pub loop-rest-init : goal.loop-rest-init
loop-rest-init c = (c.requires, λ calls g. turning-none calls _ _ _ _ _ _ _ g)

pub shape_of-words-then-rest-lt-GROUP_LEN : goal.shape_of-words-then-rest-lt-GROUP_LEN
shape_of-words-then-rest-lt-GROUP_LEN c = (lengths _ _ _ _ _ c.requires _ _ _ _ _ c.loop-rest.invariant.0).0

pub shape_of-next-then-rest-lt-GROUP_LEN : goal.shape_of-next-then-rest-lt-GROUP_LEN
shape_of-next-then-rest-lt-GROUP_LEN c = (lengths _ _ _ _ _ c.requires _ _ _ _ _ c.loop-rest.invariant.0).1

pub shape_of-links-then-rest-lt-GROUP_LEN : goal.shape_of-links-then-rest-lt-GROUP_LEN
shape_of-links-then-rest-lt-GROUP_LEN c = (lengths _ _ _ _ _ c.requires _ _ _ _ _ c.loop-rest.invariant.0).2

pub shape_of-gens-then-rest-lt-GROUP_LEN : goal.shape_of-gens-then-rest-lt-GROUP_LEN
shape_of-gens-then-rest-lt-GROUP_LEN c = (lengths _ _ _ _ _ c.requires _ _ _ _ _ c.loop-rest.invariant.0).3

pub returns-then-rest-lt-GROUP_LEN : goal.returns-then-rest-lt-GROUP_LEN
returns-then-rest-lt-GROUP_LEN c = λ calls g. turning-short calls _ _ _ _ _ _ _ _ _ _ _ _ _ _ (c.loop-rest.invariant.1 calls g) (some-left _ _ c.is_empty.ensures c.loop-rest-test.true) (omega (arith, c.if-rest-lt-GROUP_LEN.true))

pub judge-requires : goal.judge-requires
judge-requires c = record { grown = c.loop-rest.invariant.0; four = c.split_at.ensures.front_len }

pub shape_of-words-in_err-value : goal.shape_of-words-in_err-value
shape_of-words-in_err-value c = (lengths _ _ _ _ _ c.requires _ _ _ _ _ (line-grown _ _ _ _ _ _ _ _ _ _ _ _ c.loop-rest.invariant.0 c.judge.ensures)).0

pub shape_of-next-in_err-value : goal.shape_of-next-in_err-value
shape_of-next-in_err-value c = (lengths _ _ _ _ _ c.requires _ _ _ _ _ (line-grown _ _ _ _ _ _ _ _ _ _ _ _ c.loop-rest.invariant.0 c.judge.ensures)).1

pub shape_of-links-in_err-value : goal.shape_of-links-in_err-value
shape_of-links-in_err-value c = (lengths _ _ _ _ _ c.requires _ _ _ _ _ (line-grown _ _ _ _ _ _ _ _ _ _ _ _ c.loop-rest.invariant.0 c.judge.ensures)).2

pub shape_of-gens-in_err-value : goal.shape_of-gens-in_err-value
shape_of-gens-in_err-value c = (lengths _ _ _ _ _ c.requires _ _ _ _ _ (line-grown _ _ _ _ _ _ _ _ _ _ _ _ c.loop-rest.invariant.0 c.judge.ensures)).3

pub returns-in_err-value : goal.returns-in_err-value
returns-in_err-value c = λ calls g. (let u = c.loop-rest.invariant.1 calls g in let p = err_from_is_err_and c.from_residual.result c.from_residual.ensures.1 in
    turning-refused calls _ _ _ _ _ _ _ _ _ _ _ _ _ _ u _ _ c.split_at.ensures.front_len c.split_at.ensures.by_index.0 _ _ _ _ _ _ (c.judge.ensures (calls ++ u.before) u.grown) _ c.in_err-value.was _ (p.1 ∙ ap Err p.2))

pub loop-rest-smaller : goal.loop-rest-smaller
loop-rest-smaller c = omega (arith, c.split_at.ensures.back_len)

pub loop-rest-preserved : goal.loop-rest-preserved
loop-rest-preserved c = (line-grown _ _ _ _ _ _ _ _ _ _ _ _ c.loop-rest.invariant.0 c.judge.ensures, λ calls g. let u = c.loop-rest.invariant.1 calls g in turning-more calls _ _ _ _ _ _ _ _ _ _ _ _ _ _ u _ _ c.split_at.ensures.front_len c.split_at.ensures.by_index.0 _ _ _ _ _ _ (c.judge.ensures (calls ++ u.before) u.grown) _ c.in_ok-value.was)

pub shape_of-words : goal.shape_of-words
shape_of-words c = (lengths _ _ _ _ _ c.requires _ _ _ _ _ c.loop-rest.invariant.0).0

pub shape_of-next : goal.shape_of-next
shape_of-next c = (lengths _ _ _ _ _ c.requires _ _ _ _ _ c.loop-rest.invariant.0).1

pub shape_of-links : goal.shape_of-links
shape_of-links c = (lengths _ _ _ _ _ c.requires _ _ _ _ _ c.loop-rest.invariant.0).2

pub shape_of-gens : goal.shape_of-gens
shape_of-gens c = (lengths _ _ _ _ _ c.requires _ _ _ _ _ c.loop-rest.invariant.0).3

pub returns : goal.returns
returns c = λ calls g. turning-all calls _ _ _ _ _ _ _ _ _ _ _ _ _ _ (c.loop-rest.invariant.1 calls g) (none-left _ _ c.is_empty.ensures c.loop-rest-test.false) _ c.from.ensures
