use native.Mathlib.Omega.{arith}
use Rattle.capability_engine.proofs.ScriptRuns.{replay-ended, replay-unended}
use Rattle.capability_engine.proofs.compartments.Tables.replay.Goals as goal

pub run-requires-then-left-gt0 : goal.run-requires-then-left-gt0
run-requires-then-left-gt0 c = let q = c.run.ensures c.requires.calls c.requires.grown in record { calls = q.later; grown = q.grown }

pub returns-then-left-gt0 : goal.returns-then-left-gt0
returns-then-left-gt0 c = λ calls g. replay-unended calls _ _ _ _ _ _ _ _ c.new-left.ensures (c.run.ensures calls g) _ _ _ _ _ _ (c.run-then-left-gt0.ensures _ (c.run.ensures calls g).grown)

pub returns-else-left-gt0 : goal.returns-else-left-gt0
returns-else-left-gt0 c = λ calls g. replay-ended calls _ _ _ _ _ _ _ _ c.new-left.ensures (c.run.ensures calls g) (omega (arith, c.if-left-gt0.false))
