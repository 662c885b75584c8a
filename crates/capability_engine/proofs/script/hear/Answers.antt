use native.Mathlib.Omega.{arith}
use Rattle.capability_engine.proofs.ScriptHears.{hears-ahead}
use Rattle.capability_engine.proofs.script.hear.Goals as goal

pub returns : goal.returns
returns c = hears-ahead _ c.args.p.now _ c.line_ahead-ahead.result _ _ _ c.requires.0 (omega arith) c.line_ahead-ahead.ensures c.in-Some.is c.task_of.ensures
