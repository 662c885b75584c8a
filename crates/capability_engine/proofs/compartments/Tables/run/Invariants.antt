use mathlib.Core.Path.{◌≡◌}
use mathlib.Core.List.{List}
use lib.ListN.{length}
use Rattle.definitions.specs.declared.call.Call.{Call}
use Rattle.capability_engine.specs.CompartmentGrown.{Grown}
use Rattle.capability_engine.proofs.ScriptRuns.{Running}
use Rattle.capability_engine.proofs.compartments.Tables.run.Given as goal

abbrev pub invariant-loop-rest : goal.invariant-loop-rest
invariant-loop-rest l =
    (length l.out ≡ 65536)
    × ((calls : List Call) → Grown l.initial.words l.initial.next l.initial.links l.initial.gens l.initial.self calls → Running calls l.initial.script l.input l.words l.next l.links l.gens l.self l.script l.rest)

abbrev pub decreases-loop-rest : goal.decreases-loop-rest
decreases-loop-rest l = length l.rest
