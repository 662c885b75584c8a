use mathlib.Core.List.{List}
use lib.ListN.{length}
use Rattle.definitions.specs.declared.call.Call.{Call}
use Rattle.capability_engine.specs.CompartmentGrown.{Grown}
use Rattle.capability_engine.proofs.ScriptGoing.{to_do, script_at, Going}
use Rattle.capability_engine.proofs.compartments.Tables.feed.Given as goal

abbrev pub invariant-loop-k : goal.invariant-loop-k
invariant-loop-k l =
    (calls : List Call) → Grown l.initial.words l.initial.next l.initial.links l.initial.gens l.initial.self calls
    → Going calls (script_at l.initial.script.line l.initial.p) l.input l.initial.out l.words l.next l.links l.gens l.self l.script.line l.out l.p

abbrev pub decreases-loop-k : goal.decreases-loop-k
decreases-loop-k l =
    to_do (length l.input) l.p
