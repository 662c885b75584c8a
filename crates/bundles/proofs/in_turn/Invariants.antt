use mathlib.Core.List.{List}
use lib.ListN.{length}
use Rattle.definitions.specs.declared.call.Call.{Call}
use Rattle.capability_engine.specs.CompartmentGrown.{Grown, IsGrown}
use Rattle.bundles.proofs.TurnLaws.{Turning}
use Rattle.bundles.proofs.in_turn.Given as goal

abbrev pub invariant-loop-rest : goal.invariant-loop-rest
invariant-loop-rest l =
    IsGrown l.words l.next l.links l.gens l.tables
    × ((calls : List Call) → Grown l.initial.words l.initial.next l.initial.links l.initial.gens l.initial.tables calls
    → Turning calls l.compartment l.groups l.initial.words l.initial.next l.initial.links l.initial.gens l.initial.tables l.words l.next l.links l.gens l.tables l.change l.rest)

abbrev pub decreases-loop-rest : goal.decreases-loop-rest
decreases-loop-rest l = length l.rest
