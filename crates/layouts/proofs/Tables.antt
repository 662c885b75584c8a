-- The tables that a call leaves are again those that calls grew.
use Rattle.std.proofs.Common.{ℕ, ◌≡◌, List, []}
use Rattle.definitions.specs.declared.call.Call.{Call}
use Rattle.definitions.specs.Answers.{Answer}
use Rattle.capability_engine.specs.declared.compartments.Tables.{Tables}
use Rattle.capability_engine.specs.CompartmentGrown.{Grown, IsGrown, Answers}

pub answered : {words next links gens words' next' links' gens' : List ℕ} {t t' : Tables} {call : Call} {r : Answer} → IsGrown words next links gens t
    → ((calls : List Call) → Grown words next links gens t calls → Answers calls call words next links gens t words' next' links' gens' t' r)
    → IsGrown words' next' links' gens' t'
answered g a = record { calls = _; grown = (a g.calls g.grown).grown }
