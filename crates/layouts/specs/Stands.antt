-- The tables and their arrays, as calls grew them.
use Rattle.capability_engine.specs.CompartmentGrown.{IsGrown}
use Rattle.layouts.specs.declared.Bench.{Bench}

abbrev pub Stands : Bench → Type 0
Stands b = IsGrown b.words b.next b.links b.gens b.tables
