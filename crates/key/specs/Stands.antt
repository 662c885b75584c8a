-- The tables and their arrays, as calls grew them.
use Rattle.capability_engine.specs.CompartmentGrown.{IsGrown}
use Rattle.key.specs.declared.Session.{Session}

abbrev pub Stands : Session → Type 0
Stands s = IsGrown s.words.now s.next.now s.links.now s.gens.now s.tables
