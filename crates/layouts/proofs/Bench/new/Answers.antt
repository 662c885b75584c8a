use mathlib.Core.List.{[]}
use Rattle.layouts.proofs.Bench.new.Goals as goal

pub returns : goal.returns
returns c = record { calls = []; grown = (c.new.ensures.made c.in_ok-tables.tables c.in_ok-tables.was).grown }
