use mathlib.Core.List.{[]}
use Rattle.key.proofs.main.Goals as goal

pub run-requires : goal.run-requires
run-requires c = record { calls = []; grown = (c.new.ensures.made c.in-Some.tables c.in-Some.is).grown }
