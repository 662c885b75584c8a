use mathlib.Core.List.{[]}
use Rattle.layouts.proofs.Bench.renew.Goals as goal

pub returns-in-Some : goal.returns-in-Some
returns-in-Some c = record { calls = []; grown = (c.new-made.ensures.made c.in-Some.tables c.in-Some.is).grown }

pub returns-in_default : goal.returns-in_default
returns-in_default c = let k = c.new-made.ensures.kept c.in_default.is in rw (k.0, k.1) c.requires
