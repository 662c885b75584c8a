use Rattle.capability_engine.specs.PoolOwn.{linked}
use native.Mathlib.Omega.{arith}
use Rattle.capability_engine.proofs.PoolHeaps.{slot-low, inserts, inserts-not}
use borrow.Author.Rules.{rules}
use Rattle.capability_engine.proofs.region.insert_after.Goals as goal

pub offset_bounds-next-x : goal.offset_bounds-next-x
offset_bounds-next-x c = let h = slot-low _ _ _ _ _ c.requires _ c.allocate-made.new.self c.allocate-made.result c.allocate-made.ensures _ c.in-Some.is in search rules

pub bounds-next-x : goal.bounds-next-x
bounds-next-x c = let h = slot-low _ _ _ _ _ c.requires _ c.allocate-made.new.self c.allocate-made.result c.allocate-made.ensures _ c.in-Some.is in omega (arith, c.requires.size)

pub returns : goal.returns
unfolding linked
returns c = inserts _ _ _ _ _ c.requires _ c.allocate-made.new.self c.allocate-made.result c.allocate-made.ensures _ c.in-Some.is

pub returns-in_default : goal.returns-in_default
returns-in_default c = inserts-not _ _ _ _ _ c.requires _ c.allocate-made.new.self c.allocate-made.result c.allocate-made.ensures c.in_default.is 1024
