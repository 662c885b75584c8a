use native.Mathlib.Omega.{arith}
use Rattle.capability_engine.proofs.RegionApplies.{ready-walk, remove-room, remove-done}
use Rattle.capability_engine.proofs.region.apply_remove.Goals as goal

pub cut_at-requires : goal.cut_at-requires
cut_at-requires c = record { ready = c.requires.ready; room = c.requires.can_apply_remove.first }

pub lower_all-requires : goal.lower_all-requires
lower_all-requires c = c.cut_at.ensures.ready

pub bounds-next-1024 : goal.bounds-next-1024
bounds-next-1024 c = omega (arith, c.lower_all.ensures.ready.own.size)

pub start_at-from-requires : goal.start_at-from-requires
start_at-from-requires c = ready-walk c.lower_all.ensures.ready

pub cut_at-requires-2 : goal.cut_at-requires-2
cut_at-requires-2 c = record { ready = c.lower_all.ensures.ready; room = remove-room _ _ _ _ _ _ c.requires.can_apply_remove _ _ _ _ _ _ c.cut_at.ensures c.lower_all.ensures }

pub lower_all-requires-2 : goal.lower_all-requires-2
lower_all-requires-2 c = c.cut_at-2.ensures.ready

pub coalesce-requires : goal.coalesce-requires
coalesce-requires c = c.lower_all-2.ensures.ready

pub shape_of-next : goal.shape_of-next
shape_of-next c = omega (arith, c.coalesce.ensures.ready.own.size, c.requires.ready.own.size)

pub shape_of-words : goal.shape_of-words
shape_of-words c = omega (arith, c.coalesce.ensures.ready.words, c.requires.ready.words)

pub shape_of-links : goal.shape_of-links
shape_of-links c = omega (arith, c.coalesce.ensures.ready.heap.grown.list.size, c.requires.ready.heap.grown.list.size)

pub shape_of-gens : goal.shape_of-gens
shape_of-gens c = omega (arith, c.coalesce.ensures.ready.heap.grown.size, c.requires.ready.heap.grown.size)

pub returns : goal.returns
returns c = remove-done _ _ _ _ _ _ c.requires.can_apply_remove _ _ _ _ _ _ c.cut_at.ensures c.lower_all.ensures _ _ _ _ _ _ _ _ _ _ c.start_at-from.ensures c.cut_at-2.ensures c.lower_all-2.ensures c.coalesce.ensures
