use Rattle.capability_engine.proofs.RegionApplies.{add-first}
use native.Mathlib.Omega.{arith}
use Rattle.capability_engine.proofs.RegionApplies.{add-room2, add-room3, add_small, add_done}
use Rattle.capability_engine.proofs.region.apply_add.Goals as goal

pub cut_at-requires : goal.cut_at-requires
cut_at-requires c = let v = add-first _ _ _ _ _ c.args.rights c.requires.room c.requires.ready in record { ready = v.0; room = v.1 }

pub cut_at-requires-2 : goal.cut_at-requires-2
cut_at-requires-2 c = record { ready = c.cut_at.ensures.ready; room = add-room2 _ _ _ _ _ c.args.rights c.requires.room _ _ _ c.cut_at.ensures }

pub fill_gaps-requires : goal.fill_gaps-requires
fill_gaps-requires c = record { ready = c.cut_at-2.ensures.ready; room = add-room3 _ _ _ _ _ c.args.rights c.requires.room _ _ _ c.cut_at.ensures _ _ _ c.cut_at-2.ensures }

pub raise_all-requires : goal.raise_all-requires
raise_all-requires c = record { ready = (_, c.fill_gaps.ensures.ready); all_small = add_small _ _ _ _ _ c.args.rights c.requires.room _ _ _ c.cut_at.ensures _ _ _ c.cut_at-2.ensures _ _ _ c.fill_gaps.ensures c.requires.all_small }

pub coalesce-requires : goal.coalesce-requires
coalesce-requires c = (c.raise_all.ensures _ c.fill_gaps.ensures.ready).ready

pub shape_of-next : goal.shape_of-next
shape_of-next c = omega (arith, c.coalesce.ensures.ready.own.size, c.requires.ready.own.size)

pub shape_of-words : goal.shape_of-words
shape_of-words c = omega (arith, c.coalesce.ensures.ready.words, c.requires.ready.words)

pub shape_of-links : goal.shape_of-links
shape_of-links c = omega (arith, c.coalesce.ensures.ready.heap.grown.list.size, c.requires.ready.heap.grown.list.size)

pub shape_of-gens : goal.shape_of-gens
shape_of-gens c = omega (arith, c.coalesce.ensures.ready.heap.grown.size, c.requires.ready.heap.grown.size)

pub returns : goal.returns
returns c = add_done _ _ _ _ _ c.args.rights c.requires.room _ _ _ c.cut_at.ensures _ _ _ c.cut_at-2.ensures _ _ _ c.fill_gaps.ensures _ _ _ _ (c.raise_all.ensures _ c.fill_gaps.ensures.ready) c.coalesce.ensures
