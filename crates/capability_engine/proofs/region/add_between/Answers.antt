use native.Mathlib.Omega.{arith}
use Rattle.capability_engine.proofs.RegionBetween.{place-low, place-walk, place-z, widen-asks, add-narrow, add-widen}
use Rattle.capability_engine.proofs.region.add_between.Goals as goal

pub offset_bounds-next-p : goal.offset_bounds-next-p
offset_bounds-next-p c = omega (arith, place-low _ _ _ c.args.start c.args.end _ c.requires.ready c.requires.place)

pub bounds-next-p : goal.bounds-next-p
bounds-next-p c = omega (arith, place-low _ _ _ c.args.start c.args.end _ c.requires.ready c.requires.place, c.requires.ready.own.size)

pub skip_through-z-requires : goal.skip_through-z-requires
skip_through-z-requires c = place-walk _ _ _ c.args.start c.args.end _ c.requires.ready c.requires.place

pub narrow-off-requires : goal.narrow-off-requires
narrow-off-requires c = (place-low _ _ _ c.args.start c.args.end _ c.requires.ready c.requires.place, place-z _ _ _ c.args.start c.args.end _ c.requires.ready c.requires.place _ c.skip_through-z.ensures, c.requires.ready.own.size)

pub apply_add-requires : goal.apply_add-requires
apply_add-requires c =
    let v = add-narrow _ _ _ _ _ _ _ c.requires _ c.skip_through-z.ensures _ c.narrow-off.ensures.link in
    record { ready = v.0; room = v.1.0; all_small = v.1.1 }

pub widen-requires : goal.widen-requires
widen-requires c = widen-asks _ _ _ c.args.start c.args.end _ c.requires.ready c.requires.place _ c.skip_through-z.ensures _ _ _ _ _ _ c.narrow-off.ensures c.apply_add.ensures

pub shape_of-next : goal.shape_of-next
shape_of-next c = omega (arith, (add-widen _ _ _ _ _ _ _ c.requires _ c.skip_through-z.ensures _ _ _ _ _ _ c.narrow-off.ensures c.apply_add.ensures c.widen.ensures).ready.own.size, c.requires.ready.own.size)

pub shape_of-words : goal.shape_of-words
shape_of-words c = omega (arith, c.apply_add.ensures.ready.words, c.requires.ready.words)

pub shape_of-links : goal.shape_of-links
shape_of-links c = omega (arith, c.apply_add.ensures.ready.heap.grown.list.size, c.requires.ready.heap.grown.list.size)

pub shape_of-gens : goal.shape_of-gens
shape_of-gens c = omega (arith, c.apply_add.ensures.ready.heap.grown.size, c.requires.ready.heap.grown.size)

pub returns : goal.returns
returns c = add-widen _ _ _ _ _ _ _ c.requires _ c.skip_through-z.ensures _ _ _ _ _ _ c.narrow-off.ensures c.apply_add.ensures c.widen.ensures
