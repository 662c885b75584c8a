use native.Mathlib.Omega.{arith}
use mathlib.Core.Path.{refl}
use Rattle.definitions.specs.Regions.{cut}
use Rattle.capability_engine.proofs.PoolZips.{zip_start, zip-lt}
use Rattle.capability_engine.proofs.RegionTurns.{cut-end, cut-asks, cut-it, cut_on}
use Rattle.capability_engine.proofs.region.cut_at.Goals as goal

pub loop-at-init : goal.loop-at-init
loop-at-init c = zip_start _ _ _ (cut c.args.at) c.requires.ready

pub offset_bounds-next-q : goal.offset_bounds-next-q
offset_bounds-next-q c = omega (arith, zip-lt c.loop-at.invariant)

pub bounds-next-q : goal.bounds-next-q
bounds-next-q c = omega (arith, zip-lt c.loop-at.invariant)

pub returns-then-x-ge1024 : goal.returns-then-x-ge1024
returns-then-x-ge1024 c = cut-end _ c.loop-at.invariant c.if-x-ge1024.true

pub load-r-requires : goal.load-r-requires
load-r-requires c = (c.if-x-ge1024.false, c.loop-at.invariant.pass.ready.words)

pub split_region_at-requires : goal.split_region_at-requires
split_region_at-requires c = record { slot_bound = (c.if-x-ge1024.false, cut-asks _ c.loop-at.invariant _ _ _ refl c.if-x-ge1024.false c.load-r.ensures c.has_inside.ensures c.if-has_inside.true c.requires.room); words_len = c.loop-at.invariant.pass.ready.words }

pub shape_of-next-then-has_inside : goal.shape_of-next-then-has_inside
shape_of-next-then-has_inside c = omega (arith, (cut-it _ c.loop-at.invariant _ _ _ refl c.if-x-ge1024.false c.load-r.ensures c.has_inside.ensures _ _ _ _ c.if-has_inside.true c.split_region_at.ensures).ready.own.size, c.requires.ready.own.size)

pub shape_of-words-then-has_inside : goal.shape_of-words-then-has_inside
shape_of-words-then-has_inside c = omega (arith, (cut-it _ c.loop-at.invariant _ _ _ refl c.if-x-ge1024.false c.load-r.ensures c.has_inside.ensures _ _ _ _ c.if-has_inside.true c.split_region_at.ensures).ready.words, c.requires.ready.words)

pub shape_of-links-then-has_inside : goal.shape_of-links-then-has_inside
shape_of-links-then-has_inside c = omega (arith, (cut-it _ c.loop-at.invariant _ _ _ refl c.if-x-ge1024.false c.load-r.ensures c.has_inside.ensures _ _ _ _ c.if-has_inside.true c.split_region_at.ensures).ready.heap.grown.list.size, c.requires.ready.heap.grown.list.size)

pub returns-then-has_inside : goal.returns-then-has_inside
returns-then-has_inside c = cut-it _ c.loop-at.invariant _ _ _ refl c.if-x-ge1024.false c.load-r.ensures c.has_inside.ensures _ _ _ _ c.if-has_inside.true c.split_region_at.ensures

pub loop-at-smaller : goal.loop-at-smaller
loop-at-smaller c = (cut_on _ c.loop-at.invariant _ _ _ refl c.if-x-ge1024.false c.load-r.ensures c.has_inside.ensures c.if-has_inside.false).1

pub loop-at-preserved : goal.loop-at-preserved
loop-at-preserved c = (cut_on _ c.loop-at.invariant _ _ _ refl c.if-x-ge1024.false c.load-r.ensures c.has_inside.ensures c.if-has_inside.false).0
