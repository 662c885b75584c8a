use native.Mathlib.Omega.{arith}
use mathlib.Core.Path.{refl}
use Rattle.definitions.proofs.Lists.{change}
use Rattle.definitions.specs.Values.{raise}
use Rattle.capability_engine.proofs.PoolZips.{zip_start, zip-lt}
use Rattle.capability_engine.proofs.RegionTurns.{change-end, change-small, change-it, one-stays}
use Rattle.capability_engine.proofs.region.raise_all.Goals as goal

pub loop-start-init : goal.loop-start-init
loop-start-init c = λ fl h. zip_start _ _ _ (change (raise c.args.rights) c.args.start c.args.end) h

pub offset_bounds-next-q : goal.offset_bounds-next-q
offset_bounds-next-q c = omega (arith, zip-lt (c.loop-start.invariant c.requires.ready.0 c.requires.ready.1))

pub bounds-next-q : goal.bounds-next-q
bounds-next-q c = omega (arith, zip-lt (c.loop-start.invariant c.requires.ready.0 c.requires.ready.1))

pub shape_of-words-then-x-ge1024 : goal.shape_of-words-then-x-ge1024
shape_of-words-then-x-ge1024 c = omega (arith, (c.loop-start.invariant c.requires.ready.0 c.requires.ready.1).pass.ready.words, c.requires.ready.1.words)

pub returns-then-x-ge1024 : goal.returns-then-x-ge1024
returns-then-x-ge1024 c = λ fl h. change-end _ _ _ (c.loop-start.invariant fl h) c.if-x-ge1024.true

pub load-r-requires : goal.load-r-requires
load-r-requires c = (c.if-x-ge1024.false, (c.loop-start.invariant c.requires.ready.0 c.requires.ready.1).pass.ready.words)

pub increase_in-s-requires : goal.increase_in-s-requires
increase_in-s-requires c = change-small _ _ _ (c.loop-start.invariant c.requires.ready.0 c.requires.ready.1) _ _ refl c.if-x-ge1024.false c.load-r.ensures c.requires.all_small

pub save_in-requires : goal.save_in-requires
save_in-requires c = record { record_len_in_bounds = omega (arith, c.if-x-ge1024.false, (c.loop-start.invariant c.requires.ready.0 c.requires.ready.1).pass.ready.words); s_value = one-stays _ _ _ _ _ _ c.load-r.ensures c.increase_in-s.ensures }

pub loop-start-smaller : goal.loop-start-smaller
loop-start-smaller c = (change-it _ _ _ (c.loop-start.invariant c.requires.ready.0 c.requires.ready.1) _ _ refl c.if-x-ge1024.false c.load-r.ensures _ _ c.increase_in-s.ensures c.save_in.ensures).1

pub loop-start-preserved : goal.loop-start-preserved
loop-start-preserved c = λ fl h. (change-it _ _ _ (c.loop-start.invariant fl h) _ _ refl c.if-x-ge1024.false c.load-r.ensures _ _ c.increase_in-s.ensures c.save_in.ensures).0
