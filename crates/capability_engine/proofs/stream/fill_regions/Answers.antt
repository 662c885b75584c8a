use Rattle.definitions.proofs.PageLaws.{record-long}
use Rattle.definitions.proofs.Fills.{walk_start, walk_kept, walk-fits, walk-short, walk_more}
use Rattle.capability_engine.proofs.PoolLinks.{listed-step, stored-step, stored-none}
use Rattle.capability_engine.specs.PoolWords.{put_region}
use Rattle.definitions.specs.Pages.{region_group, record_len}
use mathlib.Core.Path.{ap, ◌∙◌}
use native.Mathlib.Omega.{arith}
use Rattle.capability_engine.proofs.StreamWalks.{walk-all}
use Rattle.capability_engine.proofs.stream.fill_regions.Goals as goal

pub loop-i-init : goal.loop-i-init
loop-i-init c = (c.requires.listed, walk_start record_len region_group record-long)

pub shape_of-out-then-h-ge1024 : goal.shape_of-out-then-h-ge1024
shape_of-out-then-h-ge1024 c = walk_kept record_len region_group record-long c.loop-i.invariant.1

pub returns-then-h-ge1024 : goal.returns-then-h-ge1024
returns-then-h-ge1024 c = walk-short record_len region_group record-long c.loop-i.invariant.1 (stored-none _ c.loop-i.invariant.0 c.if-h-ge1024.true)

pub load-r-requires : goal.load-r-requires
load-r-requires c = (c.if-h-ge1024.false, c.requires.words_len)

pub save-requires : goal.save-requires
save-requires c = walk-fits record_len region_group record-long c.loop-i.invariant.1 c.loop-i-test.true

pub offset_bounds-next-h : goal.offset_bounds-next-h
offset_bounds-next-h c = omega (arith, c.if-h-ge1024.false)

pub bounds-next-h : goal.bounds-next-h
bounds-next-h c = omega (arith, c.if-h-ge1024.false, c.loop-i.invariant.0.size)

pub loop-i-preserved : goal.loop-i-preserved
unfolding put_region
loop-i-preserved c = (listed-step _ _ c.loop-i.invariant.0 c.if-h-ge1024.false, walk_more record_len region_group record-long c.loop-i.invariant.1 (stored-step _ c.loop-i.invariant.0 c.if-h-ge1024.false) c.loop-i-test.true (c.save.ensures ∙ ap (put_region c.loop-i.out c.loop-i.i) c.load-r.ensures))

pub shape_of-out : goal.shape_of-out
shape_of-out c = walk_kept record_len region_group record-long c.loop-i.invariant.1

pub returns : goal.returns
returns c = walk-all record_len region_group record-long c.loop-i.invariant.1 (omega arith)
