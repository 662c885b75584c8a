use native.Mathlib.Omega.{arith}
use Rattle.capability_engine.proofs.RegionTurns.{nothing-is, gap-made, gap-not}
use Rattle.capability_engine.proofs.region.put_gap.Goals as goal

pub insert_region-requires : goal.insert_region-requires
insert_region-requires c = record { can_insert = c.requires.can_insert c.if-start-end.true; words_len = c.requires.words_len }

pub returns-then-start-end : goal.returns-then-start-end
returns-then-start-end c =
    let d = c.default-values.ensures in
    gap-made _ _ _ _ _ _ _ _ _ _ c.if-start-end.true c.default-values.result
    (nothing-is _ _ _ _ _ _ _ d.0 d.1.0 d.1.1.0 d.1.1.1.0 d.1.1.1.1.0 d.1.1.1.1.1.0 (omega (arith, d))) c.insert_region.ensures

pub returns-else-start-end : goal.returns-else-start-end
returns-else-start-end c = gap-not _ _ _ _ c.args.start c.args.end c.if-start-end.false
