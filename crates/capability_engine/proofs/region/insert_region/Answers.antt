use native.Mathlib.Omega.{arith}
use Rattle.capability_engine.proofs.PoolHeaps.{popped-low}
use Rattle.capability_engine.proofs.region.insert_region.Goals as goal

pub save-requires : goal.save-requires
save-requires c = omega (arith, popped-low _ _ _ c.requires.can_insert.heap c.insert_after-x.ensures.popped, c.requires.words_len)
