use native.Mathlib.Omega.{arith}
use Rattle.capability_engine.proofs.RegionSteps.{every-is}
use Rattle.capability_engine.proofs.region.every.Goals as goal

pub returns : goal.returns
returns g c =
    λ p h. every-is p c.args.named c.args.counts _ _ _ _ _ _ (h _ _ (omega arith) c.passes-read.ensures) (h _ _ (omega arith) c.passes-write.ensures)
    (h _ _ (omega arith) c.passes-exec.ensures) (h _ _ (omega arith) c.passes-supervisor.ensures)
    (h _ _ (omega arith) c.passes-uncacheable.ensures) (h _ _ (omega arith) c.passes-device.ensures)
