-- `Plans`, of which specs/WholeStream.antt of capability_engine speaks, is what `plan` promises.
use Rattle.capability_engine.specs.WholeStream.{Plans}
use Rattle.capability_engine.proofs.Promised.{Gives, memory}
use Rattle.planning.proofs.plan.Reads as plan
use Rattle.planning.proofs.plan.Kinds as plan-kinds

plan-plans : Gives 7 plan-kinds.ps plan-kinds.r plan.Learnt (λ κs a z e.
    let b = a.1.1.1.1.1 in
    Plans a.1.0 a.1.1.0.now a.1.1.1.0 (memory b.0.now b.1.0.now b.1.1.0.now b.1.1.1.0.now a.0.now) a.1.1.1.1.0.now e.1.1.1.1.0.now z)
plan-plans κs a z e p = p
