use native.Mathlib.Omega.{arith}
use Rattle.definitions.specs.Tests.{host_up}
use Rattle.capability_engine.proofs.RemapCalls.{unmap-large, unmap-none, unmap-cuts}
use Rattle.capability_engine.proofs.remapper.Remapper.unmap_range.Goals as goal

pub returns-in-Err : goal.returns-in-Err
returns-in-Err c = λ k h. rw c.in-Err.ensures.1 (unmap-large _ k h _ _ c.in-Err.ensures.0)

pub returns-then-end-hpa : goal.returns-then-end-hpa
returns-then-end-hpa c = λ k h. unmap-none _ k h _ _ c.in-Ok.ensures.0 (omega (arith, c.in-Ok.ensures.1))

pub returns : goal.returns
unfolding host_up
returns c = λ k h. rw c.in-Ok.ensures.1 (unmap-cuts _ k h _ _ c.in-Ok.ensures.0 (λ e. omega (arith, c.in-Ok.ensures.1)))
