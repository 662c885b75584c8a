use native.Mathlib.Omega.{arith}
use Rattle.capability_engine.proofs.RegionTracks.{allow-over, allow-less, allow-done}
use Rattle.capability_engine.proofs.region.RegionTracker.allow.Goals as goal

pub overflow_sub-rest : goal.overflow_sub-rest
overflow_sub-rest c = c.requires

pub returns-then-rest-allowance : goal.returns-then-rest-allowance
returns-then-rest-allowance c = allow-over _ _ _ c.requires c.if-rest-allowance.true

pub returns-then-allowance-self : goal.returns-then-allowance-self
returns-then-allowance-self c = allow-less _ _ _ c.requires c.if-rest-allowance.false c.if-allowance-self.true

pub overflow_cast-self-2 : goal.overflow_cast-self-2
overflow_cast-self-2 c = record { fits = omega (arith, c.if-rest-allowance.false) }

pub returns : goal.returns
returns c = allow-done _ _ _ c.requires c.if-rest-allowance.false c.if-allowance-self.false
