use native.Mathlib.Omega.{arith}
use Rattle.capability_engine.proofs.CompartmentLaws.{allowance-few}
use Rattle.capability_engine.proofs.CompartmentArms.{on-allow}
use Rattle.capability_engine.proofs.compartments.on_allow.Goals as goal

pub allowed-all-requires : goal.allowed-all-requires
allowed-all-requires c = (c.requires.1, c.requires.2)

pub overflow_sub-others : goal.overflow_sub-others
overflow_sub-others c = allowance-few c.args.trackers.now _ _ _ (omega (arith, c.requires.0)) c.requires.1 c.allowed-all.ensures

pub allow-answer-requires : goal.allow-answer-requires
allow-answer-requires c = omega (arith, c.allowed-all.ensures, c.requires.2)

pub returns : goal.returns
returns c = on-allow c.args.trackers.now c.args.k _ _ _ c.allow-answer.result _ c.allowed-all.ensures c.allow-answer.ensures
