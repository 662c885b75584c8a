use Rattle.capability_engine.proofs.CompartmentLaws.{sum_more, sum-end}
use Rattle.capability_engine.proofs.compartments.allowed.Goals as goal

pub loop-tracker-preserved : goal.loop-tracker-preserved
loop-tracker-preserved c = sum_more c.args.trackers.now c.requires.0 _ _ c.loop-tracker.invariant c.loop-tracker-test.true _

pub returns : goal.returns
returns c = sum-end c.args.trackers.now c.requires.0 _ _ c.loop-tracker.invariant c.loop-tracker-test.false
