use native.Mathlib.Omega.{arith}
use Rattle.capability_engine.proofs.CompartmentReads.{handed}
use Rattle.bundles.proofs.TurnLaws.{bundle-of-none, bundle-of-many, bundle-in-turn}
use Rattle.bundles.proofs.bundle.Goals as goal

pub returns-in_err-index_of : goal.returns-in_err-index_of
returns-in_err-index_of c = λ calls g. rw (handed c.from_residual.result _ c.from_residual.ensures.1 c.in_err-index_of.ensures.none.0) (bundle-of-none calls _ _ _ _ _ _ _ (omega (arith, c.in_err-index_of.ensures.none.1)) g)

pub returns-then-groups-gt-BUNDLE_LEN : goal.returns-then-groups-gt-BUNDLE_LEN
returns-then-groups-gt-BUNDLE_LEN c = λ calls g. bundle-of-many calls _ _ _ _ _ _ _ (omega (arith, c.in_ok-index_of.ensures.one)) (omega (arith, c.if-groups-gt-BUNDLE_LEN.true)) g

pub returns-then-groups-le-GROUP_LEN : goal.returns-then-groups-le-GROUP_LEN
returns-then-groups-le-GROUP_LEN c = λ calls g. bundle-in-turn calls _ _ _ _ _ _ _ 4 _ _ _ _ _ _ (omega (arith, c.in_ok-index_of.ensures.one)) (omega (arith, c.if-groups-gt-BUNDLE_LEN.false)) (omega (arith, c.if-groups-le-GROUP_LEN.true)) (c.in_turn.ensures calls g) g

pub returns : goal.returns
returns c = λ calls g. bundle-in-turn calls _ _ _ _ _ _ _ _ _ _ _ _ _ _ (omega (arith, c.in_ok-index_of.ensures.one)) (omega (arith, c.if-groups-gt-BUNDLE_LEN.false)) (omega arith) (c.all_or_nothing.ensures calls g) g
