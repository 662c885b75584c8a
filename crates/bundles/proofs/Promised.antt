-- What `bundled` of a run takes as promised (capability_engine/specs/WholeStream.antt) is what `bundle` promises.
use Rattle.capability_engine.specs.WholeStream.{Bundles}
use Rattle.capability_engine.proofs.Promised.{Gives, memory}
use Rattle.bundles.proofs.bundle.Reads as bundle
use Rattle.bundles.proofs.bundle.Kinds as bundle-kinds

bundle-bundles : Gives 6 bundle-kinds.ps bundle-kinds.r bundle.Learnt (λ κs a z e.
    let b = a.1.1.1 in
    let f = e.1.1.1 in
    Bundles a.1.0 a.1.1.0.now (memory b.0.now b.1.0.now b.1.1.0.now b.1.1.1.0.now a.0.now) (memory f.0.now f.1.0.now f.1.1.0.now f.1.1.1.0.now e.0.now) z)
bundle-bundles κs a z e p = p
