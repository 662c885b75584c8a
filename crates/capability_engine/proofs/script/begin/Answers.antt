use Prim.Native.Nat.{min}
use mathlib.Core.Path.{◌≡◌}
use native.Mathlib.Omega.{arith}
use Rattle.capability_engine.proofs.script.begin.Goals as goal

pub returns : goal.returns
returns c =
    let a : c.min.result ≡ min 88 c.args.progress.len = omega arith in
    let b : c.min-2.result ≡ min 8 c.args.progress.compartment = omega arith in
    rw (a, b)
