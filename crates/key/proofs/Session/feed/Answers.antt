use Rattle.std.proofs.Common.{arith}
use Rattle.key.proofs.Session.feed.Goals as goal

pub returns : goal.returns
returns c =
    let f = c.feed.ensures c.requires.calls c.requires.grown in
    record {
      stands = record { calls = f.later; grown = f.grown };
      taken = f.taken;
      fits = omega (arith, f.fits (omega arith), c.feed.auto.out);
    }
