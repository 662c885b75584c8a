use borrow.Author.Tests.{lt-ltb, le-ltb}
use Rattle.capability_engine.proofs.remapper.link.Goals as goal

pub returns-then-prev-lt64 : goal.returns-then-prev-lt64
returns-then-prev-lt64 c = (rw (lt-ltb _ 64 c.if-prev-lt64.true), rw (lt-ltb _ 64 c.if-prev-lt64.true))

pub returns : goal.returns
returns c = (rw (le-ltb _ 64 c.if-prev-lt64.false), rw (le-ltb _ 64 c.if-prev-lt64.false))
