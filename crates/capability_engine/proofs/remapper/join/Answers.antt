use borrow.Author.Tests.{lt-ltb, le-ltb}
use Rattle.capability_engine.proofs.remapper.join.Goals as goal

pub returns-then-prev-lt64 : goal.returns-then-prev-lt64
returns-then-prev-lt64 c = (rw (lt-ltb _ 64 c.if-prev-lt64.true), rw (lt-ltb _ 64 c.if-prev-lt64.true))

pub returns-else-prev-lt64 : goal.returns-else-prev-lt64
returns-else-prev-lt64 c = (rw (le-ltb _ 64 c.if-prev-lt64.false), rw (le-ltb _ 64 c.if-prev-lt64.false))
