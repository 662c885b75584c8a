use Rattle.capability_engine.proofs.RemapCopies.{comes-on, comes-end}
use Rattle.capability_engine.proofs.remapper.RemapperSegmentIterator.next.Goals as goal

pub returns-then-at-ge64 : goal.returns-then-at-ge64
returns-then-at-ge64 c = λ ts w. comes-end _ _ ts w c.if-at-ge64.true

pub returns : goal.returns
returns c = λ ts w. comes-on _ _ ts w c.if-at-ge64.false
