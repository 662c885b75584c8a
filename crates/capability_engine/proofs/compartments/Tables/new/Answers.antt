use Rattle.capability_engine.proofs.CompartmentNew.{made-new}
use Rattle.capability_engine.proofs.compartments.Tables.new.Goals as goal

pub returns : goal.returns
returns c = made-new _ _ _ _ _ _ _ c.new.ensures c.if-links-ne1024.false c.if-words-ne-POOL_LEN.false c.if-next-ne1025.false _ c.new-tracker.ensures _ c.new-remapper.ensures _ c.in_ok-arena.was
