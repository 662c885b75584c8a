use Rattle.capability_engine.proofs.StreamTurns.{turned-last, turned-begin, turned-first, end_fits}
use Rattle.capability_engine.proofs.StreamMoves.{done}
use mathlib.Core.Path.{sym, ◌∙◌}
use native.Mathlib.Omega.{arith}
use Rattle.capability_engine.proofs.lists.Lists.take_turn.Goals as goal

pub returns-then-here-ge1024 : goal.returns-then-here-ge1024
returns-then-here-ge1024 c = done _ _ _ _ _ c.requires (sym c.goes_on.ensures ∙ c.if-goes_on.false) c.if-here-ge1024.true

pub returns-then-begun-self : goal.returns-then-begun-self
returns-then-begun-self c = turned-last _ _ _ _ _ c.requires (sym c.goes_on.ensures ∙ c.if-goes_on.false) c.if-here-ge1024.false _ c.load-r.ensures c.last_turn.result c.if-begun-self.true c.last_turn.ensures

pub begin-requires : goal.begin-requires
begin-requires c = record { size_bound = end_fits _ _ c.args.self.table c.if-begun-self.false c.load_segment-s.ensures; segment_bound = omega (arith, c.if-begun-self.false, c.args.self.table.few) }

pub returns-then-s-low : goal.returns-then-s-low
returns-then-s-low c = turned-begin _ _ _ _ _ c.requires (sym c.goes_on.ensures ∙ c.if-goes_on.false) c.if-here-ge1024.false _ c.load-r.ensures _ c.if-begun-self.false c.load_segment-s.ensures _ c.max-low.ensures _ c.if-s-low.true c.begin.ensures

pub returns : goal.returns
returns c = turned-first _ _ _ _ _ c.requires (sym c.goes_on.ensures ∙ c.if-goes_on.false) c.if-here-ge1024.false _ c.load-r.ensures _ c.if-begun-self.false c.load_segment-s.ensures _ c.max-low.ensures c.first_turn.result c.if-s-low.false c.first_turn.ensures
