use Rattle.definitions.proofs.Fills.{Walk}
use Rattle.capability_engine.specs.StreamCursor.{Ready, remaining}
use Rattle.definitions.specs.Pages.{mapping_group}
use Rattle.capability_engine.proofs.lists.Lists.fill.Given as goal

abbrev pub invariant-loop-i : goal.invariant-loop-i
invariant-loop-i l =
    Ready l.self.next.now l.self.words.now l.self.segments.now l.self.n l.c × Walk 5 mapping_group (remaining l.self.next.now l.self.words.now l.self.segments.now l.self.n l.initial.c) (remaining l.self.next.now l.self.words.now l.self.segments.now l.self.n l.c) l.initial.out l.out l.i
