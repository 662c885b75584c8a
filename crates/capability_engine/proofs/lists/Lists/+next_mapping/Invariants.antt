use Rattle.capability_engine.specs.StreamCursor.{to_go}
use Rattle.capability_engine.proofs.lists.Lists.+next_mapping.Given as goal

abbrev pub decreases-next_mapping : goal.decreases-next_mapping
decreases-next_mapping l = to_go l.self.next.now l.self.words.now l.self.segments.now l.self.n l.c
