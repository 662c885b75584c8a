use lib.ListN.{length}
use mathlib.Core.Path.{ap}
use native.Mathlib.Omega.{arith}
use Rattle.capability_engine.proofs.StreamTurns.{told-found}
use Rattle.capability_engine.proofs.StreamStarts.{remaining-most}
use Rattle.capability_engine.proofs.lists.Lists.count.Goals as goal

pub overflow_add-k : goal.overflow_add-k
overflow_add-k c = omega (arith, c.loop-d.invariant.1, remaining-most c.args.self.next.now c.args.self.words.now c.args.self.segments.now c.args.self.n c.args.from c.args.self.table c.requires, ap length (told-found c.args.self.next.now c.args.self.words.now c.args.self.segments.now c.args.self.n c.loop-d.c c.next_mapping.result c.next_mapping.ensures _ _ c.in-Some.is).0)
