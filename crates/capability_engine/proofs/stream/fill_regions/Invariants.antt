use Rattle.definitions.proofs.Fills.{Walk}
use Rattle.capability_engine.specs.PoolChain.{slots, Listed, stored_at}
use Rattle.definitions.specs.Pages.{region_group, record_len}
use Rattle.capability_engine.proofs.stream.fill_regions.Given as goal

abbrev pub invariant-loop-i : goal.invariant-loop-i
invariant-loop-i l =
    Listed l.next l.h (slots l.next l.h) × Walk record_len region_group (stored_at l.next l.words l.from) (stored_at l.next l.words l.h) l.initial.out l.out l.i
