use Rattle.gen_arena.proofs.Calls.{creates}
use Rattle.gen_arena.proofs.GenArena.new.Goals as goal

pub returns : goal.returns
returns c = creates _ _ _ _ _ c.if-links-gens.false (c.fill.ensures.after (λ y e. e)) c.new-free_list.ensures
