use Rattle.std.proofs.Common.{ap, ◌∙◌}
use Rattle.free_list.specs.Stack.{capacity_of}
use Rattle.gen_arena.proofs.Calls.{slots}
use Rattle.gen_arena.proofs.GenArena.capacity.Goals as goal

pub returns : goal.returns
returns c = λ n gens calls g. c.capacity.ensures n _ g.list ∙ ap (capacity_of n) (slots n calls _ _ _ g)
