use Rattle.std.proofs.Common.{refl}
use Rattle.gen_arena.proofs.Calls.{frees, refused}
use Rattle.gen_arena.proofs.GenArena.free.Goals as goal

pub returns-then-not-free : goal.returns-then-not-free
returns-then-not-free c = λ n calls g. refused n calls _ _ _ g c.args.handle c.free.result _ _ (c.free.ensures n _ g.list) c.if-not-free.true

pub returns : goal.returns
returns c = λ n calls g. frees n calls _ _ _ g c.args.handle c.free.result _ _ (c.free.ensures n _ g.list) _ c.if-not-free.false refl
