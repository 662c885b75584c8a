use Rattle.std.proofs.Common.{◌<◌, length, rules}
use Rattle.gen_arena.proofs.Calls.{slot-fits, allocates}
use Rattle.gen_arena.proofs.GenArena.allocate.Goals as goal

pub offset_bounds-gens-idx : goal.offset_bounds-gens-idx
offset_bounds-gens-idx c =
    let h : c.in_ok-idx.idx < length c.args.gens.now = slot-fits _ _ _ _ _ c.requires.grown c.allocate.result _ _ (c.allocate.ensures _ _ c.requires.grown.list) _ c.in_ok-idx.was in
    search rules

pub bounds-gens-idx : goal.bounds-gens-idx
bounds-gens-idx c = slot-fits _ _ _ _ _ c.requires.grown c.allocate.result _ _ (c.allocate.ensures _ _ c.requires.grown.list) _ c.in_ok-idx.was

pub returns-in_err-idx : goal.returns-in_err-idx
returns-in_err-idx c = λ n calls g. rw c.from_residual.ensures (allocates n calls _ _ _ g c.allocate.result _ _ (c.allocate.ensures n _ g.list) _ c.in_err-idx.was)

pub returns : goal.returns
returns c = λ n calls g. allocates n calls _ _ _ g c.allocate.result _ _ (c.allocate.ensures n _ g.list) _ c.in_ok-idx.was
