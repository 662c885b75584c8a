use Rattle.std.proofs.Common.{◌<◌, length, rules}
use Rattle.gen_arena.proofs.Calls.{next-slot-fits, next-live}
use Rattle.gen_arena.proofs.ArenaIterator.next.Goals as goal

pub offset_bounds-gens-idx : goal.offset_bounds-gens-idx
offset_bounds-gens-idx c =
    let h : c.in_ok-idx.idx < length c.args.gens.now = next-slot-fits _ _ _ _ _ c.requires.grown c.args.self.now c.next.result _ (c.next.ensures _ _ c.requires.grown.list) _ c.in_ok-idx.was in
    search rules

pub bounds-gens-idx : goal.bounds-gens-idx
bounds-gens-idx c = next-slot-fits _ _ _ _ _ c.requires.grown c.args.self.now c.next.result _ (c.next.ensures _ _ c.requires.grown.list) _ c.in_ok-idx.was

pub returns-in_err-idx : goal.returns-in_err-idx
returns-in_err-idx c = λ n calls g. rw c.from_residual.ensures (next-live n calls _ _ _ g c.args.self.now c.next.result _ (c.next.ensures n _ g.list) _ c.in_err-idx.was)

pub returns : goal.returns
returns c = λ n calls g. next-live n calls _ _ _ g c.args.self.now c.next.result _ (c.next.ensures n _ g.list) _ c.in_ok-idx.was
