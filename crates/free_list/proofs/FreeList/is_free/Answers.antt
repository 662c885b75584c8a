use Prim.Native.Nat.{ℕ}
use mathlib.Core.Path.{sym, ap, ◌∙◌}
use native.Mathlib.Omega.{arith}
use lib.Dec.{leb}
use lib.ListN.{length}
use Rattle.free_list.proofs.Calls.{no_slot, slot}
use Rattle.free_list.proofs.FreeList.is_free.Goals as goal

pub returns-in-Some : goal.returns-in-Some
returns-in-Some c = λ n calls g.
    let h = c.in-Some.ensures.lookup in
    ap (λ (v : ℕ). leb v (length c.args.links.now)) (h.4 (omega arith) 0) ∙ slot n calls _ _ g _ h.3.0

pub returns-in-None : goal.returns-in-None
returns-in-None c = λ n calls g. sym (no_slot n calls _ _ g _ c.in-None.ensures.lookup.3)
