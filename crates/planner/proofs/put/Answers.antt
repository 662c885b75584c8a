use Prim.Native.Nat.{ℕ, ◌+◌, ◌≤◌}
use mathlib.Core.Path.{◌≡◌, sym, ap, ◌∙◌}
use mathlib.Core.List.{List, ◌∷◌, [], ◌++◌, append_assoc}
use native.Mathlib.Omega.{arith}
use lib.ListN.{length, take, drop}
use lib.Seq.{sets, sets-eq, drop-drop}
use borrow.Rule.Slice.PartMut.{put_mid}
use Rattle.definitions.specs.Pages.{permission_group}
use Rattle.planner.proofs.put.Goals as goal

-- what a part of a slice holds is what was put there
mid-sets : (a k : ℕ) (xs ys zs : List ℕ) → ys ≡ zs → k ≡ length zs → a + length zs ≤ length xs → put_mid a k xs ys ≡ sets xs a zs
mid-sets a k xs ys zs e f l =
    ap (λ (v : List ℕ). take a xs ++ (v ++ drop k (drop a xs))) e
    ∙ ap (λ (v : List ℕ). take a xs ++ (zs ++ v)) (drop-drop k a xs ∙ ap (λ (n : ℕ). drop (a + n) xs) f)
    ∙ sym (append_assoc (take a xs) zs (drop (a + length zs) xs))
    ∙ sym (sets-eq zs xs a l)

pub returns : goal.returns
unfolding permission_group
returns c = mid-sets _ _ c.args.out.now c.copy_from_slice.new.self (c.args.p.start.0 ∷ c.args.p.end.0 ∷ c.args.p.ops.0 ∷ []) c.copy_from_slice.ensures.after (omega arith) (omega arith)
