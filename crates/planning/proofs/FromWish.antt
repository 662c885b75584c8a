-- From the text of a wish to the permission list, through the functions' promises (specs/Plans.antt).
use Rattle.std.specs.Prelude.{if◌then◌else◌}
use Prim.Native.Nat.{ℕ, ◌-◌, ◌≤◌}
use mathlib.Core.Path.{◌≡◌, refl, ap, ◌∙◌}
use mathlib.Core.Bool.{Bool, true, false}
use mathlib.Core.List.{List, [], ◌∷◌}
use native.Mathlib.Omega.{arith}
use lib.ListN.{length, take}
use lib.Seq.{sets, sets-eq, take_at}
use borrow.Author.Tests.{lt-ltb, leb-true}
use Rattle.definitions.specs.Tests.{◌≤?◌}
use Rattle.definitions.specs.Questions.{ask}
use Rattle.definitions.specs.Reckoning.{Compartment}
use Rattle.definitions.specs.Calls.{compartment, permission_groups}
use Rattle.definitions.specs.Script.{whole_lines}
use Rattle.definitions.specs.Wishes.{plan_text}
use Rattle.definitions.proofs.Planned.{listed}
use Rattle.lines.proofs.Putting.{text, text-length}
use Rattle.capability_engine.specs.CompartmentGrown.{page_left}
use Rattle.capability_engine.proofs.WholeStream.{read_whole}
use Rattle.capability_engine.proofs.WantedLayout.{permissions-wide, permissions-listed}
use Rattle.exports.specs.Exports.{left_by}
use Rattle.planner.proofs.EndToEnd.{printed_script}
use Rattle.planning.specs.Plans.{FromWishToList}

-- lines that all fit
no_line : {l : List ℕ} {ls : List (List ℕ)} {P : Type 0} → [] ≡ l ∷ ls → P
no_line e = absurd (let z : ◌≡◌ {A = ℕ} 0 1 = cc in omega arith)

same_lines : {l : List ℕ} {ls ms : List (List ℕ)} → l ∷ ls ≡ l ∷ ms → ls ≡ ms
same_lines e = cc

all_fit : (room : ℕ) (ls : List (List ℕ)) → whole_lines room ls ≡ ls → length (text ls) ≤ room
unfolding whole_lines
all_fit room [] e = omega arith
all_fit room (l ∷ ls) e = go (length l ≤? room) refl (all_fit (room - length l) ls) e
  where
    go : (b : Bool) → (length l ≤? room) ≡ b → (whole_lines (room - length l) ls ≡ ls → length (text ls) ≤ room - length l)
        → (if b then l ∷ whole_lines (room - length l) ls else []) ≡ l ∷ ls → length (text (l ∷ ls)) ≤ room
    go true d ih f = omega (arith, leb-true (length l) room d, ih (same_lines f), text-length l ls)
    go false d ih f = no_line f

-- what is written over a slice's start is read there
front_of : (new out : List ℕ) → length new ≤ length out → take (length new) (sets out 0 new) ≡ new
front_of new out l = ap (take (length new)) (sets-eq new out 0 (omega arith)) ∙ take_at new _ (length new) refl

pub from_wish_to_list : FromWishToList
unfolding left_by ask page_left
from_wish_to_list k m bytes ns l h w can out out' r p all page page' many q few =
    let lines : List (List ℕ) = plan_text k m bytes in
    let z = printed_script k m bytes ns l h w can in
    let long : r ≡ length (text lines) = p.long ∙ ap (λ t. length (text t)) all in
    let wrote : take r out' ≡ text lines =
    ap (λ n. take n out') long ∙ ap (take (length (text lines))) (p.slice ∙ ap (λ t. sets out 0 (text t)) all)
    ∙ front_of (text lines) out (all_fit (length out) lines all) in
    let c : Compartment = compartment (left_by (take r out')) k in
    read_whole 3 (permission_groups c) (permissions-wide c) many page page' (simp (lt-ltb k 8 l) at q.answered) (simp (lt-ltb k 8 l) at q.slice) few
    ∙ permissions-listed c ∙ ap (λ t. listed (compartment (left_by t) k)) wrote ∙ z.yields
