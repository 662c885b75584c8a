-- What a page of a plan promises after a script (document 02, order 13); and what is proved of a printed script, whole.
use Rattle.std.specs.Prelude.{ℕ, ◌*◌, ◌/◌, ◌<◌, ◌≤◌, ◌≡◌, true, List, length, take}
use Rattle.definitions.specs.Calls.{State, permission_groups}
use Rattle.definitions.specs.Script.{whole_lines}
use Rattle.definitions.specs.Planner.{can_wish, plan_answer, plan_left}
use Rattle.definitions.specs.Wishes.{wish, wish_of, plan_text}
use Rattle.exports.specs.Exports.{coded, left_by, ReadsPage}
use Rattle.planner.specs.Writing.{PrintsPlan}

-- the answer as one number, and the slice, in the state that a script left
pub record PlansAfter (s : State) (k : ℕ) (ns : List ℕ) (from : ℕ) (out out' : List ℕ) (r : ℕ) : Type 0 where
  pub answered : r ≡ coded (plan_answer s k ns from (length out))
  pub slice : out' ≡ plan_left s k ns from out

-- Document 02, order 13: "a script of adds which, run on an empty compartment, yields exactly that permission list". From text to
-- text: `plan_script` answers that it has written so many bytes of the script for a wish, and all of its lines fitted;
-- `permissions_page` runs these bytes from empty tables and reads the compartment's permission list whole: it is the wish.
abbrev pub FromWishToList : Type 0
FromWishToList =
    (k m : ℕ) (text ns : List ℕ) → k < 8 → m ≤ 1024 → wish_of text ≡ wish ns → can_wish m ns ≡ true
    → (out out' : List ℕ) (r : ℕ) → PrintsPlan k m text out out' r → whole_lines (length out) (plan_text k m text) ≡ plan_text k m text
    → (page page' : List ℕ) (many : ℕ)
    → ReadsPage 3 permission_groups (left_by (take r out')) k 0 page page' many → many < length page / 3
    → take (3 * many) page' ≡ ns
