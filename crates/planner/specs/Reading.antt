-- What is read of a wish's text.
use Rattle.std.specs.Prelude.{ℕ, ◌+◌, ◌*◌, ◌≤◌, ◌≡◌, Bool, true, List, [], ◌∷◌, length, take, drop, Option, None, Some, Result, Ok, Err}
use Rattle.std.proofs.lemmas.List.Edits.{sets}
use Rattle.definitions.specs.Tests.{◌=?◌}
use Rattle.definitions.specs.Pages.{permission_group}
use Rattle.definitions.specs.Script.{numbers, unread, lines_of}
use Rattle.definitions.specs.Wishes.{Wish, wish, broken, and_later, range_of, wish_from, wish_of}
use Rattle.definitions.specs.declared.region.MemoryPermission.{MemoryPermission}

-- a line without its end
abbrev pub Says : List ℕ → Option MemoryPermission → Type 0
Says line (Some p) = range_of line ≡ numbers (permission_group p)
Says line None = range_of line ≡ unread

-- does a line's end stand first, or nothing at all?
unfoldable pub ends : List ℕ → Bool
ends [] = true
ends (b ∷ bs) = b =? 10

-- bytes that begin with a line: of the form, it has 63 of them, and its end if there are more
abbrev pub Begins : List ℕ → Option MemoryPermission → Type 0
Begins bs (Some p) = (n : ℕ) → wish_from n (lines_of bs) ≡ and_later n (numbers (permission_group p)) (wish_from (n + 1) (lines_of (drop 64 bs)))
Begins bs None = (n : ℕ) → wish_from n (lines_of bs) ≡ broken n

-- the first 64 of the bytes are given, or all
abbrev pub Heads : List ℕ → Option MemoryPermission → Type 0
Heads head r = (bs : List ℕ) → head ≡ take 64 bs → 1 ≤ length bs → Begins bs r

-- a group is put over another, if the slice has that
pub record Keeps (before after : List ℕ) (i : ℕ) (group : List ℕ) : Type 0 where
  pub size : length after ≡ length before
  pub kept : 3 * i + 3 ≤ length before → after ≡ sets before (3 * i) group

-- a whole wish: its numbers, in the slice as far as that takes them all
pub record Reads (text slice : List ℕ) (n : ℕ) : Type 0 where
  pub all : List ℕ
  pub says : wish_of text ≡ wish all
  pub many : length all ≡ 3 * n
  pub stored : 3 * n ≤ length slice → take (3 * n) slice ≡ all

abbrev pub ReadsWish : List ℕ → List ℕ → Result ℕ ℕ → Type 0
ReadsWish text slice (Ok n) = Reads text slice n
ReadsWish text slice (Err n) = wish_of text ≡ broken n

-- the number of the first line that is not of the form, if there is one
abbrev pub first_broken : Wish → Option ℕ
first_broken (wish ns) = None
first_broken (broken n) = Some n
