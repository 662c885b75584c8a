-- Tests that compute, and the few list functions that the definitions use.
use Rattle.std.specs.Prelude.{ℕ, ◌+◌, ◌^◌, Bool, true, false, if◌then◌else◌, ◌&&◌, ◌||◌, List, [], ◌∷◌, ◌++◌, ltb, leb, eqb}
use Rattle.definitions.specs.declared.addr.HostAddr.{HostAddr}
use Rattle.definitions.specs.declared.addr.GuestAddr.{GuestAddr}

infix 40 ◌<?◌ ◌≤?◌ ◌=?◌
abbrev pub ◌<?◌ : ℕ → ℕ → Bool
a <? b = ltb a b

abbrev pub ◌≤?◌ : ℕ → ℕ → Bool
a ≤? b = leb a b

abbrev pub ◌=?◌ : ℕ → ℕ → Bool
a =? b = eqb a b

-- ranges exclude their end: is x in [a, e)?
unfoldable pub inside : ℕ → ℕ → ℕ → Bool
inside a e x = (a ≤? x) && (x <? e)

-- addresses and sizes are 64-bit
unfoldable pub fits : ℕ → Bool
fits n = n <? 2 ^ 64

-- a test as a number
abbrev pub bit : Bool → ℕ
bit true = 1
bit false = 0

-- an address, and one so far above another
unfoldable pub host : ℕ → HostAddr
host n = record { 0 = n }

unfoldable pub guest : ℕ → GuestAddr
guest n = record { 0 = n }

unfoldable pub host_up : HostAddr → ℕ → HostAddr
host_up h d = record { 0 = h.0 + d }

unfoldable pub guest_up : GuestAddr → ℕ → GuestAddr
guest_up g d = record { 0 = g.0 + d }

module _ {A : Type 0} where
  abbrev pub all : (A → Bool) → List A → Bool
  all p [] = true
  all p (x ∷ xs) = p x && all p xs

  abbrev pub any : (A → Bool) → List A → Bool
  any p [] = false
  any p (x ∷ xs) = p x || any p xs

  abbrev pub count : (A → Bool) → List A → ℕ
  count p [] = 0
  count p (x ∷ xs) = bit (p x) + count p xs

  abbrev pub total : (A → ℕ) → List A → ℕ
  total f [] = 0
  total f (x ∷ xs) = f x + total f xs

  abbrev pub keep : (A → Bool) → List A → List A
  keep p [] = []
  keep p (x ∷ xs) = if p x then x ∷ keep p xs else keep p xs

  abbrev pub each : {B : Type 0} → (A → List B) → List A → List B
  each f [] = []
  each f (x ∷ xs) = f x ++ each f xs
