-- Document 02, order 10, over every list of calls: whoever reads a compartment's stream gets each right back exactly where the
-- reckoning leaves it.
use Prim.Native.Nat.{ℕ, ◌+◌, ◌^◌, ◌<◌}
use mathlib.Core.Path.{◌≡◌, refl, sym, ap, ◌∙◌, subst}
use mathlib.Core.Bool.{Bool, true, false, true≢false, not, ◌&&◌, ◌||◌}
use mathlib.Core.List.{List, [], ◌∷◌}
use native.Mathlib.Omega.{arith}
use borrow.Author.Tests.{ltb-true, lt-ltb, le-ltb, eqb-true, eq-eqb, ne_eqb}
use Rattle.definitions.specs.Tests.{◌<?◌, ◌=?◌, bit, any, count}
use Rattle.definitions.specs.Rights.{Right, DEVICE, named, count_of}
use Rattle.definitions.specs.Values.{nothing, held, rights_of}
use Rattle.definitions.specs.Segments.{covers}
use Rattle.definitions.specs.Reckoning.{Compartment, reckoning}
use Rattle.definitions.specs.Agreement.{contains, AgreesAt, GivesBack}
use Rattle.definitions.specs.Calls.{compartment, stream_of, after, fed}
use Rattle.definitions.specs.declared.addr.HostAddr.{HostAddr}
use Rattle.definitions.specs.declared.remapper.Mapping.{Mapping}
use Rattle.definitions.specs.declared.call.Call.{Call}
use Rattle.definitions.proofs.RightLaws.{count-made, named-rights}
use Rattle.definitions.proofs.Reckoned.{reckoned}
use Rattle.definitions.proofs.Stored.{stored}
use Rattle.definitions.proofs.Demand.{demand3}

module _ {A : Type 0} where
  -- some pass exactly if their number is above 0
  any-count : (p : A → Bool) (xs : List A) → any p xs ≡ (0 <? count p xs)
  any-count p [] = refl
  any-count p (x ∷ xs) = go (p x) (any-count p xs)
    where
      go : (b : Bool) → any p xs ≡ (0 <? count p xs) → (b || any p xs) ≡ (0 <? bit b + count p xs)
      go true ih = sym (lt-ltb 0 (1 + count p xs) (omega arith))
      go false ih = let z : 0 + count p xs ≡ count p xs = omega arith in rw z ih

  -- what no element passes, none passes that passes more
  count-fewer : (p q : A → Bool) → ((x : A) → p x ≡ true → q x ≡ true) → (xs : List A) → count q xs ≡ 0 → count p xs ≡ 0
  count-fewer p q h [] z = refl
  count-fewer p q h (x ∷ xs) z = go (p x) refl (q x) refl (λ n. count-fewer p q h xs n)
    where
      go : (b : Bool) → p x ≡ b → (c : Bool) → q x ≡ c → (count q xs ≡ 0 → count p xs ≡ 0) → count p (x ∷ xs) ≡ 0
      go true d true e ih = absurd (omega (arith, simp e at z))
      go true d false e ih = absurd (true≢false (sym (h x d) ∙ e))
      go false d c e ih = simp d (omega (arith, ih (omega arith)))

  -- those that pass a test as well, and those that don't
  count-split : (p q : A → Bool) (xs : List A) → count (λ x. p x && q x) xs + count (λ x. p x && not (q x)) xs ≡ count p xs
  count-split p q [] = refl
  count-split p q (x ∷ xs) = go (p x) (q x) (count-split p q xs)
    where
      go : (b c : Bool) → count (λ x. p x && q x) xs + count (λ x. p x && not (q x)) xs ≡ count p xs
          → (bit (b && c) + count (λ x. p x && q x) xs) + (bit (b && not c) + count (λ x. p x && not (q x)) xs) ≡ bit b + count p xs
      go true true ih = omega arith
      go true false ih = omega arith
      go false c ih = omega arith

-- a test that mappings with equal rights pass alike
test-eq : (t : Right) (n m : ℕ) (b : Bool) → named t m ≡ bit b → (c : Bool) → (c && not (named t n =? bit b)) ≡ true → (c && not (n =? m)) ≡ true
test-eq t n m b e false h = h
test-eq t n m b e true h = go (n =? m) refl
  where
    go : (d : Bool) → (n =? m) ≡ d → not d ≡ true
    go false d = refl
    go true d =
        absurd (true≢false (sym h ∙ ap not (eq-eqb (named t n) (bit b) (ap (named t) (eqb-true n m d) ∙ e))))

module _ (x : HostAddr) (c : Compartment) (ms : List Mapping) (g : AgreesAt x c ms) (blank : held (c.values x) ≡ false → c.values x ≡ nothing) (t : Right) where
  -- no mapping with the address says otherwise
  none_other : count (λ m. contains x m && not (named t m.ops.0 =? bit (0 <? count_of t (c.values x)))) ms ≡ 0
  none_other =
      count-fewer _ (λ m. contains x m && not (m.ops.0 =? (rights_of (c.values x)).0))
      (λ m. test-eq t m.ops.0 (rights_of (c.values x)).0 (0 <? count_of t (c.values x)) (named-rights t (c.values x)) (contains x m)) ms g.rights

  has-it : 0 < count_of t (c.values x) → held (c.values x) ≡ true
  unfolding nothing
  has-it l = go (held (c.values x)) refl
    where
      go : (b : Bool) → held (c.values x) ≡ b → held (c.values x) ≡ true
      go true d = d
      go false d = absurd (omega (arith, ap (count_of t) (blank d), count-made 0 (λ t. 0) t))

  -- a held address lies in a mapping
  lies_in : held (c.values x) ≡ true → 0 < count (contains x) ms
  lies_in h = go (any (λ s. covers s x) c.segments) refl
    where
      go : (b : Bool) → any (λ s. covers s x) c.segments ≡ b → 0 < count (contains x) ms
      go true d =
          omega (arith, g.once h d, ltb-true 0 (count (λ s. covers s x) c.segments) (sym (any-count (λ s. covers s x) c.segments) ∙ d))
      go false d = omega (arith, (g.plain h d).0)

  -- some mapping with the address names the right exactly if its count there is above 0
  named_back : any (λ m. contains x m && (named t m.ops.0 =? 1)) ms ≡ (0 <? count_of t (c.values x))
  named_back = any-count _ ms ∙ go (0 <? count_of t (c.values x)) refl none_other
    where
      one : Mapping → Bool
      one m = named t m.ops.0 =? 1

      go : (b : Bool) → (0 <? count_of t (c.values x)) ≡ b → count (λ m. contains x m && not (named t m.ops.0 =? bit b)) ms ≡ 0
          → (0 <? count (λ m. contains x m && one m) ms) ≡ b
      go true d z =
          lt-ltb 0 (count (λ m. contains x m && one m) ms) (omega (
            arith,
            lies_in (has-it (ltb-true 0 (count_of t (c.values x)) d)),
            count-split (contains x) one ms,
          ))
      go false d z =
          le-ltb 0 (count (λ m. contains x m && one m) ms)
          (omega (
            arith,
            count-fewer (λ m. contains x m && one m) (λ m. contains x m && not (named t m.ops.0 =? 0))
                (λ m. other (contains x m) (named t m.ops.0)) ms z,
          ))
        where
          other : (b : Bool) (n : ℕ) → (b && (n =? 1)) ≡ true → (b && not (n =? 0)) ≡ true
          other false n h = h
          other true n h = ap not (ne_eqb n 0 (omega (arith, eqb-true n 1 h)))

  -- mappings that agree with a compartment at an address give every right back there
  pub gives_back : GivesBack t x (c.values x) ms
  gives_back = record { back = named_back; no_other = none_other }

-- every right, over every list of calls
pub given_back : (calls : List Call) (k : ℕ) (x : HostAddr) → x.0 < 2 ^ 64 → (t : Right)
    → GivesBack t x ((reckoning k (fed calls)).values x) (stream_of (compartment (after calls) k))
given_back calls k x small =
    gives_back x (reckoning k (fed calls)) (stream_of (compartment (after calls) k)) ((demand3 calls k).agreed x small)
    (subst (λ (c : Compartment). held (c.values x) ≡ false → c.values x ≡ nothing) (reckoned calls k) ((stored calls k).blank x))

-- order 10's sentence
pub device-back : (calls : List Call) (k : ℕ) (x : HostAddr) → x.0 < 2 ^ 64
    → GivesBack DEVICE x ((reckoning k (fed calls)).values x) (stream_of (compartment (after calls) k))
device-back calls k x small = given_back calls k x small DEVICE
