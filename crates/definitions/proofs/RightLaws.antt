-- Laws of the rights and their counts, over every right at once.
use Prim.Native.Nat.{ℕ, zero, suc, ◌+◌, ◌/◌, ◌%◌, ◌<◌, ◌≤◌}
use mathlib.Core.Path.{◌≡◌, refl}
use mathlib.Core.Bool.{Bool, true, false, not, ◌&&◌, ◌||◌}
use mathlib.Core.List.{List, [], ◌∷◌}
use lib.ListN.{length, get_or}
use native.Mathlib.Omega.{arith}
use borrow.Author.Tests.{eqb-true, eq-eqb}
use Rattle.definitions.specs.Tests.{◌<?◌, ◌=?◌, bit, all, any}
use Rattle.definitions.specs.Rights.{Right, READ, WRITE, EXEC, SUPER, UNCACHEABLE, DEVICE, RIGHTS, flag, named, is_valid, count_of, counters_of}
use Rattle.definitions.specs.Values.{rights_of}
use Rattle.definitions.specs.Regions.{same}
use Rattle.definitions.specs.declared.region.Values.{Values}
use Rattle.definitions.proofs.Bools.{both}

module _ {A : Type 0} where
  pub all-at : (p : A → Bool) (xs : List A) (n : ℕ) (d : A) → n < length xs → all p xs ≡ true → p (get_or xs n d) ≡ true
  all-at p [] n d l h = absurd (omega arith)
  all-at p (x ∷ xs) zero d l h = (both (p x) (all p xs) h).0
  all-at p (x ∷ xs) (suc n) d l h = all-at p xs n d (omega arith) (both (p x) (all p xs) h).1

  pub all_true : (p : A → Bool) → ((x : A) → p x ≡ true) → (xs : List A) → all p xs ≡ true
  all_true p h [] = refl
  all_true p h (x ∷ xs) = rw (h x, all_true p h xs)

  -- some passes one test, or not all pass the other
  pub any-fails : (p q : A → Bool) → ((x : A) → p x ≡ not (q x)) → (xs : List A) → any p xs ≡ not (all q xs)
  any-fails p q h [] = refl
  any-fails p q h (x ∷ xs) = rw (h x, any-fails p q h xs) (go (q x) (all q xs))
    where
      go : (s t : Bool) → (not s || not t) ≡ not (s && t)
      go true t = refl
      go false t = refl

-- what all rights pass, each passes
pub each_right : (p : Right → Bool) → all p RIGHTS ≡ true → (t : Right) → p t ≡ true
unfolding RIGHTS
each_right p h READ = all-at p RIGHTS 0 READ (omega arith) h
each_right p h WRITE = all-at p RIGHTS 1 READ (omega arith) h
each_right p h EXEC = all-at p RIGHTS 2 READ (omega arith) h
each_right p h SUPER = all-at p RIGHTS 3 READ (omega arith) h
each_right p h UNCACHEABLE = all-at p RIGHTS 4 READ (omega arith) h
each_right p h DEVICE = all-at p RIGHTS 5 READ (omega arith) h

-- the count of a right among counters that are made of counts
pub count-made : (n : ℕ) (f : Right → ℕ) (t : Right) → count_of t (record { refcount = n; counters = counters_of f }) ≡ f t
count-made n f READ = refl
count-made n f WRITE = refl
count-made n f EXEC = refl
count-made n f SUPER = refl
count-made n f UNCACHEABLE = refl
count-made n f DEVICE = refl

-- values with the same holders and counts are equal
pub values_eq : (v w : Values) → v.refcount ≡ w.refcount → ((t : Right) → count_of t v ≡ count_of t w) → v ≡ w
values_eq v w n h = λ i. record { refcount = n i; counters = counters_of (λ t. h t i) }

pub same-eq : (v w : Values) → same v w ≡ true → v ≡ w
unfolding same
same-eq v w e =
    let p = both (v.refcount =? w.refcount) (all (λ t. count_of t v =? count_of t w) RIGHTS) e in
    values_eq v w (eqb-true v.refcount w.refcount p.0)
    (λ t. eqb-true (count_of t v) (count_of t w) (each_right (λ t. count_of t v =? count_of t w) p.1 t))

pub same_refl : (v : Values) → same v v ≡ true
unfolding same
same_refl v =
    rw (eq-eqb v.refcount v.refcount refl)
    (all_true (λ t. count_of t v =? count_of t v) (λ t. eq-eqb (count_of t v) (count_of t v) refl) RIGHTS)

pub named-bit : (right : Right) (rights : ℕ) → named right rights < 2
unfolding named
named-bit right rights = omega arith

pub bit-small : (b : Bool) → bit b ≤ 1
bit-small true = omega arith
bit-small false = omega arith

-- the rights of an address name just those with a count above 0
pub named-rights : (t : Right) (v : Values) → named t (rights_of v).0 ≡ bit (0 <? count_of t v)
unfolding named rights_of RIGHTS
named-rights t v =
    go t (small READ) (small WRITE) (small EXEC) (small SUPER) (small UNCACHEABLE) (small DEVICE)
  where
    small : (t : Right) → bit (0 <? count_of t v) ≤ 1
    small t = bit-small (0 <? count_of t v)

    go : (t : Right) → bit (0 <? count_of READ v) ≤ 1 → bit (0 <? count_of WRITE v) ≤ 1 → bit (0 <? count_of EXEC v) ≤ 1
        → bit (0 <? count_of SUPER v) ≤ 1 → bit (0 <? count_of UNCACHEABLE v) ≤ 1 → bit (0 <? count_of DEVICE v) ≤ 1
        → named t (rights_of v).0 ≡ bit (0 <? count_of t v)
    go READ a b c d e f = omega arith
    go WRITE a b c d e f = omega arith
    go EXEC a b c d e f = omega arith
    go SUPER a b c d e f = omega arith
    go UNCACHEABLE a b c d e f = omega arith
    go DEVICE a b c d e f = omega arith

-- Document 02, order 10: the page tables ignore the device right. So does is_valid, which is asked before they are written.
pub device-ignored : (rights : ℕ) → is_valid (record { 0 = rights + flag DEVICE }) ≡ is_valid (record { 0 = rights })
unfolding is_valid named
device-ignored rights = rw (read rights, write rights, exec rights)
  where
    read : (n : ℕ) → (n + 32) / 1 % 2 ≡ n / 1 % 2
    read n = omega arith

    write : (n : ℕ) → (n + 32) / 2 % 2 ≡ n / 2 % 2
    write n = omega arith

    exec : (n : ℕ) → (n + 32) / 4 % 2 ≡ n / 4 % 2
    exec n = omega arith
