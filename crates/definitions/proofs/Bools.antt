-- Laws of the tests and of counting.
use Rattle.std.specs.Prelude.{if◌then◌else◌}
use Prim.Native.Nat.{ℕ, ◌+◌, ◌<◌, ◌≤◌}
use mathlib.Core.Path.{◌≡◌, refl, sym, ap, ◌∙◌}
use mathlib.Core.Bool.{Bool, true, false, true≢false, not, ◌&&◌, ◌||◌}
use mathlib.Core.List.{List, [], ◌∷◌, ◌++◌, map}
use native.Mathlib.Omega.{arith}
use lib.Dec.{ltb, leb}
use borrow.Author.Tests.{ltb-true, ltb-false, leb-true, leb-false, lt-ltb, le-ltb, le-leb, lt-leb}
use Rattle.definitions.specs.Tests.{◌=?◌, inside, bit, any, count, keep}

-- where an address lies
pub data Where (a e x : ℕ) : Type 0 where
  inn : inside a e x ≡ true → a ≤ x → x < e → Where a e x
  low : inside a e x ≡ false → x < a → Where a e x
  high : inside a e x ≡ false → a ≤ x → e ≤ x → Where a e x

pub in-true : (a e x : ℕ) → a ≤ x → x < e → inside a e x ≡ true
unfolding inside
in-true a e x p q = simp (le-leb a x p, lt-ltb x e q)

pub in-low : (a e x : ℕ) → x < a → inside a e x ≡ false
unfolding inside
in-low a e x p = simp (lt-leb a x p)

pub and-false : (b : Bool) → (b && false) ≡ false
and-false true = refl
and-false false = refl

pub in-high : (a e x : ℕ) → e ≤ x → inside a e x ≡ false
unfolding inside
in-high a e x p = simp (le-ltb x e p, and-false)

pub where? : (a e x : ℕ) → Where a e x
where? a e x = go (leb a x) (ltb x e) refl refl
  where
    go : (s t : Bool) → leb a x ≡ s → ltb x e ≡ t → Where a e x
    go false t p q = low (in-low a e x (leb-false a x p)) (leb-false a x p)
    go true true p q = inn (in-true a e x (leb-true a x p) (ltb-true x e q)) (leb-true a x p) (ltb-true x e q)
    go true false p q = high (in-high a e x (ltb-false x e q)) (leb-true a x p) (ltb-false x e q)

pub in-not : (a e x : ℕ) → (a ≤ x → x < e → ⊥) → inside a e x ≡ false
in-not a e x h = go (where? a e x)
  where
    go : Where a e x → inside a e x ≡ false
    go (inn p i j) = absurd (h i j)
    go (low p i) = p
    go (high p i j) = p

pub in-empty : (a e x : ℕ) → e ≤ a → inside a e x ≡ false
in-empty a e x h = go (where? a e x)
  where
    go : Where a e x → inside a e x ≡ false
    go (inn p i j) = absurd (omega arith)
    go (low p i) = p
    go (high p i j) = p

-- two ranges that agree at x
pub in-ext : (a e b f x : ℕ) → ((a ≤ x) × (x < e) → (b ≤ x) × (x < f)) → ((b ≤ x) × (x < f) → (a ≤ x) × (x < e)) → inside a e x ≡ inside b f x
in-ext a e b f x to from = go (where? a e x) (where? b f x)
  where
    go : Where a e x → Where b f x → inside a e x ≡ inside b f x
    go (inn p h k) (inn q i j) = p ∙ sym q
    go (inn p h k) (low q i) = let t : (b ≤ x) × (x < f) = to (h, k) in absurd (omega arith)
    go (inn p h k) (high q i j) = let t : (b ≤ x) × (x < f) = to (h, k) in absurd (omega arith)
    go (low p h) (inn q i j) = let t : (a ≤ x) × (x < e) = from (i, j) in absurd (omega arith)
    go (high p h k) (inn q i j) = let t : (a ≤ x) × (x < e) = from (i, j) in absurd (omega arith)
    go (low p h) (low q i) = p ∙ sym q
    go (low p h) (high q i j) = p ∙ sym q
    go (high p h k) (low q i) = p ∙ sym q
    go (high p h k) (high q i j) = p ∙ sym q

module _ {A : Type 0} where
  pub count-append : (p : A → Bool) (xs ys : List A) → count p (xs ++ ys) ≡ count p xs + count p ys
  count-append p [] ys = omega arith
  count-append p (x ∷ xs) ys = omega (arith, count-append p xs ys)

  pub count-ext : (p q : A → Bool) → ((x : A) → p x ≡ q x) → (xs : List A) → count p xs ≡ count q xs
  count-ext p q h [] = refl
  count-ext p q h (x ∷ xs) = cc (h x, count-ext p q h xs)

  -- a test and its opposite share a list out
  pub count-parts : (p t u : A → Bool) → ((x : A) → u x ≡ not (t x)) → (xs : List A) → count p (keep t xs) + count p (keep u xs) ≡ count p xs
  count-parts p t u h [] = refl
  count-parts p t u h (x ∷ xs) = go (t x) refl (count-parts p t u h xs)
    where
      go : (b : Bool) → t x ≡ b → count p (keep t xs) + count p (keep u xs) ≡ count p xs
          → count p (keep t (x ∷ xs)) + count p (keep u (x ∷ xs)) ≡ count p (x ∷ xs)
      go true e ih = simp (e, h x) (omega arith)
      go false e ih = simp (e, h x) (omega arith)

  pub count_map : {B : Type 0} (p : B → Bool) (f : A → B) (xs : List A) → count p (map f xs) ≡ count (λ x. p (f x)) xs
  count_map p f [] = refl
  count_map p f (x ∷ xs) = ap (λ n. bit (p (f x)) + n) (count_map p f xs)

pub and-true : (b : Bool) → (b && true) ≡ b
and-true true = refl
and-true false = refl

pub if-same : {A : Type 0} (b : Bool) (a : A) → (if b then a else a) ≡ a
if-same true a = refl
if-same false a = refl

-- what no element passes, none passes with more asked
pub count_none : {A : Type 0} (p q : A → Bool) (xs : List A) → any p xs ≡ false → count (λ x. p x && q x) xs ≡ 0
count_none p q [] e = refl
count_none p q (x ∷ xs) e = go (p x) refl e (λ f. count_none p q xs f)
  where
    go : (b : Bool) → p x ≡ b → (p x || any p xs) ≡ false → (any p xs ≡ false → count (λ x. p x && q x) xs ≡ 0)
        → count (λ x. p x && q x) (x ∷ xs) ≡ 0
    go true d f ih = absurd (true≢false (simp d at f))
    go false d f ih = simp d (omega (arith, ih (simp d at f)))

pub or-true : (b : Bool) → (b || true) ≡ true
or-true true = refl
or-true false = refl

pub or-false : (b : Bool) → (b || false) ≡ b
or-false true = refl
or-false false = refl

pub or_assoc : (a b c : Bool) → (a || (b || c)) ≡ ((a || b) || c)
or_assoc true b c = refl
or_assoc false b c = refl

-- a test that is told as a number, and asked again
pub one_bit : (b : Bool) → (bit b =? 1) ≡ b
one_bit true = refl
one_bit false = refl

-- both parts of a test that is passed
pub both : (s t : Bool) → (s && t) ≡ true → (s ≡ true) × (t ≡ true)
both true true z = (refl, refl)
both true false z = absurd (true≢false (sym z))
both false t z = absurd (true≢false (sym z))
