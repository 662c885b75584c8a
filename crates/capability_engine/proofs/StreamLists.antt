-- Laws of the list functions of the definitions. Assumes nothing.
use mathlib.Core.Path.{◌≡◌, refl, sym, ap, ap₂, ◌∙◌}
use mathlib.Core.Bool.{Bool, true, false}
use mathlib.Core.List.{List, [], ◌∷◌, ◌++◌, map, append_assoc}
use Rattle.definitions.specs.Tests.{keep, each}

module _ {A B : Type 0} where
  pub map-append : (f : A → B) (xs ys : List A) → map f (xs ++ ys) ≡ map f xs ++ map f ys
  map-append f [] ys = refl
  map-append f (x ∷ xs) ys = ap (λ (l : List B). f x ∷ l) (map-append f xs ys)

  pub each_append : (f : A → List B) (xs ys : List A) → each f (xs ++ ys) ≡ each f xs ++ each f ys
  each_append f [] ys = refl
  each_append f (x ∷ xs) ys = ap (λ (l : List B). f x ++ l) (each_append f xs ys) ∙ sym (append_assoc (f x) (each f xs) (each f ys))

pub beside : {A : Type 0} {a b c d : List A} → a ≡ b → c ≡ d → a ++ c ≡ b ++ d
beside {A} p q = ap₂ (λ (x y : List A). x ++ y) p q

module _ {A B C : Type 0} where
  pub each-each : (f : A → List B) (g : B → List C) (h : A → List C) → ((x : A) → each g (f x) ≡ h x) → (xs : List A) → each g (each f xs) ≡ each h xs
  each-each f g h e [] = refl
  each-each f g h e (x ∷ xs) = each_append g (f x) (each f xs) ∙ beside (e x) (each-each f g h e xs)

module _ {A : Type 0} where
  pub keep_append : (p : A → Bool) (xs ys : List A) → keep p (xs ++ ys) ≡ keep p xs ++ keep p ys
  keep_append p [] ys = refl
  keep_append p (x ∷ xs) ys = go (p x) refl (keep_append p xs ys)
    where
      go : (b : Bool) → p x ≡ b → keep p (xs ++ ys) ≡ keep p xs ++ keep p ys → keep p (x ∷ xs ++ ys) ≡ keep p (x ∷ xs) ++ keep p ys
      go true e ih = simp e (ap (λ (l : List A). x ∷ l) ih)
      go false e ih = simp e ih
