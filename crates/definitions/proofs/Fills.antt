-- A slice is filled group by group, of any width. Assumes nothing.
use Prim.Native.Nat.{ℕ, zero, suc, ◌+◌, ◌*◌, ◌/◌, ◌≤◌, ◌<◌}
use mathlib.Core.Path.{◌≡◌, refl, sym, ap, ap₂, ◌∙◌}
use mathlib.Core.List.{List, [], ◌∷◌, ◌++◌, map, append-nil}
use native.Mathlib.Omega.{arith}
use native.Mathlib.Nat.{mul-div-le, mul-le-mul_left}
use native.Mathlib.Numerals.{add-one}
use lib.ListN.{length, take, drop, length-append, length-drop, length-map, drop_of_length-le}
use lib.Seq.{sets, sets-eq, take_at, drop-drop, drop-append-add, take_all, length-take-le}
use Rattle.definitions.specs.Tests.{each}
use Rattle.definitions.specs.Pages.{page, filled, Filled, mapping_group, permission_group, segment_group}
use Rattle.definitions.specs.declared.region.MemoryPermission.{MemoryPermission}
use Rattle.definitions.specs.declared.remapper.Mapping.{Mapping}
use Rattle.definitions.specs.declared.remapper.Segment.{Segment}
use Rattle.definitions.proofs.PageLaws.{Wide, wide-map}
use Rattle.definitions.proofs.UncoveredLaws.{each_append}

-- the slice with its first i groups written
abbrev pub written : ℕ → List (List ℕ) → ℕ → List ℕ → List ℕ
written w gs i slice = each (λ g. g) (take i gs) ++ drop (w * i) slice

-- the list from i on opens
module _ {A : Type 0} where
  pub record Opens (xs : List A) (i : ℕ) (x : A) (rest : List A) : Type 0 where
    pub front : take (i + 1) xs ≡ take i xs ++ (x ∷ [])
    pub back : drop (i + 1) xs ≡ rest
    pub more : i < length xs

  cons-nil : {x : A} {rest : List A} {P : Type 0} → [] ≡ x ∷ rest → P
  cons-nil e = absurd (let z : ◌≡◌ {A = ℕ} 0 1 = cc in omega arith)

  opens-suc : (xs : List A) (i : ℕ) (x : A) (rest : List A) → drop i xs ≡ x ∷ rest
      → (take (suc i) xs ≡ take i xs ++ (x ∷ [])) × (drop (suc i) xs ≡ rest) × (i < length xs)
  opens-suc [] zero x rest e = cons-nil e
  opens-suc [] (suc i) x rest e = cons-nil e
  opens-suc (y ∷ ys) zero x rest e =
      let a : y ≡ x = cc in
      let b : ys ≡ rest = cc in
      (ap (λ (z : A). z ∷ []) a, b, omega arith)
  opens-suc (y ∷ ys) (suc i) x rest e =
      let r = opens-suc ys i x rest e in
      (ap (λ (l : List A). y ∷ l) r.0, r.1, omega (arith, r.2))

  pub opens : (xs : List A) (i : ℕ) (x : A) (rest : List A) → drop i xs ≡ x ∷ rest → Opens xs i x rest
  opens xs i x rest e =
      let r = opens-suc xs i x rest e in
      record { front = rw (add-one i) r.0; back = rw (add-one i) r.1; more = r.2 }

  pub drop_past : (xs : List A) (i k : ℕ) → drop i xs ≡ [] → i ≤ k → drop k xs ≡ []
  drop_past xs i k z l = drop_of_length-le xs {i = k} (omega (arith, length-drop i xs, ap length z))

  pub map-drop : {B : Type 0} (f : A → B) (k : ℕ) (xs : List A) → map f (drop k xs) ≡ drop k (map f xs)
  map-drop f zero xs = refl
  map-drop f (suc k) [] = refl
  map-drop f (suc k) (x ∷ xs) = map-drop f k xs

front_length : (w : ℕ) (gs : List (List ℕ)) (i : ℕ) → Wide w gs → i ≤ length gs → length (each (λ g. g) (take i gs)) ≡ w * i
front_length w gs zero h l = omega arith
front_length w [] (suc i) h l = absurd (omega arith)
front_length w (g ∷ gs) (suc i) h l = simp length-append (omega (arith, front_length w gs i h.1 (omega arith)))

module _ (w : ℕ) where
  room_for : (i l : ℕ) → i ≤ l / w → w * i ≤ l
  room_for i l h = omega (arith, mul-le-mul_left w h, mul-div-le l w)

  pub room-more : (i l : ℕ) → i < l / w → w * i + w ≤ l
  room-more i l h =
      let a : i + 1 ≤ l / w = omega arith in
      let b : w * (i + 1) ≤ w * (l / w) = mul-le-mul_left w a in
      omega (arith, mul-div-le l w)

module _ (w : ℕ) (gs : List (List ℕ)) (wide : Wide w gs) (slice : List ℕ) where
  -- what is written leaves the length as it was
  written-length : (i : ℕ) → i ≤ length gs → i ≤ length slice / w → length (written w gs i slice) ≡ length slice
  written-length i l k =
      simp (length-append, length-drop) (omega (arith, front_length w gs i wide l, room_for w i (length slice) k))

  -- one group more
  written-more : (i : ℕ) (g : List ℕ) (rest : List (List ℕ)) → Opens gs i g rest → length g ≡ w → w * i + w ≤ length slice
      → sets (written w gs i slice) (w * i) g ≡ written w gs (i + 1) slice
  written-more i g rest o e l =
      let f : length (each (λ g. g) (take i gs)) ≡ w * i = front_length w gs i wide (omega (arith, o.more)) in
      let a : take (w * i) (written w gs i slice) ≡ each (λ g. g) (take i gs) = take_at (each (λ g. g) (take i gs)) (drop (w * i) slice) (w * i) f in
      let next : w * i + w ≡ w * (i + 1) = omega arith in
      let d : drop (w * i + length g) (written w gs i slice) ≡ drop (w * (i + 1)) slice
      = ap₂ (λ (x y : ℕ). drop (x + y) (written w gs i slice)) (sym f) e ∙ drop-append-add (each (λ g. g) (take i gs)) (drop (w * i) slice) w
      ∙ drop-drop w (w * i) slice ∙ ap (λ (x : ℕ). drop x slice) next in
      sets-eq g (written w gs i slice) (w * i) (simp (length-append, length-drop) (omega (arith, f, e)))
      ∙ ap₂ (λ (x y : List ℕ). x ++ g ++ y) a d
      ∙ ap (λ (x : List ℕ). x ++ drop (w * (i + 1)) slice)
      (sym (ap (each (λ g. g)) o.front ∙ each_append (λ g. g) (take i gs) (g ∷ [])
      ∙ ap (λ (x : List ℕ). each (λ g. g) (take i gs) ++ x) (append-nil g)))

  -- one turn
  more-written : (i : ℕ) (g : List ℕ) (rest : List (List ℕ)) (now next : List ℕ) → Opens gs i g rest → length g ≡ w → i < length slice / w
      → now ≡ written w gs i slice → next ≡ sets now (w * i) g → next ≡ written w gs (i + 1) slice
  more-written i g rest now next o e l p q =
      q ∙ ap (λ (x : List ℕ). sets x (w * i) g) p ∙ written-more i g rest o e (room-more w i (length slice) l)

-- the end: the list's, or the slice's
module _ (w : ℕ) (gs : List (List ℕ)) (i : ℕ) (before after : List ℕ) (e : after ≡ written w gs i before) (l : i ≤ length gs) where
  filled-end : take (length before / w) gs ≡ take i gs → Filled w gs 0 before after i
  unfolding page filled
  filled-end q =
      let k : i ≡ length (take (length before / w) gs) = sym (length-take-le i gs l) ∙ ap length (sym q) in
      record {
        many = k;
        slice = e ∙ ap₂ (λ (x : List (List ℕ)) (y : ℕ). each (λ g. g) x ++ drop (w * y) before) (sym q) k;
      }

  filled-short : i ≤ length before / w → drop i gs ≡ [] → Filled w gs 0 before after i
  filled-short k z =
      let s : length gs ≤ i = omega (arith, length-drop i gs, ap length z) in
      filled-end (take_all (length before / w) gs (omega arith) ∙ sym (take_all i gs s))

  filled-full : i ≡ length before / w → Filled w gs 0 before after i
  filled-full k = filled-end (ap (λ (x : ℕ). take x gs) (sym k))

filled-from : (w : ℕ) (gs hs : List (List ℕ)) (k : ℕ) (before after : List ℕ) (r : ℕ) → hs ≡ drop k gs → Filled w hs 0 before after r → Filled w gs k before after r
unfolding page filled
filled-from w gs hs k before after r e f = record { many = rw e at f.many; slice = rw e at f.slice }

-- the groups of a list's elements: a slice that is filled with them, turn by turn, to the end
module _ {A : Type 0} (w : ℕ) (f : A → List ℕ) (fw : (a : A) → length (f a) ≡ w) (xs : List A) (slice : List ℕ) where
  pub kept : (i : ℕ) (now : List ℕ) → now ≡ written w (map f xs) i slice → i ≤ length xs → i ≤ length slice / w → length now ≡ length slice
  kept i now e l k = ap length e ∙ written-length w (map f xs) (wide-map w f fw xs) slice i (rw (length-map xs f) l) k

  pub more : (i : ℕ) (x : A) (rest : List A) (now next : List ℕ) → drop i xs ≡ x ∷ rest → i < length slice / w
      → now ≡ written w (map f xs) i slice → next ≡ sets now (w * i) (f x)
      → (i + 1 ≤ length xs) × (drop (i + 1) xs ≡ rest) × (next ≡ written w (map f xs) (i + 1) slice)
  more i x rest now next d l e q =
      let o = opens xs i x rest d in
      let p = opens (map f xs) i (f x) (map f rest) (sym (map-drop f i xs) ∙ ap (map f) d) in
      (omega (arith, o.more), o.back, more-written w (map f xs) (wide-map w f fw xs) slice i (f x) (map f rest) now next p (fw x) l e q)

  module _ (i : ℕ) (now : List ℕ) (e : now ≡ written w (map f xs) i slice) (l : i ≤ length xs) where
    pub short : i ≤ length slice / w → drop i xs ≡ [] → Filled w (map f xs) 0 slice now i
    short k z = filled-short w (map f xs) i slice now e (rw (length-map xs f) l) k (sym (map-drop f i xs) ∙ ap (map f) z)

    pub full : i ≡ length slice / w → Filled w (map f xs) 0 slice now i
    full k = filled-full w (map f xs) i slice now e (rw (length-map xs f) l) k

-- from k on
pub from_at : {A : Type 0} (w : ℕ) (f : A → List ℕ) (xs ys : List A) (k : ℕ) (before after : List ℕ) (r : ℕ) → ys ≡ drop k xs
    → Filled w (map f ys) 0 before after r → Filled w (map f xs) k before after r
from_at w f xs ys k before after r e g = filled-from w (map f xs) (map f ys) k before after r (ap (map f) e ∙ map-drop f k xs) g

-- the widths
pub five : (m : Mapping) → length (mapping_group m) ≡ 5
unfolding mapping_group
five m = refl

pub three : (p : MemoryPermission) → length (permission_group p) ≡ 3
unfolding permission_group
three p = refl

pub four : (s : Segment) → length (segment_group s) ≡ 4
unfolding segment_group
four s = refl

-- The elements of a list are written into a slice one after the other, a group for each.

-- i of the elements of a list are written, and the others are still to come
pub record Walk {A : Type 0} (w : ℕ) (f : A → List ℕ) (xs ahead : List A) (before now : List ℕ) (i : ℕ) : Type 0 where
  pub room : i ≤ length before / w
  pub some : i ≤ length xs
  pub left : ahead ≡ drop i xs
  pub slice : now ≡ written w (map f xs) i before

module _ {A : Type 0} (w : ℕ) (f : A → List ℕ) (fw : (a : A) → length (f a) ≡ w) {xs : List A} {before : List ℕ} where
  pub walk_start : Walk w f xs xs before before 0
  walk_start = let z : w * 0 ≡ 0 = omega arith in record { room = omega arith; some = omega arith; left = refl; slice = rw z }

  module _ {ahead : List A} {now : List ℕ} {i : ℕ} (g : Walk w f xs ahead before now i) where
    pub walk_kept : length now ≡ length before
    walk_kept = kept w f fw xs before i now g.slice g.some g.room

    pub walk-fits : i < length before / w → w * i + w ≤ length now
    walk-fits l = rw walk_kept (room-more w i (length before) l)

    -- the list ends, or the slice does
    pub walk-short : ahead ≡ [] → Filled w (map f xs) 0 before now i
    walk-short z = short w f fw xs before i now g.slice g.some g.room (sym g.left ∙ z)

    pub walk-full : i ≡ length before / w → Filled w (map f xs) 0 before now i
    walk-full e = full w f fw xs before i now g.slice g.some e

    -- one element more
    pub walk_more : {x : A} {rest : List A} {next : List ℕ} → ahead ≡ x ∷ rest → i < length before / w → next ≡ sets now (w * i) (f x) → Walk w f xs rest before next (i + 1)
    walk_more {x} {rest} {next} o l e =
        let v = more w f fw xs before i x rest now next (sym g.left ∙ o) l g.slice e in
        record { room = omega arith; some = v.0; left = sym v.1; slice = v.2 }
