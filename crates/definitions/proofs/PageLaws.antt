-- Pages of groups of any width: in order they are the whole list, and a page touches only what it fills.
use Prim.Native.Nat.{ℕ, zero, suc, ◌+◌, ◌*◌, ◌/◌, ◌<◌, ◌≤◌}
use mathlib.Core.Path.{◌≡◌, refl, sym, ap, ◌∙◌}
use mathlib.Core.List.{List, [], ◌∷◌, ◌++◌, map, append-nil, append_assoc}
use native.Mathlib.Omega.{arith}
use native.Mathlib.Nat.{mul-div-le, mul-le-mul_left}
use lib.ListN.{length, take, drop, length-append, length-take, length-drop, drop_of_length-le}
use lib.Seq.{drop-drop, drop_at, take-nil}
use Rattle.definitions.specs.Tests.{each}
use Rattle.definitions.specs.Rights.{RIGHTS}
use Rattle.definitions.specs.Pages.{region_group, record_len, page, filled, pages_from, pages_end}
use Rattle.definitions.specs.declared.region.Region.{Region}

take_rest : {A : Type 0} (n : ℕ) (l : List A) → take n l ++ drop (length (take n l)) l ≡ l
take_rest zero l = refl
take_rest (suc n) [] = refl
take_rest (suc n) (m ∷ l) = ap (λ t. m ∷ t) (take_rest n l)

-- every group has w numbers
abbrev pub Wide : ℕ → List (List ℕ) → Type 0
Wide w [] = Unit {0}
Wide w (g ∷ gs) = (length g ≡ w) × Wide w gs

-- a stored region's group
pub record-long : (r : Region) → length (region_group r) ≡ record_len
unfolding RIGHTS
record-long r = refl

pub wide-map : {A : Type 0} (w : ℕ) (f : A → List ℕ) → ((a : A) → length (f a) ≡ w) → (xs : List A) → Wide w (map f xs)
wide-map w f h [] = tt
wide-map w f h (x ∷ xs) = (h x, wide-map w f h xs)

wide-drop : (w k : ℕ) (gs : List (List ℕ)) → Wide w gs → Wide w (drop k gs)
wide-drop w zero gs h = h
wide-drop w (suc k) [] h = h
wide-drop w (suc k) (g ∷ gs) h = wide-drop w k gs h.1

wide-take : (w k : ℕ) (gs : List (List ℕ)) → Wide w gs → Wide w (take k gs)
wide-take w zero gs h = tt
wide-take w (suc k) [] h = tt
wide-take w (suc k) (g ∷ gs) h = (h.0, wide-take w k gs h.1)

wide-length : (w : ℕ) (gs : List (List ℕ)) → Wide w gs → length (each (λ g. g) gs) ≡ w * length gs
wide-length w [] h = omega arith
wide-length w (g ∷ gs) h = simp length-append (omega (arith, wide-length w gs h.1))

module _ (w : ℕ) (gs : List (List ℕ)) where
  pub page-rest : (k room : ℕ) → page w gs k room ++ drop (k + length (page w gs k room)) gs ≡ drop k gs
  unfolding page
  page-rest k room =
      ap (λ l. take (room / w) (drop k gs) ++ l) (sym (drop-drop (length (take (room / w) (drop k gs))) k gs))
      ∙ take_rest (room / w) (drop k gs)

  -- the pages from k in order, then the rest, are the groups from k on
  pub pages-are : (k : ℕ) (rooms : List ℕ) → pages_from w gs k rooms ++ drop (pages_end w gs k rooms) gs ≡ drop k gs
  unfolding pages_from pages_end
  pages-are k [] = refl
  pages-are k (room ∷ rooms) =
      let next : ℕ = k + length (page w gs k room) in
      append_assoc (page w gs k room) (pages_from w gs next rooms) (drop (pages_end w gs next rooms) gs)
      ∙ ap (λ l. page w gs k room ++ l) (pages-are next rooms) ∙ page-rest k room

  -- a page at or past the end reads nothing
  pub page-end : (k room : ℕ) → length gs ≤ k → page w gs k room ≡ []
  unfolding page
  page-end k room h = rw (drop_of_length-le gs {i = k} h) (take-nil (room / w))

  -- once a page answers fewer than fit its slice, nothing is left
  pub last-page : (k room : ℕ) → length (page w gs k room) < room / w → drop (k + length (page w gs k room)) gs ≡ []
  unfolding page
  last-page k room h =
      drop_of_length-le gs {i = k + length (take (room / w) (drop k gs))}
      (simp (length-take, length-drop) (omega (arith, simp (length-take, length-drop) at h)))

  -- and the groups of the pages in order are the whole
  pub all-pages : (rooms : List ℕ) (room : ℕ) → length (page w gs (pages_end w gs 0 rooms) room) < room / w
      → pages_from w gs 0 rooms ++ page w gs (pages_end w gs 0 rooms) room ≡ gs
  all-pages rooms room h =
      let k : ℕ = pages_end w gs 0 rooms in
      ap (λ l. pages_from w gs 0 rooms ++ l)
      (sym (append-nil (page w gs k room)) ∙ ap (λ l. page w gs k room ++ l) (sym (last-page k room h)) ∙ page-rest k room)
      ∙ pages-are 0 rooms

-- the groups that a page reads fit its slice, which keeps its length and its rest
module _ (w : ℕ) (gs : List (List ℕ)) (wide : Wide w gs) (k : ℕ) (slice : List ℕ) where
  pub read_length : length (each (λ g. g) (page w gs k (length slice))) ≡ w * length (page w gs k (length slice))
  unfolding page
  read_length =
      wide-length w (take (length slice / w) (drop k gs)) (wide-take w (length slice / w) (drop k gs) (wide-drop w k gs wide))

  read_fits : w * length (page w gs k (length slice)) ≤ length slice
  unfolding page
  read_fits =
      let few : length (take (length slice / w) (drop k gs)) ≤ length slice / w = simp length-take (omega arith) in
      omega (arith, mul-le-mul_left w few, mul-div-le (length slice) w)

  pub filled-length : length (filled w gs k slice) ≡ length slice
  unfolding filled
  filled-length = simp (length-append, length-drop) (omega (arith, read_length, read_fits))

  pub rest-kept : drop (w * length (page w gs k (length slice))) (filled w gs k slice)
      ≡ drop (w * length (page w gs k (length slice))) slice
  unfolding filled
  rest-kept = drop_at (each (λ g. g) (page w gs k (length slice))) _ _ read_length
