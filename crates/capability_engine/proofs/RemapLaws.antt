-- Laws of a linked list of slots, of the segments at the slots, and of a place in the list.
use Prim.Native.Nat.{ℕ, zero, suc, ◌+◌, ◌<◌, ◌≤◌}
use mathlib.Core.Path.{◌≡◌, subst, ◌≡◌, refl, sym, ap, ap₂, ◌∙◌}
use mathlib.Core.List.{List, [], ◌∷◌, ◌++◌}
use mathlib.Core.Bool.{Bool, true, false, cond}
use native.Mathlib.Omega.{arith}
use native.Mathlib.Decide.{ℕ_discrete, dec_lt}
use lib.ListN.{length, get_or, set, length-set}
use lib.Seq.{get_or-set_same, get_or-set_other}
use lib.Dec.{ltb}
use borrow.Author.Tests.{lt-ltb, le-ltb, eq-eqb, ne_eqb}
use Rattle.free_list.specs.Stack.{FreeListCall, up_from, after}
use Rattle.free_list.specs.Grown.{Grown}
use Rattle.free_list.specs.declared.FreeList.{FreeList}
use Rattle.free_list.proofs.Laws.{in-use-rest, none-used}
use Rattle.definitions.proofs.SegmentLaws.{AllGood}
use Rattle.definitions.specs.declared.remapper.Segment.{Segment}
use Rattle.capability_engine.specs.declared.remapper.Remapper.{Remapper}
use Rattle.capability_engine.specs.RemapHeld.{Chain, hit, occ, no_segment, segs_at, Owns, Holds, last_or, join_links, join_head, behind, follow, ahead}

-- ---- how often a slot stands in a list

pub hit_same : (x : ℕ) → hit x x ≡ 1
hit_same x = rw (eq-eqb x x refl)

pub hit_other : (z x : ℕ) → (z ≡ x → ⊥) → hit z x ≡ 0
hit_other z x p = rw (ne_eqb z x p)

pub hit-apart : (z x : ℕ) → hit z x ≡ 0 → z ≡ x → ⊥
hit-apart z x e q = omega (arith, hit_same x, rw q at e)

pub occ-append : (z : ℕ) (xs ys : List ℕ) → occ z (xs ++ ys) ≡ occ z xs + occ z ys
occ-append z [] ys = omega arith
occ-append z (x ∷ xs) ys = omega (arith, occ-append z xs ys)

below_one : (z n : ℕ) → cond (ltb z n) 1 0 ≤ 1
below_one z n = go (ltb z n)
  where
    go : (b : Bool) → cond b 1 0 ≤ 1
    go true = omega arith
    go false = omega arith

-- the last of a list that is not empty is in it
occ-last : (x : ℕ) (xs : List ℕ) → 1 ≤ occ (last_or x xs) (x ∷ xs)
occ-last x [] = omega (arith, hit_same x)
occ-last x (y ∷ xs) = omega (arith, occ-last y xs)

pub last_or-snoc : (d : ℕ) (xs : List ℕ) (x : ℕ) → last_or d (xs ++ (x ∷ [])) ≡ x
last_or-snoc d [] x = refl
last_or-snoc d (y ∷ xs) x = last_or-snoc y xs x

-- ---- chains

-- a store elsewhere
pub chain-frame : (links : List ℕ) (h : ℕ) (s : List ℕ) (e i v : ℕ) → occ i s ≡ 0 → Chain links h s e → Chain (set links i v) h s e
chain-frame links h [] e i v o c = c
chain-frame links h (x ∷ s) e i v o c =
    (c.0, rw (get_or-set_other links i x v 0 (λ q. hit-apart i x (omega arith) (sym q))) (chain-frame links (get_or links x 0) s e i v (omega arith) c.1))

-- two chains, one after the other
pub chain-both : (links : List ℕ) (h : ℕ) (xs ys : List ℕ) (m e : ℕ) → Chain links h xs m → Chain links m ys e → Chain links h (xs ++ ys) e
chain-both links h [] ys m e c d = rw (← c) at d
chain-both links h (x ∷ xs) ys m e c d = (c.0, chain-both links (get_or links x 0) xs ys m e c.1 d)

-- where a chain goes on from a list with an element
pub chain_same : (links : List ℕ) (h k : ℕ) (ys : List ℕ) (e : ℕ) → Chain links h ys e → Chain links k ys e → h ≡ k
chain_same links h k [] e c d = c ∙ sym d
chain_same links h k (y ∷ ys) e c d = c.0 ∙ sym d.0

-- the first part of a chain ends where the second begins
pub chain_first : (links : List ℕ) (h : ℕ) (xs ys : List ℕ) (m e : ℕ) → Chain links h (xs ++ ys) e → Chain links m ys e → Chain links h xs m
chain_first links h [] ys m e c d = chain_same links h m ys e c d
chain_first links h (x ∷ xs) ys m e c d = (c.0, chain_first links (get_or links x 0) xs ys m e c.1 d)

-- where a chain goes on behind its first part
pub chain-behind : (links : List ℕ) (head h d : ℕ) (xs ys : List ℕ) (e : ℕ) → ((z : ℕ) → 1 ≤ occ z xs → z < 64) → h ≡ behind links head d
    → Chain links h (xs ++ ys) e → Chain links (behind links head (last_or d xs)) ys e
chain-behind links head h d [] ys e b q c = rw q at c
chain-behind links head h d (x ∷ xs) ys e b q c =
    chain-behind links head (get_or links x 0) x xs ys e (λ z o. b z (omega arith)) (rw (lt-ltb x 64 (b x (omega (arith, hit_same x))))) c.1

-- the last link of a chain, or the head, turned elsewhere
turned : (links : List ℕ) (h x : ℕ) (xs : List ℕ) (m to : ℕ) → last_or x xs < length links → ((z : ℕ) → occ z (x ∷ xs) ≤ 1) → Chain links h (x ∷ xs) m
    → Chain (set links (last_or x xs) to) h (x ∷ xs) to
turned links h x [] m to l o c = (c.0, get_or-set_same links x to 0 l)
turned links h x (y ∷ xs) m to l o c =
    let n : x ≡ last_or y xs → ⊥ = λ q. omega (arith, subst (λ (z : ℕ). 1 ≤ occ z (y ∷ xs)) (sym q) (occ-last y xs), o x, hit_same x) in
    (c.0, rw (get_or-set_other links (last_or y xs) x to 0 n) (turned links (get_or links x 0) y xs m to l (λ z. omega (arith, o z)) c.1))

pub join-chain : (links : List ℕ) (h : ℕ) (xs : List ℕ) (m to : ℕ) → length links ≡ 64 → ((z : ℕ) → 1 ≤ occ z xs → z < 64) → ((z : ℕ) → occ z xs ≤ 1)
    → Chain links h xs m → Chain (join_links links (last_or 64 xs) to) (join_head h (last_or 64 xs) to) xs to
join-chain links h [] m to w b o c = refl
join-chain links h (x ∷ xs) m to w b o c =
    let l : last_or x xs < 64 = b (last_or x xs) (occ-last x xs) in
    let same : join_links links (last_or x xs) to ≡ set links (last_or x xs) to = rw (lt-ltb (last_or x xs) 64 l) in
    let head : join_head h (last_or x xs) to ≡ h = rw (lt-ltb (last_or x xs) 64 l) in
    subst
    (λ (a : List ℕ). Chain a (join_head h (last_or x xs) to) (x ∷ xs) to)
    (sym same)
    (subst (λ (k : ℕ). Chain (set links (last_or x xs) to) k (x ∷ xs) to) (sym head) (turned links h x xs m to (omega arith) o c))

-- and what is not in the first part stays
pub join-frame : (links : List ℕ) (h : ℕ) (xs ys : List ℕ) (e to : ℕ) → ((z : ℕ) → 1 ≤ occ z xs → z < 64) → ((z : ℕ) → occ z xs + occ z ys ≤ 1)
    → Chain links h ys e → Chain (join_links links (last_or 64 xs) to) h ys e
join-frame links h [] ys e to b o c = c
join-frame links h (x ∷ xs) ys e to b o c =
    let l : last_or x xs < 64 = b (last_or x xs) (occ-last x xs) in
    rw (lt-ltb (last_or x xs) 64 l) (chain-frame links h ys e (last_or x xs) to (omega (arith, occ-last x xs, o (last_or x xs))) c)

pub length-join : (links : List ℕ) (p to : ℕ) → length (join_links links p to) ≡ length links
length-join links p to = go (ltb p 64)
  where
    go : (b : Bool) → length (cond b (set links p to) links) ≡ length links
    go true = simp length-set
    go false = refl

-- ---- the segments at slots

pub segs-append : (g : List Segment) (xs ys : List ℕ) → segs_at g (xs ++ ys) ≡ segs_at g xs ++ segs_at g ys
segs-append g [] ys = refl
segs-append g (x ∷ xs) ys = ap (λ l. get_or g x no_segment ∷ l) (segs-append g xs ys)

pub segs-frame : (g : List Segment) (xs : List ℕ) (i : ℕ) (s : Segment) → occ i xs ≡ 0 → segs_at (set g i s) xs ≡ segs_at g xs
segs-frame g [] i s o = refl
segs-frame g (x ∷ xs) i s o =
    rw (get_or-set_other g i x s no_segment (λ q. hit-apart i x (omega arith) (sym q)), segs-frame g xs i s (omega arith))

pub length-segs : (g : List Segment) (xs : List ℕ) → length (segs_at g xs) ≡ length xs
length-segs g [] = refl
length-segs g (x ∷ xs) = ap suc (length-segs g xs)

pub good-append : (ss ts : List Segment) → AllGood ss → AllGood ts → AllGood (ss ++ ts)
good-append [] ts g h = h
good-append (s ∷ ss) ts g h = (g.0, good-append ss ts g.1 h)

pub good-parts : (ss ts : List Segment) → AllGood (ss ++ ts) → AllGood ss × AllGood ts
good-parts [] ts g = (tt, g)
good-parts (s ∷ ss) ts g = let b = good-parts ss ts g.1 in ((g.0, b.0), b.1)

-- two lists that are one after the other the same, the first of one length
pub append-parts : (xs ys zs ws : List Segment) → length xs ≡ length zs → xs ++ ys ≡ zs ++ ws → (xs ≡ zs) × (ys ≡ ws)
append-parts [] ys [] ws l e = (refl, e)
append-parts [] ys (z ∷ zs) ws l e = absurd (omega arith)
append-parts (x ∷ xs) ys [] ws l e = absurd (omega arith)
append-parts (x ∷ xs) ys (z ∷ zs) ws l e =
    let h = heads (xs ++ ys) (zs ++ ws) e in
    let p = append-parts xs ys zs ws (omega arith) h.1 in (ap₂ ◌∷◌ h.0 p.0, p.1)
  where
    heads : (ps qs : List Segment) → x ∷ ps ≡ z ∷ qs → (x ≡ z) × (ps ≡ qs)
    heads ps qs e = (cc, cc)

-- ---- following the links gives the list

pub follows : (f : ℕ) (links : List ℕ) (h : ℕ) (s : List ℕ) → length s ≤ f → ((z : ℕ) → 1 ≤ occ z s → z < 64) → Chain links h s 64 → follow f links h ≡ s
follows zero links h [] l i c = refl
follows zero links h (x ∷ s) l i c = absurd (omega arith)
follows (suc f) links h [] l i c = rw (le-ltb h 64 (omega arith))
follows (suc f) links h (x ∷ s) l i c =
    rw (c.0, lt-ltb x 64 (i x (omega (arith, hit_same x))), follows f links (get_or links x 0) s (omega arith) (λ z o. i z (omega arith)) c.1)

pub ahead-is : (links : List ℕ) (h : ℕ) (s : List ℕ) → length s ≤ 64 → ((z : ℕ) → 1 ≤ occ z s → z < 64) → Chain links h s 64 → ahead links h ≡ length s
unfolding ahead
ahead-is links h s l i c = ap length (follows 64 links h s l i c)

-- ---- what a remapper's parts say

-- each slot is free or counted
pub grown-rest : (n : ℕ) (links : List ℕ) (list : FreeList) (calls : List FreeListCall) → Grown n links list calls → length (after n calls) + list.count ≡ n
grown-rest n links list calls g = omega (arith, g.count, in-use-rest n calls)

-- what is free is a slot
pub part-below : (xs fs : List ℕ) (v : ℕ) → occ v xs + occ v fs ≡ cond (ltb v 64) 1 0 → 1 ≤ occ v fs → v < 64
part-below xs fs v e p = go (dec_lt v 64)
  where
    go : Dec (v < 64) → v < 64
    go (yes h) = h
    go (no h) = let q : occ v xs + occ v fs ≡ 0 = e ∙ rw (le-ltb v 64 (omega arith)) in absurd (omega arith)

module _ (r : Remapper) (xs : List ℕ) (o : Owns r xs) where
  pub own-once : (z : ℕ) → occ z xs + occ z (after 64 o.calls) ≤ 1
  own-once z = omega (arith, o.parts z, below_one z 64)

  pub own_below : (z : ℕ) → 1 ≤ occ z xs → z < 64
  own_below z p = go (dec_lt z 64)
    where
      go : Dec (z < 64) → z < 64
      go (yes h) = h
      go (no h) =
          let q : occ z xs + occ z (after 64 o.calls) ≡ 0 = o.parts z ∙ rw (le-ltb z 64 (omega arith)) in
          absurd (omega arith)

  pub own-small : length xs ≤ 64
  own-small = omega (arith, o.room, grown-rest 64 r.free r.list o.calls o.grown)

-- ---- the empty remapper

occ-low : (z k m : ℕ) → z < k → occ z (up_from k m) ≡ 0
occ-low z k zero l = refl
occ-low z k (suc m) l = omega (arith, hit_other z k (λ q. omega arith), occ-low z (suc k) m (omega arith))

occ-in : (z k m : ℕ) → k ≤ z → occ z (up_from k m) ≡ cond (ltb z (k + m)) 1 0
occ-in z k zero l = rw (le-ltb z (k + 0) (omega arith))
occ-in z k (suc m) l = go (ℕ_discrete z k) (occ-in z (suc k) m)
  where
    go : Dec (z ≡ k) → (suc k ≤ z → occ z (up_from (suc k) m) ≡ cond (ltb z (suc k + m)) 1 0) → hit z k + occ z (up_from (suc k) m) ≡ cond (ltb z (k + suc m)) 1 0
    go (yes q) ih =
        rw (lt-ltb z (k + suc m) (omega arith)) (omega (arith, ap (hit z) (sym q), hit_same z, occ-low z (suc k) m (omega arith)))
    go (no q) ih =
        let e : suc k + m ≡ k + suc m = omega arith in
        omega (arith, hit_other z k q, rw e at (ih (omega arith)))

fresh-parts : (n z : ℕ) → 0 + occ z (up_from 0 n) ≡ cond (ltb z n) 1 0
fresh-parts n z = let e : 0 + n ≡ n = omega arith in omega (arith, rw e at (occ-in z 0 n (omega arith)))

pub fresh : (segments : List Segment) (links free : List ℕ) (list : FreeList) → length segments ≡ 64 → length links ≡ 64 → Grown 64 free list []
    → Holds (record { segments = segments; links = links; free = free; list = list; head = 64 }) []
fresh segments links frees list a b g =
    record {
      slots = [];
      owns = record {
        wide = a;
        size = b;
        chain = refl;
        calls = [];
        grown = g;
        parts = λ z. fresh-parts 64 z;
        room = sym (g.count ∙ none-used 64);
      };
      read = refl;
      good = tt;
    }
