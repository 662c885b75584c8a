-- Laws of the stack of free slots, of the array that holds it, and of the slots in use.
use Prim.Native.Nat.{ℕ, zero, suc, ◌+◌, ◌-◌, ◌<◌, ◌≤◌}
use mathlib.Core.Path.{◌≡◌, refl, sym, ap, ◌∙◌}
use mathlib.Core.List.{List, [], ◌∷◌, ◌++◌, append-nil}
use mathlib.Core.Bool.{Bool, true, false, not, cond, ◌&&◌, ◌||◌}
use native.Mathlib.Omega.{arith}
use native.Mathlib.Numerals.{add-one}
use native.Mathlib.Decide.{ℕ_discrete}
use lib.ListN.{length, get_or, set, replicate, length-set, length-replicate, get_or-replicate}
use lib.Seq.{get_or-set_same, get_or-set_other, set-set, set-get_or}
use lib.Dec.{ltb, leb, eqb}
use borrow.Author.Tests.{ltb-true, eqb-true, eqb-false, ne_eqb, eq-eqb, not-true, le-leb, lt-leb}
use Rattle.free_list.specs.Stack.{FreeListCall, allocate, free, up_from, has, freeable, step, run, after, used_from, used}
use Rattle.free_list.specs.Grown.{head_of, links_of, first_of, first_cursor, next_used, next_from}
use Rattle.free_list.specs.declared.FreeListIterator.{FreeListIterator}
use Rattle.std.specs.Prelude.{Some, None}

-- ---- tests

or-false : (a b : Bool) → (a || b) ≡ false → (a ≡ false) × (b ≡ false)
or-false true b e = let z : ◌≡◌ {A = ℕ} 0 1 = cc in absurd (omega arith)
or-false false b e = (refl, e)

and-true : (a b : Bool) → (a && b) ≡ true → (a ≡ true) × (b ≡ true)
and-true true b e = (refl, e)
and-true false b e = let z : ◌≡◌ {A = ℕ} 0 1 = cc in absurd (omega arith)

-- ---- the stack holds slots, each once

abbrev pub Good : ℕ → List ℕ → Type 0
Good n [] = Unit {0}
Good n (x ∷ s) = (x < n) × (has x s ≡ false) × Good n s

has-up_from : (i k m : ℕ) → i < k → has i (up_from k m) ≡ false
has-up_from i k zero h = refl
has-up_from i k (suc m) h = rw (ne_eqb i k (λ q. omega arith)) (has-up_from i (suc k) m (omega arith))

good-up_from : (n k m : ℕ) → k + m ≤ n → Good n (up_from k m)
good-up_from n k zero h = tt
good-up_from n k (suc m) h = (omega arith, has-up_from k (suc k) m (omega arith), good-up_from n (suc k) m (omega arith))

good-free : (n i : ℕ) (s : List ℕ) (b : Bool) → freeable n s i ≡ b → Good n s → Good n (cond b (i ∷ s) s)
good-free n i s true e g =
    let p = and-true (ltb i n) (not (has i s)) e in
    (ltb-true i n p.0, not-true (has i s) p.1, g)
good-free n i s false e g = g

good-step : (n : ℕ) (s : List ℕ) (c : FreeListCall) → Good n s → Good n (step n s c)
good-step n [] allocate g = tt
good-step n (x ∷ s) allocate g = g.2
good-step n s (free i) g = good-free n i s (freeable n s i) refl g

good-run : (n : ℕ) (s : List ℕ) (cs : List FreeListCall) → Good n s → Good n (run n s cs)
good-run n s [] g = g
good-run n s (c ∷ cs) g = good-run n (step n s c) cs (good-step n s c g)

pub good-after : (n : ℕ) (cs : List FreeListCall) → Good n (after n cs)
good-after n cs = good-run n (up_from 0 n) cs (good-up_from n 0 n (omega arith))

-- no number past the slots is in it
pub above : (n i : ℕ) (s : List ℕ) → Good n s → n ≤ i → has i s ≡ false
above n i [] g l = refl
above n i (x ∷ s) g l = let h : x < n = g.0 in rw (ne_eqb i x (λ q. omega arith)) (above n i s g.2 l)

run-snoc : (n : ℕ) (s : List ℕ) (cs : List FreeListCall) (c : FreeListCall) → run n s (cs ++ (c ∷ [])) ≡ step n (run n s cs) c
run-snoc n s [] c = refl
run-snoc n s (d ∷ cs) c = run-snoc n (step n s d) cs c

-- the last call is made on what the others left
pub after-snoc : (n : ℕ) (cs : List FreeListCall) (c : FreeListCall) → after n (cs ++ (c ∷ [])) ≡ step n (after n cs) c
after-snoc n cs c = run-snoc n (up_from 0 n) cs c

-- ---- the array of a stack

pub length-links : (n : ℕ) (s : List ℕ) → length (links_of n s) ≡ n
length-links n [] = length-replicate n (n + 1)
length-links n (x ∷ s) = simp length-set (length-links n s)

head-le : (n : ℕ) (s : List ℕ) → Good n s → head_of n s ≤ n
head-le n [] g = omega arith
head-le n (x ∷ s) g = omega arith

-- a slot in use is marked
marked : (n i : ℕ) (s : List ℕ) → i < n → has i s ≡ false → get_or (links_of n s) i 0 ≡ n + 1
marked n i [] l e = get_or-replicate n i (n + 1) 0 l
marked n i (x ∷ s) l e =
    let p = or-false (eqb i x) (has i s) e in
    get_or-set_other (links_of n s) x i (head_of n s) 0 (eqb-false i x p.0) ∙ marked n i s l p.1

-- a free slot is linked
linked : (n i : ℕ) (s : List ℕ) → Good n s → has i s ≡ true → get_or (links_of n s) i 0 ≤ n
linked n i [] g e = let z : ◌≡◌ {A = ℕ} 0 1 = cc in absurd (omega arith)
linked n i (x ∷ s) g e = go (eqb i x) refl (linked n i s g.2)
  where
    go : (b : Bool) → eqb i x ≡ b → (has i s ≡ true → get_or (links_of n s) i 0 ≤ n) → get_or (set (links_of n s) x (head_of n s)) i 0 ≤ n
    go true q h =
        rw (eqb-true i x q, get_or-set_same (links_of n s) x (head_of n s) 0 (rw length-links g.0)) (head-le n s g.2)
    go false q h = rw (get_or-set_other (links_of n s) x i (head_of n s) 0 (eqb-false i x q)) (h (rw q at e))

-- so the array tells which slots are free
pub told : (n i : ℕ) (s : List ℕ) → Good n s → i < n → leb (get_or (links_of n s) i 0) n ≡ has i s
told n i s g l = go (has i s) refl
  where
    go : (b : Bool) → has i s ≡ b → leb (get_or (links_of n s) i 0) n ≡ b
    go true e = le-leb _ n (linked n i s g e)
    go false e = lt-leb _ n (omega (arith, marked n i s l e))

-- popping the top: its mark makes the array of what is left
pub pop : (n x : ℕ) (s : List ℕ) → Good n (x ∷ s) → set (links_of n (x ∷ s)) x (n + 1) ≡ links_of n s
pop n x s g =
    set-set (links_of n s) x (head_of n s) (n + 1)
    ∙ ap (λ (v : ℕ). set (links_of n s) x v) (sym (marked n x s g.0 g.1))
    ∙ set-get_or (links_of n s) x 0

-- ---- all slots free

pub head-up_from : (n k m : ℕ) → k + m ≡ n → head_of n (up_from k m) ≡ k
head-up_from n k zero e = omega arith
head-up_from n k (suc m) e = refl

set-rep : (k v h : ℕ) (u : List ℕ) → set (replicate (suc k) v ++ u) k h ≡ replicate k v ++ (h ∷ u)
set-rep zero v h u = refl
set-rep (suc k) v h u = ap (λ (l : List ℕ). v ∷ l) (set-rep k v h u)

links-up_from : (n k m : ℕ) → k + m ≡ n → links_of n (up_from k m) ≡ replicate k (n + 1) ++ up_from (suc k) m
links-up_from n k zero e = let q : n ≡ k = omega arith in rw (append-nil, q)
links-up_from n k (suc m) e =
    let q : suc k + m ≡ n = omega arith in
    rw (links-up_from n (suc k) m q, head-up_from n (suc k) m q) (set-rep k (n + 1) (suc k) (up_from (suc (suc k)) m))

pub links-fresh : (n : ℕ) → links_of n (up_from 0 n) ≡ up_from 1 n
links-fresh n = links-up_from n 0 n (omega arith)

pub up_from-snoc : (k m : ℕ) → up_from k (suc m) ≡ up_from k m ++ ((k + m) ∷ [])
up_from-snoc k zero = let q : k + 0 ≡ k = omega arith in rw q
up_from-snoc k (suc m) =
    let q : suc k + m ≡ k + suc m = omega arith in
    ap (λ (l : List ℕ). k ∷ l) (rw q at (up_from-snoc (suc k) m))

length-up_from : (k m : ℕ) → length (up_from k m) ≡ m
length-up_from k zero = refl
length-up_from k (suc m) = ap suc (length-up_from (suc k) m)

-- ---- how many slots are in use: as many as are not in the stack

used-empty : (k m : ℕ) → length (used_from k m []) ≡ m
used-empty k zero = refl
used-empty k (suc m) = ap suc (used-empty (suc k) m)

used-below : (k m x : ℕ) (s : List ℕ) → x < k → used_from k m (x ∷ s) ≡ used_from k m s
used-below k zero x s l = refl
used-below k (suc m) x s l = rw (ne_eqb k x (λ q. omega arith), used-below (suc k) m x s (omega arith))

-- one more in the stack is one less in use
used-push : (k m x : ℕ) (s : List ℕ) → k ≤ x → x < k + m → has x s ≡ false → suc (length (used_from k m (x ∷ s))) ≡ length (used_from k m s)
used-push k zero x s l h e = absurd (omega arith)
used-push k (suc m) x s l h e = go (ℕ_discrete k x) (used-push (suc k) m x s)
  where
    both : (b : Bool) (u v : List ℕ) → suc (length u) ≡ length v → suc (length (cond b u (k ∷ u))) ≡ length (cond b v (k ∷ v))
    both true u v i = i
    both false u v i = ap suc i

    go : Dec (k ≡ x) → (suc k ≤ x → x < suc k + m → has x s ≡ false → suc (length (used_from (suc k) m (x ∷ s))) ≡ length (used_from (suc k) m s))
        → suc (length (used_from k (suc m) (x ∷ s))) ≡ length (used_from k (suc m) s)
    go (yes q) i = rw (eq-eqb k x q, q, e, used-below (suc x) m x s (omega arith))
    go (no q) i = rw (ne_eqb k x q) (both (has k s) _ _ (i (omega arith) (omega arith) e))

pub one_less : (n x : ℕ) (s : List ℕ) → Good n (x ∷ s) → suc (length (used n (x ∷ s))) ≡ length (used n s)
one_less n x s g = used-push 0 n x s (omega arith) (omega (arith, g.0)) g.1

good-rest : (n : ℕ) (s : List ℕ) → Good n s → length s + length (used n s) ≡ n
good-rest n [] g = omega (arith, used-empty 0 n)
good-rest n (x ∷ s) g = omega (arith, one_less n x s g, good-rest n s g.2)

-- each slot is either free or in use
pub in-use-rest : (n : ℕ) (cs : List FreeListCall) → length (after n cs) + length (used n (after n cs)) ≡ n
in-use-rest n cs = good-rest n (after n cs) (good-after n cs)

pub none-used : (n : ℕ) → length (used n (up_from 0 n)) ≡ 0
none-used n = omega (arith, in-use-rest n [], length-up_from 0 n)

-- none is free exactly where all n are in use
pub full-iff : (n : ℕ) (cs : List FreeListCall) → (after n cs ≡ [] → length (used n (after n cs)) ≡ n) × (length (used n (after n cs)) ≡ n → after n cs ≡ [])
full-iff n cs = (λ e. omega (arith, in-use-rest n cs, ap length e), λ e. none (after n cs) (omega (arith, in-use-rest n cs)))
  where
    none : (s : List ℕ) → length s ≡ 0 → s ≡ []
    none [] e = refl
    none (x ∷ s) e = absurd (omega arith)

-- ---- the cursor

-- the slots in use from k up: by whether k is
pub used_step : (n k : ℕ) (s : List ℕ) → k < n
    → used_from k (n - k) s ≡ cond (has k s) (used_from (k + 1) (n - (k + 1)) s) (k ∷ used_from (k + 1) (n - (k + 1)) s)
used_step n k s l = let e : n - k ≡ suc (n - (k + 1)) = omega arith in rw (e, add-one k)

pub used-end : (n k : ℕ) (s : List ℕ) → n ≤ k → used_from k (n - k) s ≡ []
used-end n k s l = let e : n - k ≡ 0 = omega arith in rw e

-- what is known of the first slot in use from somewhere up, and of those behind it
pub record First (n x : ℕ) (s xs : List ℕ) : Type 0 where
  pub below : x < n
  pub busy : has x s ≡ false
  pub behind : xs ≡ used_from (x + 1) (n - (x + 1)) s

pub used-first : (n m k x : ℕ) (s xs : List ℕ) → m ≡ n - k → used_from k m s ≡ x ∷ xs → First n x s xs
used-first n zero k x s xs q e = let z : ◌≡◌ {A = ℕ} 0 1 = cc in absurd (omega arith)
used-first n (suc m) k x s xs q e = go (has k s) refl e (used-first n m (suc k) x s xs (omega arith))
  where
    go : (b : Bool) → has k s ≡ b → cond b (used_from (suc k) m s) (k ∷ used_from (suc k) m s) ≡ x ∷ xs
        → (used_from (suc k) m s ≡ x ∷ xs → First n x s xs) → First n x s xs
    go true h d i = i d
    go false h d i =
        let y : k ≡ x = cc in
        let t : used_from (suc k) m s ≡ xs = cc in
        let a : suc k ≡ x + 1 = omega arith in
        let r : m ≡ n - (x + 1) = omega arith in
        record { below = omega arith; busy = rw y at h; behind = sym t ∙ rw (a, r) }

-- what the cursor c comes to, of n slots with the stack s of free ones, when it is stepped until the end
pub data Visits (n : ℕ) (s : List ℕ) : FreeListIterator → List ℕ → Type 0 where
  end : {c : FreeListIterator} → next_from n s c ≡ (None, c) → Visits n s c []
  more : {c d : FreeListIterator} {x : ℕ} {xs : List ℕ} → next_from n s c ≡ (Some x, d) → Visits n s d xs → Visits n s c (x ∷ xs)

visits : (n : ℕ) (s xs : List ℕ) (k : ℕ) → used_from k (n - k) s ≡ xs → Visits n s (record { next = k }) xs
visits n s [] k e = end (ap (λ (t : List ℕ). next_used t (record { next = k })) e)
visits n s (x ∷ xs) k e = more (ap (λ (t : List ℕ). next_used t (record { next = k })) e) (visits n s xs (x + 1) (sym (used-first n (n - k) k x s xs refl e).behind))

-- from the first cursor it comes to each slot in use once, in rising order
pub iterates : (n : ℕ) (s : List ℕ) → Visits n s first_cursor (used n s)
iterates n s = visits n s (used n s) 0 (let e : n - 0 ≡ n = omega arith in rw e)

-- ---- what the calls hand out and take are slots

pub first_fits : (n : ℕ) (cs : List FreeListCall) (i : ℕ) → first_of (after n cs) ≡ Some i → i < n
first_fits n cs i e = go (after n cs) (good-after n cs) e
  where
    go : (s : List ℕ) → Good n s → first_of s ≡ Some i → i < n
    go [] g q = absurd (let z : ◌≡◌ {A = ℕ} 0 1 = cc in omega arith)
    go (x ∷ s) g q = let y : x ≡ i = cc in omega arith

pub freed-fits : (n i : ℕ) (s : List ℕ) → freeable n s i ≡ true → i < n
freed-fits n i s e = ltb-true i n (and-true (ltb i n) (not (has i s)) e).0

pub next_fits : (n : ℕ) (s : List ℕ) (c : FreeListIterator) (i : ℕ) → (next_from n s c).0 ≡ Some i → i < n
next_fits n s c i e = go (used_from c.next (n - c.next) s) refl e
  where
    go : (xs : List ℕ) → used_from c.next (n - c.next) s ≡ xs → (next_used xs c).0 ≡ Some i → i < n
    go [] u q = absurd (let z : ◌≡◌ {A = ℕ} 0 1 = cc in omega arith)
    go (x ∷ xs) u q = let y : x ≡ i = cc in omega (arith, (used-first n (n - c.next) c.next x s xs refl u).below)
