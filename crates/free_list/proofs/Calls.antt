-- What each call does to the array and the struct, at the very arrays that the code makes: the proofs of the functions cite these.
use Prim.Native.Nat.{ℕ, suc, ◌+◌, ◌-◌, ◌<◌, ◌≤◌}
use mathlib.Core.Path.{◌≡◌, refl, sym, ap, ◌∙◌}
use mathlib.Core.List.{List, [], ◌∷◌, ◌++◌}
use mathlib.Core.Bool.{Bool, true, false, and-false}
use native.Mathlib.Omega.{arith}
use native.Mathlib.Numerals.{add-one}
use lib.ListN.{length, get_or, set, take}
use lib.Seq.{get_or-set_same, take-suc-set, take_all}
use lib.Dec.{leb}
use borrow.Author.Tests.{lt-ltb, le-ltb, le-leb, lt-leb}
use Rattle.free_list.specs.Stack.{FreeListCall, allocate, free, up_from, has, freeable, rest, step, after, used_from, used}
use Rattle.free_list.specs.Grown.{head_of, links_of, first_of, Grown, IsGrown, Allocates, Frees, next_from}
use Rattle.free_list.specs.declared.FreeList.{FreeList}
use Rattle.free_list.specs.declared.FreeListIterator.{FreeListIterator}
use Rattle.std.specs.Prelude.{Option, Some, None}
use Rattle.free_list.proofs.Laws.{Good, good-after, after-snoc, length-links, above, told, pop, links-fresh, head-up_from, up_from-snoc, one_less, in-use-rest, none-used, used_step, used-end}

-- one more slot is linked to the next number
pub filled : (links : List ℕ) (i : ℕ) → i < length links → take i links ≡ up_from 1 i → take (i + 1) (set links i (i + 1)) ≡ up_from 1 (i + 1)
filled links i l e =
    let q : 1 + i ≡ i + 1 = omega arith in
    rw (add-one i, take-suc-set links i (suc i), e) (rw (q, add-one i) at (sym (up_from-snoc 1 i)))

-- all are: no call was made
pub fresh : (n i : ℕ) (links : List ℕ) → i ≡ n → length links ≡ n → take i links ≡ up_from 1 i → Grown n links (record { head = 0; count = 0 }) []
fresh n i links q z e =
    record {
      size = z;
      array = sym (take_all i links (omega arith)) ∙ e ∙ ap (up_from 1) q ∙ sym (links-fresh n);
      head = sym (head-up_from n 0 n (omega arith));
      count = sym (none-used n);
    }

-- where no call was made there is but this struct
pub fresh-list : (n : ℕ) (links : List ℕ) (list : FreeList) → Grown n links list [] → list ≡ record { head = 0; count = 0 }
fresh-list n links list g =
    let h : list.head ≡ 0 = g.head ∙ head-up_from n 0 n (omega arith) in
    let c : list.count ≡ 0 = g.count ∙ none-used n in
    λ i. record { head = h i; count = c i }

module _ (n : ℕ) (calls : List FreeListCall) (links : List ℕ) (list : FreeList) (g : Grown n links list calls) where
  -- what holds the stack t that a call makes was grown by that call too
  changed : (call : FreeListCall) (t links' : List ℕ) (list' : FreeList) → step n (after n calls) call ≡ t
      → links' ≡ links_of n t → list'.head ≡ head_of n t → list'.count ≡ length (used n t) → Grown n links' list' (calls ++ (call ∷ []))
  changed call t links' list' e a h c =
      let s = sym (after-snoc n calls call ∙ e) in
      record {
        size = ap length a ∙ length-links n t;
        array = a ∙ ap (links_of n) s;
        head = h ∙ ap (head_of n) s;
        count = c ∙ ap (λ (u : List ℕ). length (used n u)) s;
      }

  unchanged : (call : FreeListCall) → step n (after n calls) call ≡ after n calls → Grown n links list (calls ++ (call ∷ []))
  unchanged call e = changed call (after n calls) links list e g.array g.head g.count

  -- no more are in use than there are slots
  pub few : list.count ≤ length links
  few = omega (arith, in-use-rest n calls)

  -- ---- what the array says of a slot

  pub no_slot : (i : ℕ) → length links ≤ i → has i (after n calls) ≡ false
  no_slot i l = above n i (after n calls) (good-after n calls) (omega arith)

  pub slot : (i : ℕ) → i < length links → leb (get_or links i 0) (length links) ≡ has i (after n calls)
  slot i l =
      rw (g.size, g.array) (told n i (after n calls) (good-after n calls) (omega arith))

  -- ---- allocate

  -- a head that is a slot is the top of the stack
  top : list.head < length links → (s : List ℕ) × (after n calls ≡ list.head ∷ s)
  top l = go (after n calls) g.head
    where
      go : (t : List ℕ) → list.head ≡ head_of n t → (s : List ℕ) × (t ≡ list.head ∷ s)
      go [] h = absurd (omega arith)
      go (x ∷ s) h = (s, cc)

  -- a head that is none says that the stack is empty
  bottom : length links ≤ list.head → after n calls ≡ []
  bottom l = go (after n calls) g.head (good-after n calls)
    where
      go : (t : List ℕ) → list.head ≡ head_of n t → Good n t → t ≡ []
      go [] h o = refl
      go (x ∷ s) h o = absurd (omega arith)

  pub allocates : list.head < length links
      → Allocates n calls links (set links list.head (length links + 1)) list
      (record { head = get_or links list.head 0; count = list.count + 1 }) (Some list.head)
  allocates l =
      let s = (top l).0 in
      let e : after n calls ≡ list.head ∷ s = (top l).1 in
      let o : Good n (list.head ∷ s) = rw e at (good-after n calls) in
      let a : links ≡ links_of n (list.head ∷ s) = g.array ∙ ap (links_of n) e in
      record {
        answer = sym (ap first_of e);
        grown =
            changed allocate s _ _ (ap rest e)
            (cc (pop n list.head s o))
            (cc (get_or-set_same (links_of n s) list.head (head_of n s) 0 (rw length-links o.0)))
            (omega (arith, one_less n list.head s o, ap (λ (t : List ℕ). length (used n t)) e));
        kept = λ q. absurd (let y : ◌≡◌ {A = ℕ} 0 1 = cc in omega arith);
      }

  pub allocates-none : length links ≤ list.head → Allocates n calls links links list list None
  allocates-none l =
      let e : after n calls ≡ [] = bottom l in
      record {
        answer = sym (ap first_of e);
        grown = unchanged allocate (ap rest e ∙ sym e);
        kept = λ q. record { array = refl; struct = refl };
      }

  -- ---- free

  module _ (idx : ℕ) where
    -- a slot that cannot be freed: nothing changes
    refused : freeable n (after n calls) idx ≡ false → Frees n calls idx links links list list false
    refused e = record { answer = sym e; grown = unchanged (free idx) (rw e); kept = λ q. record { array = refl; struct = refl } }

    pub frees-no-slot : length links ≤ idx → Frees n calls idx links links list list false
    frees-no-slot l = refused (rw (le-ltb idx n (omega arith)))

    pub frees-twice : idx < length links → get_or links idx 0 ≤ length links → Frees n calls idx links links list list false
    frees-twice l v = refused (rw (sym (slot idx l) ∙ le-leb _ _ v, and-false))

    module _ (l : idx < length links) (v : length links < get_or links idx 0) where
      pushed : Good n (idx ∷ after n calls)
      pushed = (omega arith, sym (slot idx l) ∙ lt-leb _ _ v, good-after n calls)

      -- so some slot is in use
      pub some-used : 1 ≤ list.count
      some-used = omega (arith, one_less n idx (after n calls) pushed)

      pub frees : Frees n calls idx links (set links idx list.head) list (record { head = idx; count = list.count - 1 }) true
      frees =
          let f : freeable n (after n calls) idx ≡ true = rw (pushed.1, lt-ltb idx n pushed.0) in
          record {
            answer = sym f;
            grown = changed (free idx) (idx ∷ after n calls) _ _ (rw f) (cc) refl (omega (arith, one_less n idx (after n calls) pushed));
            kept = λ q. absurd (let y : ◌≡◌ {A = ℕ} 0 1 = cc in omega arith);
          }

  -- ---- the cursor

  -- the slots in use from k up are those from the cursor c up: none between is in use
  module _ (k : ℕ) (c : FreeListIterator) (p : used_from k (n - k) (after n calls) ≡ used_from c.next (n - c.next) (after n calls)) where
    pub next-used : k < length links → has k (after n calls) ≡ false → (Some k, record { next = k + 1 }) ≡ next_from n (after n calls) c
    next-used l e = rw (sym p, used_step n k (after n calls) (omega arith), e)

    pub next-skip : k < length links → has k (after n calls) ≡ true
        → used_from (k + 1) (n - (k + 1)) (after n calls) ≡ used_from c.next (n - c.next) (after n calls)
    next-skip l e = rw (sym p, used_step n k (after n calls) (omega arith), e)

    pub next-end : length links ≤ k → (None, c) ≡ next_from n (after n calls) c
    next-end l = rw (sym p, used-end n k (after n calls) (omega arith))

-- none of the slots from k up to i is in use
abbrev pub Passed : List ℕ → FreeList → ℕ → ℕ → Type 0
Passed links list k i = (n : ℕ) (calls : List FreeListCall) → Grown n links list calls → used_from i (n - i) (after n calls) ≡ used_from k (n - k) (after n calls)

-- ---- for callers: what comes back is grown too

pub allocated-grown : {links links' : List ℕ} {list list' : FreeList} {r : Option ℕ} (p : IsGrown links list)
    → ((n : ℕ) (calls : List FreeListCall) → Grown n links list calls → Allocates n calls links links' list list' r) → IsGrown links' list'
allocated-grown p a = record { n = p.n; calls = p.calls ++ (allocate ∷ []); grown = (a p.n p.calls p.grown).grown }

pub freed-grown : {links links' : List ℕ} {list list' : FreeList} {idx : ℕ} {done : Bool} (p : IsGrown links list)
    → ((n : ℕ) (calls : List FreeListCall) → Grown n links list calls → Frees n calls idx links links' list list' done) → IsGrown links' list'
freed-grown {idx = idx} p a = record { n = p.n; calls = p.calls ++ (free idx ∷ []); grown = (a p.n p.calls p.grown).grown }
