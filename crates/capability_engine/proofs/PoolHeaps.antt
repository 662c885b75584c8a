-- The arena's free slots, walked from its head: they are the stack that its calls made.
use Prim.Native.Nat.{ℕ, ◌+◌, ◌≤◌, ◌<◌}
use mathlib.Core.Path.{◌≡◌, refl, sym, ap, ◌∙◌, subst}
use mathlib.Core.Bool.{Bool, true, false, ◌||◌}
use mathlib.Core.List.{List, [], ◌∷◌, ◌++◌, map}
use native.Mathlib.Omega.{arith}
use lib.ListN.{get_or, length}
use lib.Seq.{get_or-set_same}
use lib.Dec.{eqb}
use borrow.Author.Tests.{lt-ltb}
use Rattle.free_list.specs.Stack.{has, freeable, after as list·after}
use Rattle.free_list.specs.Grown.{head_of, links_of, first_of}
use Rattle.free_list.proofs.Laws.{Good, good-after, length-links, in-use-rest}
use Rattle.gen_arena.specs.Arena.{ArenaCall, allocate, free, list_call, after, made_of}
use Rattle.gen_arena.specs.Grown.{GrownArena, IsArena, AllocatesHandle, FreesHandle}
use Rattle.gen_arena.specs.declared.GenArena.{GenArena}
use Rattle.gen_arena.specs.declared.Handle.{Handle}
use Rattle.std.specs.Prelude.{Option, Some, None}
use Rattle.gen_arena.proofs.Laws.{after-snoc, slots-after}
use Rattle.definitions.specs.Tests.{bit}
use Rattle.capability_engine.specs.PoolChain.{Seg, cnt, slots}
use Rattle.capability_engine.specs.PoolOwn.{Heap, heap, IsHeap, free_of, linked, unlinked, Popped, Pushed, CanInsert, Inserts, CanRemove, Removes}
use Rattle.capability_engine.proofs.PoolLinks.{walk-seg, bit-same, bit-other, seg-set}

-- ---- how often a slot is in the stack

pub has-none : (i : ℕ) (s : List ℕ) → cnt i s ≡ 0 → has i s ≡ false
has-none i [] e = refl
has-none i (x ∷ s) e = go (eqb i x) refl (has-none i s)
  where
    go : (b : Bool) → eqb i x ≡ b → (cnt i s ≡ 0 → has i s ≡ false) → (b || has i s) ≡ false
    go true d ih = absurd (let z : bit (eqb i x) ≡ 1 = ap bit d in omega arith)
    go false d ih = ih (omega arith)

pub none_has : (i : ℕ) (s : List ℕ) → has i s ≡ false → cnt i s ≡ 0
none_has i [] e = refl
none_has i (x ∷ s) e = go (eqb i x) refl (none_has i s) e
  where
    go : (b : Bool) → eqb i x ≡ b → (has i s ≡ false → cnt i s ≡ 0) → (b || has i s) ≡ false → bit (eqb i x) + cnt i s ≡ 0
    go true d ih h = absurd (let z : ◌≡◌ {A = ℕ} 0 1 = cc in omega arith)
    go false d ih h = let z : bit (eqb i x) ≡ 0 = ap bit d in omega (arith, ih h)

-- each slot once, and none past the slots
pub good-once : (n : ℕ) (s : List ℕ) → Good n s → (t : ℕ) → cnt t s ≤ 1
good-once n [] g t = omega arith
good-once n (x ∷ s) g t = go (eqb t x) refl (good-once n s g.2 t)
  where
    go : (b : Bool) → eqb t x ≡ b → cnt t s ≤ 1 → bit (eqb t x) + cnt t s ≤ 1
    go false d ih = let z : bit (eqb t x) ≡ 0 = ap bit d in omega arith
    go true d ih =
        let z : bit (eqb t x) ≡ 1 = ap bit d in
        let e : t ≡ x = borrow.Author.Tests.eqb-true t x d in
        let w : cnt t s ≡ 0 = rw e (none_has x s g.1) in omega arith

pub good-low : (n : ℕ) (s : List ℕ) → Good n s → (t : ℕ) → n ≤ t → cnt t s ≡ 0
good-low n [] g t l = refl
good-low n (x ∷ s) g t l =
    let h : x < n = g.0 in omega (arith, good-low n s g.2 t l, bit-other {t = t} {s = x} (λ e. omega arith))

-- ---- the links go through the stack

links-seg : (s : List ℕ) → Good 1024 s → Seg (links_of 1024 s) (head_of 1024 s) s 1024
links-seg [] g = refl
links-seg (x ∷ s) g = (
  refl,
  g.0,
  rw (get_or-set_same (links_of 1024 s) x (head_of 1024 s) 0 (rw length-links g.0))
      (seg-set (links_of 1024 s) x (head_of 1024 s) (head_of 1024 s) s 1024 (none_has x s g.1) (links-seg s g.2)),
)

module _ (fl : Heap) (calls : List ArenaCall) (g : GrownArena 1024 fl.links fl.gens fl.arena calls) where
  stack : list·after 1024 (map list_call calls) ≡ (after 1024 calls).slots
  stack = sym (slots-after 1024 calls)

  good : Good 1024 (after 1024 calls).slots
  good = subst (λ (s : List ℕ). Good 1024 s) stack (good-after 1024 (map list_call calls))

  few : length (after 1024 calls).slots ≤ 1024
  few = subst (λ (s : List ℕ). length s ≤ 1024) stack (omega (arith, in-use-rest 1024 (map list_call calls)))

  pub free-is : free_of fl ≡ (after 1024 calls).slots
  unfolding slots
  free-is =
      rw (g.list.array, g.list.head)
      (walk-seg _ 1024 _ _ (rw stack (links-seg (after 1024 calls).slots good)) (rw stack few)) ∙ stack

  pub free-low : (t : ℕ) → 1024 ≤ t → cnt t (free_of fl) ≡ 0
  free-low t l = rw free-is (good-low 1024 (after 1024 calls).slots good t l)

  pub free-once : (t : ℕ) → cnt t (free_of fl) ≤ 1
  free-once t = rw free-is (good-once 1024 (after 1024 calls).slots good t)

pub heap-arena : (links gens : List ℕ) (arena : GenArena) → IsHeap (heap links gens arena) → IsArena links gens arena
heap-arena links gens arena h = record { n = 1024; calls = h.calls; grown = h.grown }

-- ---- a slot is taken

made-first : (gens s : List ℕ) (h : Handle) → Some h ≡ made_of gens (first_of s) → (t : List ℕ) × (s ≡ h.idx ∷ t)
made-first gens [] h e = absurd (let z : ◌≡◌ {A = ℕ} 0 1 = cc in omega arith)
made-first gens (x ∷ s) h e = let w : h ≡ record { idx = x; generation = get_or gens x 0 } = cc in (s, rw w refl)

full-none : (gens s : List ℕ) → None ≡ made_of gens (first_of s) → s ≡ []
full-none gens [] e = refl
full-none gens (x ∷ s) e = absurd (let z : ◌≡◌ {A = ℕ} 0 1 = cc in omega arith)

module _ (links gens : List ℕ) (arena : GenArena) (h : IsHeap (heap links gens arena)) (links' : List ℕ) (arena' : GenArena) (r : Option Handle)
    (a : AllocatesHandle 1024 h.calls links links' gens arena arena' r) where
  pub taken : (x : Handle) → r ≡ Some x → Popped (heap links gens arena) x.idx (heap links' gens arena')
  taken x e =
      let s : List ℕ = (after 1024 h.calls).slots in
      let f = made-first (after 1024 h.calls).generations s x (sym e ∙ a.answer) in
      let g : free_of (heap links' gens arena') ≡ (after 1024 (h.calls ++ (allocate ∷ []))).slots = free-is (heap links' gens arena') _ a.grown in
      let st : (after 1024 (h.calls ++ (allocate ∷ []))).slots ≡ Rattle.free_list.specs.Stack.rest s = ap (λ (b : Rattle.gen_arena.specs.Arena.Arena). b.slots) (after-snoc 1024 h.calls allocate) in
      record {
        heap = record { calls = h.calls ++ (allocate ∷ []); grown = a.grown };
        free = free-is (heap links gens arena) h.calls h.grown ∙ f.1 ∙ ap (λ (t : List ℕ). x.idx ∷ t) (sym (g ∙ st ∙ ap Rattle.free_list.specs.Stack.rest f.1));
      }

  pub taken-low : (x : Handle) → r ≡ Some x → x.idx < 1024
  taken-low x e =
      let p = taken x e in
      elim (native.Mathlib.Decide.dec_lt x.idx 1024) [
        | yes q ↦ q
        | no q ↦ absurd (omega (arith, free-low (heap links gens arena) h.calls h.grown x.idx (omega arith), ap (cnt x.idx) p.free, bit-same x.idx))
      ]

  pub taken_not : r ≡ None → 1 ≤ length (free_of (heap links gens arena)) → ⊥
  taken_not e l =
      let n : (after 1024 h.calls).slots ≡ [] = full-none (after 1024 h.calls).generations _ (sym e ∙ a.answer) in
      omega (arith, ap length (free-is (heap links gens arena) h.calls h.grown ∙ n))

-- ---- a slot is given back

module _ (links gens : List ℕ) (arena : GenArena) (h : IsHeap (heap links gens arena)) (links' gens' : List ℕ) (x : Handle) (arena' : GenArena) (r : Bool)
    (a : FreesHandle 1024 h.calls x links links' gens gens' arena arena' r) where
  pub given_back : x.idx < 1024 → cnt x.idx (free_of (heap links gens arena)) ≡ 0 → Pushed (heap links gens arena) x.idx (heap links' gens' arena')
  given_back l z =
      let s : List ℕ = (after 1024 h.calls).slots in
      let fs = free-is (heap links gens arena) h.calls h.grown in
      let n : has x.idx s ≡ false = has-none x.idx s (rw fs at z) in
      let f : freeable 1024 s x.idx ≡ true = rw (lt-ltb x.idx 1024 l, n) in
      let g = free-is (heap links' gens' arena') _ a.grown in
      let st = ap (λ (b : Rattle.gen_arena.specs.Arena.Arena). b.slots) (after-snoc 1024 h.calls (free x)) in
      record {
        heap = record { calls = h.calls ++ (free x ∷ []); grown = a.grown };
        free = g ∙ st ∙ rw (f, fs);
      }

-- ---- the code's calls

module _ (next links gens : List ℕ) (arena : GenArena) (p : ℕ) (c : CanInsert next (heap links gens arena) p) (links' : List ℕ) (arena' : GenArena) (r : Option Handle)
    (a : (n : ℕ) (calls : List ArenaCall) → GrownArena n links gens arena calls → AllocatesHandle n calls links links' gens arena arena' r) where
  pub slot-low : (x : Handle) → r ≡ Some x → x.idx < 1024
  slot-low x e = taken-low links gens arena c.heap links' arena' r (a 1024 c.heap.calls c.heap.grown) x e

  pub inserts : (x : Handle) → r ≡ Some x → Inserts next (heap links gens arena) p x.idx (linked next p x.idx) (heap links' gens arena')
  inserts x e = record { link = refl; popped = taken links gens arena c.heap links' arena' r (a 1024 c.heap.calls c.heap.grown) x e }

  pub inserts-not : r ≡ None → (x : ℕ) → Inserts next (heap links gens arena) p x next (heap links' gens arena')
  inserts-not e x = absurd (taken_not links gens arena c.heap links' arena' r (a 1024 c.heap.calls c.heap.grown) e c.some)

pub removes : (next links gens : List ℕ) (arena : GenArena) (p : ℕ) (c : CanRemove next (heap links gens arena) p) (links' gens' : List ℕ) (g : ℕ) (arena' : GenArena) (r : Bool)
    → ((n : ℕ) (calls : List ArenaCall) → GrownArena n links gens arena calls → FreesHandle n calls (record { idx = get_or next p 0; generation = g }) links links' gens gens' arena arena' r)
    → Removes next (heap links gens arena) p (unlinked next p) (heap links' gens' arena')
removes next links gens arena p c links' gens' g arena' r a =
    record {
      link = refl;
      pushed = given_back links gens arena c.heap links' gens' _ arena' r (a 1024 c.heap.calls c.heap.grown) c.slot c.used;
    }

pub popped-low : (fl : Heap) (x : ℕ) (fl' : Heap) → IsHeap fl → Popped fl x fl' → x < 1024
popped-low fl x fl' h p =
    elim (native.Mathlib.Decide.dec_lt x 1024) [
      | yes q ↦ q
      | no q ↦ absurd (omega (arith, free-low fl h.calls h.grown x (omega arith), ap (cnt x) p.free, bit-same x))
    ]
