-- What each call does to the arrays and the struct, at the very arrays that the code makes: the proofs of the functions cite these.
use Rattle.std.proofs.Common.{◌≡◌, ℕ, ◌+◌, ◌%◌, ◌^◌, ◌<◌, Bool, true, false, eqb, List, [], ◌∷◌, ◌++◌, map, length, get_or, set, replicate, sym, refl, ap, ◌∙◌, arith, length-set, eq-eqb, eqb-true}
use mathlib.Core.List.{map-append}
use lib.ListN.{length-replicate}
use Rattle.free_list.specs.Stack.{after as list·after, freeable}
use Rattle.free_list.specs.Grown.{Grown, Allocates, Frees, first_of, next_from}
use Rattle.free_list.specs.declared.FreeList.{FreeList}
use Rattle.free_list.specs.declared.FreeListIterator.{FreeListIterator}
use Rattle.std.specs.Prelude.{Option, Some}
use Rattle.free_list.proofs.Calls.{fresh-list}
use Rattle.free_list.proofs.Laws.{first_fits, freed-fits, next_fits}
use Rattle.gen_arena.specs.Arena.{ArenaCall, allocate, free, list_call, Arena, step_generations, after, made_of, next_live}
use Rattle.gen_arena.specs.Grown.{GrownArena, IsArena, fresh, created_if, Creates, AllocatesHandle, FreesHandle}
use Rattle.gen_arena.specs.declared.GenArena.{GenArena}
use Rattle.gen_arena.specs.declared.Handle.{Handle}
use Rattle.gen_arena.specs.declared.ArenaIterator.{ArenaIterator}
use Rattle.gen_arena.proofs.Laws.{after-snoc, slots-after}

-- ---- new

module _ (links gens : List ℕ) where
  pub creates : (links' gens' : List ℕ) (list : FreeList) → length links ≡ length gens → gens' ≡ replicate (length gens) 0 → Grown (length links) links' list []
      → Creates links links' gens gens' (Some (record { free_list = list }))
  creates links' gens' list e q g =
      let f = fresh-list (length links) links' list g in
      record {
        answer = rw (eq-eqb (length links) (length gens) e, f);
        grown = λ z. record { list = rw f at g; generations = q ∙ rw e; size = ap length q ∙ length-replicate (length gens) 0 ∙ sym e };
        kept = λ d. absurd (d e);
      }

module _ (n : ℕ) (calls : List ArenaCall) (links gens : List ℕ) (arena : GenArena) (g : GrownArena n links gens arena calls) where
  pub slots : list·after n (map list_call calls) ≡ (after n calls).slots
  slots = sym (slots-after n calls)

  -- what holds what a call makes was grown by that call too
  grows : (call : ArenaCall) (links' gens' : List ℕ) (list : FreeList) → Grown n links' list (map list_call calls ++ (list_call call ∷ []))
      → gens' ≡ step_generations n (after n calls) call → length gens' ≡ n → GrownArena n links' gens' (record { free_list = list }) (calls ++ (call ∷ []))
  grows call links' gens' list l e z =
      record { list = rw map-append l; generations = e ∙ sym (ap (λ (a : Arena). a.generations) (after-snoc n calls call)); size = z }

  -- ---- allocate

  module _ (r : Option ℕ) (links' : List ℕ) (list : FreeList) (a : Allocates n (map list_call calls) links links' arena.free_list list r) where
    pub slot-fits : (i : ℕ) → r ≡ Some i → i < length gens
    slot-fits i e = omega (arith, first_fits n (map list_call calls) i (sym a.answer ∙ e))

    pub allocates : (s : Option ℕ) → r ≡ s → AllocatesHandle n calls links links' gens arena (record { free_list = list }) (made_of gens s)
    allocates s e =
        record {
          answer = cc (ap first_of slots);
          grown = grows allocate links' gens list a.grown g.generations g.size;
          kept =
              λ q. let k = a.kept (slots ∙ q) in
              record {
                arrays = record { same_links = k.array; same_gens = refl };
                struct = ap (λ (l : FreeList). record { free_list = l }) k.struct;
              };
        }

  -- ---- free

  module _ (h : Handle) (done : Bool) (links' : List ℕ) (list : FreeList) (a : Frees n (map list_call calls) h.idx links links' arena.free_list list done) where
    -- the answer is that of the arena's own slots
    told : done ≡ freeable n (after n calls).slots h.idx
    told = a.answer ∙ ap (λ (s : List ℕ). freeable n s h.idx) slots

    pub freed-slot-fits : done ≡ true → h.idx < length gens
    freed-slot-fits e = omega (arith, freed-fits n h.idx (after n calls).slots (sym told ∙ e))

    pub frees : (w : ℕ) → done ≡ true → w ≡ (get_or gens h.idx 0 + 1) % 2 ^ 64
        → FreesHandle n calls h links links' gens (set gens h.idx w) arena (record { free_list = list }) true
    frees w e q =
        let f : freeable n (after n calls).slots h.idx ≡ true = sym told ∙ e in
        record {
          answer = sym f;
          grown = grows (free h) links' _ list a.grown (rw f (cc)) (simp length-set g.size);
          kept = λ k. absurd (let y : ◌≡◌ {A = ℕ} 0 1 = cc in omega arith);
        }

    pub refused : done ≡ false → FreesHandle n calls h links links' gens gens arena (record { free_list = list }) false
    refused e =
        let k = a.kept e in
        let f : freeable n (after n calls).slots h.idx ≡ false = sym told ∙ e in
        record {
          answer = sym f;
          grown = grows (free h) links' gens list a.grown (rw f g.generations) g.size;
          kept =
              λ q. record {
                arrays = record { same_links = k.array; same_gens = refl };
                struct = ap (λ (l : FreeList). record { free_list = l }) k.struct;
              };
        }

  -- ---- the cursor

  module _ (c : ArenaIterator) (r : Option ℕ) (d : FreeListIterator) (e : (r, d) ≡ next_from n (list·after n (map list_call calls)) c.iterator) where
    pub next-slot-fits : (i : ℕ) → r ≡ Some i → i < length gens
    next-slot-fits i q =
        omega (arith, next_fits n (list·after n (map list_call calls)) c.iterator i (sym (ap (λ (p : Option ℕ × FreeListIterator). p.0) e) ∙ q))

    pub next-live : (s : Option ℕ) → r ≡ s → (made_of gens s, record { iterator = d }) ≡ next_live n (after n calls) c
    next-live s q = cc (ap (λ (t : List ℕ). next_from n t c.iterator) slots)

-- ---- for callers: what comes back is an arena too

pub created-arena : {links links' gens gens' : List ℕ} {r : Option GenArena} (a : GenArena) → Creates links links' gens gens' r → r ≡ Some a → IsArena links' gens' a
created-arena {links} {links'} {gens} {gens'} {r} a c e = go (eqb (length links) (length gens)) refl (sym e ∙ c.answer)
  where
    go : (b : Bool) → eqb (length links) (length gens) ≡ b → Some a ≡ created_if b → IsArena links' gens' a
    go true d q = let f : fresh ≡ a = cc in record { n = length links; calls = []; grown = rw f at (c.grown (eqb-true _ _ d)) }
    go false d q = absurd (let y : ◌≡◌ {A = ℕ} 0 1 = cc in omega arith)

pub allocated-arena : {links links' gens : List ℕ} {arena arena' : GenArena} {r : Option Handle} (p : IsArena links gens arena)
    → ((n : ℕ) (calls : List ArenaCall) → GrownArena n links gens arena calls → AllocatesHandle n calls links links' gens arena arena' r) → IsArena links' gens arena'
allocated-arena p a = record { n = p.n; calls = p.calls ++ (allocate ∷ []); grown = (a p.n p.calls p.grown).grown }

pub freed-arena : {links links' gens gens' : List ℕ} {arena arena' : GenArena} {h : Handle} {done : Bool} (p : IsArena links gens arena)
    → ((n : ℕ) (calls : List ArenaCall) → GrownArena n links gens arena calls → FreesHandle n calls h links links' gens gens' arena arena' done) → IsArena links' gens' arena'
freed-arena {h = h} p a = record { n = p.n; calls = p.calls ++ (free h ∷ []); grown = (a p.n p.calls p.grown).grown }
