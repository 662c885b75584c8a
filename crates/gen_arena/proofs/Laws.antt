-- Laws of the arena: its slots are the free list's, and its cursor comes to each slot in use.
use Rattle.std.proofs.Common.{◌≡◌, ℕ, ◌+◌, ◌%◌, ◌^◌, ◌<◌, List, [], ◌∷◌, ◌++◌, map, length, get_or, refl, ap, arith, get_or-set_same, le-ltb, ne_eqb}
use mathlib.Core.Bool.{and-false}
use Rattle.free_list.specs.Stack.{after as list·after, run as list·run}
use Rattle.free_list.specs.declared.FreeListIterator.{FreeListIterator}
use Rattle.free_list.proofs.Laws.{Visits, end as list·end, more as list·more, iterates as list·iterates}
use Rattle.gen_arena.specs.Arena.{ArenaCall, list_call, Arena, step, run, after, handle_of, raised, found, invalid, first_live, live_of, next_live, live}
use Rattle.gen_arena.specs.declared.Handle.{Handle}
use Rattle.std.specs.Prelude.{Some, None}
use Rattle.gen_arena.specs.declared.ArenaIterator.{ArenaIterator}

run-snoc : (n : ℕ) (a : Arena) (cs : List ArenaCall) (c : ArenaCall) → run n a (cs ++ (c ∷ [])) ≡ step n (run n a cs) c
run-snoc n a [] c = refl
run-snoc n a (d ∷ cs) c = run-snoc n (step n a d) cs c

-- the last call is made on what the others left
pub after-snoc : (n : ℕ) (cs : List ArenaCall) (c : ArenaCall) → after n (cs ++ (c ∷ [])) ≡ step n (after n cs) c
after-snoc n cs c = run-snoc n _ cs c

slots-run : (n : ℕ) (a : Arena) (cs : List ArenaCall) → (run n a cs).slots ≡ list·run n a.slots (map list_call cs)
slots-run n a [] = refl
slots-run n a (c ∷ cs) = slots-run n (step n a c) cs

-- the free slots are those that the free list has after its calls
pub slots-after : (n : ℕ) (cs : List ArenaCall) → (after n cs).slots ≡ list·after n (map list_call cs)
slots-after n cs = slots-run n _ cs

-- what the cursor c comes to, of n slots in the arena a, when it is stepped until the end
pub data VisitsLive (n : ℕ) (a : Arena) : ArenaIterator → List Handle → Type 0 where
  end : {c : ArenaIterator} → next_live n a c ≡ (None, c) → VisitsLive n a c []
  more : {c d : ArenaIterator} {h : Handle} {hs : List Handle} → next_live n a c ≡ (Some h, d) → VisitsLive n a d hs → VisitsLive n a c (h ∷ hs)

visits : (n : ℕ) (a : Arena) {c : FreeListIterator} {xs : List ℕ} → Visits n a.slots c xs → VisitsLive n a (record { iterator = c }) (map (handle_of a.generations) xs)
visits n a (list·end e) = end (ap (live_of a.generations) e)
visits n a (list·more e v) = more (ap (live_of a.generations) e) (visits n a v)

-- from the first cursor it comes to each slot in use once, in rising order, at its generation
pub iterates : (n : ℕ) (a : Arena) → VisitsLive n a first_live (live n a)
iterates n a = visits n a (list·iterates n a.slots)

-- ---- what handles find

-- a handle finds nothing once its slot was freed: the slot is at another generation
pub freed-finds-nothing : (gens : List ℕ) (i : ℕ) → i < length gens → get_or gens i 0 < 2 ^ 64 → found (raised gens i) (handle_of gens i) ≡ None
freed-finds-nothing gens i l f =
    let g : get_or (raised gens i) i 0 ≡ (get_or gens i 0 + 1) % 2 ^ 64 = get_or-set_same gens i _ 0 l in
    rw (g, ne_eqb ((get_or gens i 0 + 1) % 2 ^ 64) (get_or gens i 0) (λ e. omega arith), and-false)

-- the invalid handle finds nothing, since no slice has so many elements
pub invalid-finds-nothing : (gens : List ℕ) → length gens < 2 ^ 64 → found gens invalid ≡ None
invalid-finds-nothing gens l = rw (le-ltb 18446744073709551615 (length gens) (omega arith))
