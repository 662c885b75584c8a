-- How the array and the struct hold the stack, and what each function ensures.
use Rattle.std.specs.Prelude.{ℕ, ◌+◌, ◌-◌, ◌≡◌, List, [], ◌∷◌, ◌++◌, Bool, false, Option, Some, None, length, set, replicate}
use Rattle.free_list.specs.Stack.{FreeListCall, allocate, free, freeable, after, used_from, used}
use Rattle.free_list.specs.declared.FreeList.{FreeList}
use Rattle.free_list.specs.declared.FreeListIterator.{FreeListIterator}

-- the top of the stack, or n where it is empty
abbrev pub head_of : ℕ → List ℕ → ℕ
head_of n [] = n
head_of n (x ∷ s) = x

-- the array of a stack, of n slots: n + 1 at each slot in use, and at each free one the next below it
abbrev pub links_of : ℕ → List ℕ → List ℕ
links_of n [] = replicate n (n + 1)
links_of n (x ∷ s) = set (links_of n s) x (head_of n s)

-- the array and the struct hold what these calls make, of n slots
pub record Grown (n : ℕ) (links : List ℕ) (list : FreeList) (calls : List FreeListCall) : Type 0 where
  pub size : length links ≡ n
  pub array : links ≡ links_of n (after n calls)
  pub head : list.head ≡ head_of n (after n calls)
  pub count : list.count ≡ length (used n (after n calls))

-- some calls of this crate grew them from empty
pub record IsGrown (links : List ℕ) (list : FreeList) : Type 0 where
  pub n : ℕ
  pub calls : List FreeListCall
  pub grown : Grown n links list calls

-- a refused call leaves the array and the struct as they were
pub record Same (before links : List ℕ) (list new : FreeList) : Type 0 where
  pub array : links ≡ before
  pub struct : new ≡ list

-- the answer of allocate: the top of the stack
abbrev pub first_of : List ℕ → Option ℕ
first_of [] = None
first_of (x ∷ s) = Some x

-- what allocate ensures, for one list of calls that grew what it was handed
pub record Allocates (n : ℕ) (calls : List FreeListCall) (before links : List ℕ) (list new : FreeList) (r : Option ℕ) : Type 0 where
  pub answer : r ≡ first_of (after n calls)
  pub grown : Grown n links new (calls ++ (allocate ∷ []))
  pub kept : after n calls ≡ [] → Same before links list new

-- what free ensures, for one list of calls that grew what it was handed
pub record Frees (n : ℕ) (calls : List FreeListCall) (idx : ℕ) (before links : List ℕ) (list new : FreeList) (done : Bool) : Type 0 where
  pub answer : done ≡ freeable n (after n calls) idx
  pub grown : Grown n links new (calls ++ (free idx ∷ []))
  pub kept : done ≡ false → Same before links list new

-- the cursor that stands before the first slot
abbrev pub first_cursor : FreeListIterator
first_cursor = record { next = 0 }

-- what the cursor c comes to, given the slots in use from it up: the first of them, with the cursor behind it, or none, and it stays
abbrev pub next_used : List ℕ → FreeListIterator → Option ℕ × FreeListIterator
next_used [] c = (None, c)
next_used (x ∷ xs) c = (Some x, record { next = x + 1 })

-- the answer of next and the cursor that it leaves, of n slots with the stack s of free ones, at the cursor c
abbrev pub next_from : ℕ → List ℕ → FreeListIterator → Option ℕ × FreeListIterator
next_from n s c = next_used (used_from c.next (n - c.next) s) c
