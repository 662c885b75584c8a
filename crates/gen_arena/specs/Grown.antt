-- How the arrays and the struct hold the arena, and what each function ensures.
use Rattle.std.specs.Prelude.{◌≡◌, ℕ, Bool, true, false, List, [], ◌∷◌, ◌++◌, Option, Some, None, map, length, ◌==◌, ◌≢◌}
use Rattle.free_list.specs.Stack.{freeable}
use Rattle.free_list.specs.Grown.{Grown, first_of}
use Rattle.gen_arena.specs.Arena.{ArenaCall, allocate, free, list_call, after, made_of}
use Rattle.gen_arena.specs.declared.GenArena.{GenArena}
use Rattle.gen_arena.specs.declared.Handle.{Handle}

-- the arrays and the struct hold what these calls make, of n slots
pub record GrownArena (n : ℕ) (links gens : List ℕ) (arena : GenArena) (calls : List ArenaCall) : Type 0 where
  pub list : Grown n links arena.free_list (map list_call calls)
  pub generations : gens ≡ (after n calls).generations
  pub size : length gens ≡ n

-- some calls of this crate grew them from empty
pub record IsArena (links gens : List ℕ) (arena : GenArena) : Type 0 where
  pub n : ℕ
  pub calls : List ArenaCall
  pub grown : GrownArena n links gens arena calls

-- the arrays are as they were
pub record SameArrays (before_links links before_gens gens : List ℕ) : Type 0 where
  pub same_links : links ≡ before_links
  pub same_gens : gens ≡ before_gens

-- a refused call leaves the arrays and the struct as they were
pub record Same (before_links links before_gens gens : List ℕ) (arena new : GenArena) : Type 0 where
  pub arrays : SameArrays before_links links before_gens gens
  pub struct : new ≡ arena

-- the struct of an arena whose slots are all free
abbrev pub fresh : GenArena
fresh = record { free_list = record { head = 0; count = 0 } }

-- the answer of new: by whether the lengths agree
abbrev pub created_if : Bool → Option GenArena
created_if true = Some fresh
created_if false = None

-- what new ensures
pub record Creates (before_links links before_gens gens : List ℕ) (r : Option GenArena) : Type 0 where
  pub answer : r ≡ created_if (length before_links == length before_gens)
  pub grown : length before_links ≡ length before_gens → GrownArena (length before_links) links gens fresh []
  pub kept : (length before_links ≢ length before_gens) → SameArrays before_links links before_gens gens

-- what allocate ensures, for one list of calls that grew what it was handed
pub record AllocatesHandle (n : ℕ) (calls : List ArenaCall) (before links gens : List ℕ) (arena new : GenArena) (r : Option Handle) : Type 0 where
  pub answer : r ≡ made_of (after n calls).generations (first_of (after n calls).slots)
  pub grown : GrownArena n links gens new (calls ++ (allocate ∷ []))
  pub kept : (after n calls).slots ≡ [] → Same before links gens gens arena new

-- what free ensures, for one list of calls that grew what it was handed
pub record FreesHandle (n : ℕ) (calls : List ArenaCall) (h : Handle) (before_links links before_gens gens : List ℕ) (arena new : GenArena) (done : Bool) : Type 0 where
  pub answer : done ≡ freeable n (after n calls).slots h.idx
  pub grown : GrownArena n links gens new (calls ++ (free h ∷ []))
  pub kept : done ≡ false → Same before_links links before_gens gens arena new
