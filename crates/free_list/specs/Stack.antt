-- The free slots as a stack, and what a run of calls makes of it. Nothing here speaks of the code.
use Rattle.std.specs.Prelude.{ℕ, zero, suc, ◌-◌, List, [], ◌∷◌, Bool, false, not, cond, ◌&&◌, ◌||◌, ltb, eqb, length}

-- a call that can change the list
pub data FreeListCall : Type 0 where
  allocate : FreeListCall
  free : ℕ → FreeListCall

-- m numbers from k up
abbrev pub up_from : ℕ → ℕ → List ℕ
up_from k zero = []
up_from k (suc m) = k ∷ up_from (suc k) m

-- is slot i in the stack?
abbrev pub has : ℕ → List ℕ → Bool
has i [] = false
has i (x ∷ s) = eqb i x || has i s

-- may slot i be freed, of n slots, with the stack s of free ones? Only if it is a slot, and in use
abbrev pub freeable : ℕ → List ℕ → ℕ → Bool
freeable n s i = ltb i n && not (has i s)

-- a stack without its top
abbrev pub rest : List ℕ → List ℕ
rest [] = []
rest (x ∷ s) = s

-- one call: allocate pops, free pushes, and a call that is refused changes nothing
abbrev pub step : ℕ → List ℕ → FreeListCall → List ℕ
step n s allocate = rest s
step n s (free i) = cond (freeable n s i) (i ∷ s) s

-- a run of calls, the first one first, from the stack s
abbrev pub run : ℕ → List ℕ → List FreeListCall → List ℕ
run n s [] = s
run n s (c ∷ cs) = run n (step n s c) cs

-- the stack of free slots, of n, after these calls: at first 0, 1, .., n - 1
abbrev pub after : ℕ → List FreeListCall → List ℕ
after n cs = run n (up_from 0 n) cs

-- of the m slots from k up those in use, in rising order
abbrev pub used_from : ℕ → ℕ → List ℕ → List ℕ
used_from k zero s = []
used_from k (suc m) s = cond (has k s) (used_from (suc k) m s) (k ∷ used_from (suc k) m s)

-- of n slots those in use, in rising order
abbrev pub used : ℕ → List ℕ → List ℕ
used n s = used_from 0 n s

-- how many of n slots are not in use
abbrev pub capacity_of : ℕ → List ℕ → ℕ
capacity_of n s = n - length (used n s)
