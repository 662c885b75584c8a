-- Slots with generations, and what a run of calls makes of them. Nothing here speaks of the arrays.
use Rattle.std.specs.Prelude.{ℕ, ◌+◌, ◌%◌, ◌^◌, Bool, true, false, cond, ◌&&◌, List, [], ◌∷◌, Option, Some, None, map, length, replicate, ◌==◌, nat_lt, slice_index, slice_set}
use Rattle.free_list.specs.Stack.{FreeListCall, allocate as list·allocate, free as list·free, up_from, freeable, step as list·step, used}
use Rattle.free_list.specs.Grown.{first_cursor, next_from}
use Rattle.free_list.specs.declared.FreeListIterator.{FreeListIterator}
use Rattle.gen_arena.specs.declared.Handle.{Handle}
use Rattle.gen_arena.specs.declared.ArenaIterator.{ArenaIterator}

-- a call that can change the arena
pub data ArenaCall : Type 0 where
  allocate : ArenaCall
  free : Handle → ArenaCall

-- the call of the free list that it makes: a free goes by the handle's slot alone
abbrev pub list_call : ArenaCall → FreeListCall
list_call allocate = list·allocate
list_call (free h) = list·free h.idx

-- the stack of free slots, and each slot's generation
pub record Arena : Type 0 where
  pub slots : List ℕ
  pub generations : List ℕ

-- slot i's generation goes up by one, and from 2 ^ 64 - 1 to 0
abbrev pub raised : List ℕ → ℕ → List ℕ
raised gens i = slice_set gens i ((slice_index gens i + 1) % 2 ^ 64)

-- the generations after one call: a free that is accepted raises its slot's, and nothing else changes them
abbrev pub step_generations : ℕ → Arena → ArenaCall → List ℕ
step_generations n a allocate = a.generations
step_generations n a (free h) = cond (freeable n a.slots h.idx) (raised a.generations h.idx) a.generations

-- one call, of n slots: the slots go as in the free list
abbrev pub step : ℕ → Arena → ArenaCall → Arena
step n a c = record { slots = list·step n a.slots (list_call c); generations = step_generations n a c }

-- a run of calls, the first one first, from the arena a
abbrev pub run : ℕ → Arena → List ArenaCall → Arena
run n a [] = a
run n a (c ∷ cs) = run n (step n a c) cs

-- the arena of n slots after these calls: at first all are free, at generation 0
abbrev pub after : ℕ → List ArenaCall → Arena
after n cs = run n (record { slots = up_from 0 n; generations = replicate n 0 }) cs

-- the handle of slot i at its generation
abbrev pub handle_of : List ℕ → ℕ → Handle
handle_of gens i = record { idx = i; generation = slice_index gens i }

-- the answer of allocate: the free list's, as a handle
abbrev pub made_of : List ℕ → Option ℕ → Option Handle
made_of gens (Some i) = Some (handle_of gens i)
made_of gens None = None

-- is the handle's slot one of those with a generation, and that the handle's?
abbrev pub current : List ℕ → Handle → Bool
current gens h = nat_lt h.idx (length gens) && slice_index gens h.idx == h.generation

-- the slot i, if so
abbrev pub found_if : Bool → ℕ → Option ℕ
found_if true i = Some i
found_if false i = None

-- the answer of get
abbrev pub found : List ℕ → Handle → Option ℕ
found gens h = found_if (current gens h) h.idx

-- the slot that was found, or n for none
abbrev pub slot_or : ℕ → Option ℕ → ℕ
slot_or n (Some i) = i
slot_or n None = n

-- the handle that stands for none
abbrev pub invalid : Handle
invalid = record { idx = 18446744073709551615; generation = 18446744073709551615 }

-- is it that handle?
abbrev pub is_invalid : Handle → Bool
is_invalid h = h.generation == 18446744073709551615 && h.idx == 18446744073709551615

-- the cursor that stands before the first slot
abbrev pub first_live : ArenaIterator
first_live = record { iterator = first_cursor }

-- what a cursor comes to: the free list's, as a handle
abbrev pub live_of : List ℕ → Option ℕ × FreeListIterator → Option Handle × ArenaIterator
live_of gens (r, c) = (made_of gens r, record { iterator = c })

-- the answer of next and the cursor that it leaves, of n slots in the arena a, at the cursor c
abbrev pub next_live : ℕ → Arena → ArenaIterator → Option Handle × ArenaIterator
next_live n a c = live_of a.generations (next_from n a.slots c.iterator)

-- of n slots those in use, as handles, in rising order
abbrev pub live : ℕ → Arena → List Handle
live n a = map (handle_of a.generations) (used n a.slots)
