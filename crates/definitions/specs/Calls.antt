-- Document 01, "Modules, leaves first", 4 and 6, and "Questions in order", 1; document 02, order 4: eight compartments, each
-- with its allowance of the 1,024 records, what each call answers and leaves, and what a list of calls leaves.
use Rattle.std.specs.Prelude.{ℕ, ◌+◌, Bool, List, [], ◌∷◌, map, length, get_or, set, replicate, if◌then◌else◌}
use Rattle.definitions.specs.Tests.{◌<?◌}
use Rattle.definitions.specs.Regions.{regions, permission_of}
use Rattle.definitions.specs.Stream.{stream}
use Rattle.definitions.specs.Pages.{page, mapping_group, permission_group, region_group, segment_group}
use Rattle.definitions.specs.Reckoning.{Compartment, empty, reckon, compartment_of}
use Rattle.definitions.specs.Questions.{ask, accepted, on_add, on_remove, on_refcount, on_overlaps, on_map, on_unmap, on_unmap_gpa, on_allow}
use Rattle.definitions.specs.declared.remapper.Mapping.{Mapping}
use Rattle.definitions.specs.declared.answer.Refusal.TheVariants.{NoCompartment}
use Rattle.definitions.specs.Answers.{Answer}
use Rattle.std.specs.Prelude.{Ok}
use Rattle.definitions.specs.declared.call.Call.{Call}
use Rattle.definitions.specs.declared.call.Call.TheVariants.{Add, Remove, Refcount, Overlaps, Map, Unmap, UnmapGpa, Permissions, Remap, Mappings, Allow}

-- the compartments, each as it is reckoned; and beside them, since no reckoning knows of it, the allowance of each (document 02,
-- order 4)
pub record State : Type 0 where
  pub compartments : List Compartment
  pub allowances : List ℕ

-- at first all are empty. Document 02, order 4: each compartment gets its own allowance, at first 128.
unfoldable pub start : State
start = record { compartments = replicate 8 empty; allowances = replicate 8 128 }

unfoldable pub compartment : State → ℕ → Compartment
compartment s k = get_or s.compartments k empty

unfoldable pub allowance : State → ℕ → ℕ
allowance s k = get_or s.allowances k 0

-- the allowances together, and together without compartment k's
unfoldable pub together : List ℕ → ℕ
together [] = 0
together (m ∷ ms) = m + together ms

unfoldable pub others : List ℕ → ℕ → ℕ
others ms k = together (set ms k 0)

-- a compartment's stream and its permissions, and the groups of numbers that pages of them take
unfoldable pub stream_of : Compartment → List Mapping
stream_of c = stream (regions c.values) c.segments

unfoldable pub stream_groups : Compartment → List (List ℕ)
stream_groups c = map mapping_group (stream_of c)

unfoldable pub permission_groups : Compartment → List (List ℕ)
permission_groups c = map (λ r. permission_group (permission_of r)) (regions c.values)

-- its stored lists, in the same way
unfoldable pub region_groups : Compartment → List (List ℕ)
region_groups c = map region_group (regions c.values)

unfoldable pub segment_groups : Compartment → List (List ℕ)
segment_groups c = map segment_group c.segments

-- what a call answers that names compartment c, whose allowance is m, where the others' are n together
unfoldable pub answer_in : ℕ → ℕ → Compartment → Call → Answer
answer_in n m c (Add k a e r) = on_add m c a e r
answer_in n m c (Remove k a e r) = on_remove m c a e r
answer_in n m c (Refcount k a e) = on_refcount c a e
answer_in n m c (Overlaps k g size) = on_overlaps c g size
answer_in n m c (Map k h g size t) = on_map c h g size t
answer_in n m c (Unmap k h size) = on_unmap c h size
answer_in n m c (UnmapGpa k g size) = on_unmap_gpa c g size
answer_in n m c (Permissions k i room) = Ok (length (page 3 (permission_groups c) i room))
answer_in n m c (Remap k i room) = Ok (length (page 5 (stream_groups c) i room))
answer_in n m c (Mappings k) = Ok (length (stream_of c))
answer_in n m c (Allow k new) = on_allow n c new

-- Every call: 1 compartment below 8?
unfoldable pub answer : State → Call → Answer
answer s call =
    ask ((compartment_of call <? 8, NoCompartment) ∷ [])
    (answer_in (others s.allowances (compartment_of call)) (allowance s (compartment_of call))
    (compartment s (compartment_of call)) call)

-- the allowance that an accepted call leaves its compartment. Document 02, order 4: setting it is a new call.
unfoldable pub allowed : Call → ℕ → ℕ
allowed (Allow k new) m = new
allowed (Add k a e r) m = m
allowed (Remove k a e r) m = m
allowed (Refcount k a e) m = m
allowed (Overlaps k g n) m = m
allowed (Map k h g n t) m = m
allowed (Unmap k h n) m = m
allowed (UnmapGpa k g n) m = m
allowed (Permissions k i n) m = m
allowed (Remap k i n) m = m
allowed (Mappings k) m = m

-- an accepted call changes its compartment as it is reckoned, and S its allowance; a refused one alters nothing
unfoldable pub next : State → Call → State
next s call =
    if accepted (answer s call)
    then record {
      compartments = set s.compartments (compartment_of call) (reckon call (compartment s (compartment_of call)));
      allowances = set s.allowances (compartment_of call) (allowed call (allowance s (compartment_of call)));
    } else s

-- a list of calls, oldest first, each on what the last one left
unfoldable pub after_from : State → List Call → State
after_from s [] = s
after_from s (c ∷ cs) = after_from (next s c) cs

unfoldable pub after : List Call → State
after calls = after_from start calls

-- the calls with whether each was accepted: what a reckoning is fed
unfoldable pub fed_from : State → List Call → List (Call × Bool)
fed_from s [] = []
fed_from s (c ∷ cs) = (c, accepted (answer s c)) ∷ fed_from (next s c) cs

unfoldable pub fed : List Call → List (Call × Bool)
fed calls = fed_from start calls
