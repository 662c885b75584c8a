-- Document 01, "Marked layouts (*)": the starred ones, as rows of one table, worked out anew where document 02, orders 1, 3,
-- 4 and 8, ask for it.
use Rattle.std.specs.Prelude.{ℕ, zero, suc, ◌+◌, Bool, true, false, ◌&&◌, List, [], ◌∷◌, ◌++◌}
use Rattle.definitions.specs.Tests.{◌=?◌, host, guest}
use Rattle.definitions.specs.Values.{rights_of}
use Rattle.definitions.specs.Regions.{regions}
use Rattle.definitions.specs.Questions.{number_of, value_of}
use Rattle.definitions.specs.Calls.{after, answer, next, compartment, stream_of}
use Rattle.definitions.specs.declared.region.Region.{Region}
use Rattle.definitions.specs.declared.remapper.Segment.{Segment}
use Rattle.definitions.specs.declared.remapper.Mapping.{Mapping}
use Rattle.definitions.specs.declared.call.Call.{Call}
use Rattle.definitions.specs.declared.call.Call.TheVariants.{Add, Remove, Overlaps, Map, Unmap, UnmapGpa, Allow}

-- calls from empty tables, one call more, its number and value, and what compartment 0 then has: its regions as start, end
-- and rights, its segments as hpa, gpa, size and repeat, its stream as hpa, gpa, size, repeat and rights
pub record Row : Type 0 where
  pub before : List Call
  pub asked : Call
  pub number : ℕ
  pub value : ℕ
  pub table : List (ℕ × ℕ × ℕ)
  pub list : List (ℕ × ℕ × ℕ × ℕ)
  pub mappings : List (ℕ × ℕ × ℕ × ℕ × ℕ)

unfoldable pub row : List Call → Call → ℕ → ℕ → List (ℕ × ℕ × ℕ) → List (ℕ × ℕ × ℕ × ℕ) → List (ℕ × ℕ × ℕ × ℕ × ℕ) → Row
row b c n v rs ss ms =
    record { before = b; asked = c; number = n; value = v; table = rs; list = ss; mappings = ms }

unfoldable pub same_table : List (ℕ × ℕ × ℕ) → List Region → Bool
same_table [] [] = true
same_table [] (r ∷ rs) = false
same_table (x ∷ xs) [] = false
same_table (x ∷ xs) (r ∷ rs) =
    (x.0 =? r.start.0) && (x.1 =? r.end.0) && (x.2 =? (rights_of r.values).0) && same_table xs rs

unfoldable pub same_list : List (ℕ × ℕ × ℕ × ℕ) → List Segment → Bool
same_list [] [] = true
same_list [] (s ∷ ss) = false
same_list (x ∷ xs) [] = false
same_list (x ∷ xs) (s ∷ ss) =
    (x.0 =? s.hpa.0) && (x.1 =? s.gpa.0) && (x.2 =? s.size) && (x.3 =? s.repeat) && same_list xs ss

unfoldable pub same_stream : List (ℕ × ℕ × ℕ × ℕ × ℕ) → List Mapping → Bool
same_stream [] [] = true
same_stream [] (m ∷ ms) = false
same_stream (x ∷ xs) [] = false
same_stream (x ∷ xs) (m ∷ ms) =
    (x.0 =? m.hpa.0) && (x.1 =? m.gpa.0) && (x.2 =? m.size) && (x.3 =? m.repeat) && (x.4 =? m.ops.0)
    && same_stream xs ms

unfoldable pub holds : Row → Bool
holds w =
    let s = after w.before in
    let c = compartment (next s w.asked) 0 in
    (number_of (answer s w.asked) =? w.number) && (value_of (answer s w.asked) =? w.value)
    && same_table w.table (regions c.values) && same_list w.list c.segments
    && same_stream w.mappings (stream_of c)

-- calls for compartment 0
abbrev pub add : ℕ → ℕ → ℕ → Call
add a e r = Add 0 (host a) (host e) r

abbrev pub remove : ℕ → ℕ → ℕ → Call
remove a e r = Remove 0 (host a) (host e) r

abbrev pub map : ℕ → ℕ → ℕ → ℕ → Call
map h g n t = Map 0 (host h) (guest g) n t

abbrev pub unmap : ℕ → ℕ → Call
unmap h n = Unmap 0 (host h) n

abbrev pub unmap_gpa : ℕ → ℕ → Call
unmap_gpa g n = UnmapGpa 0 (guest g) n

-- n single addresses x, x + 2, ..: the calls that add them, the table that shows them, and the
-- stream
unfoldable pub single_adds : ℕ → ℕ → List Call
single_adds x zero = []
single_adds x (suc n) = add x (x + 1) 1 ∷ single_adds (x + 2) n

unfoldable pub single_rows : ℕ → ℕ → List (ℕ × ℕ × ℕ)
single_rows x zero = []
single_rows x (suc n) = (x, x + 1, 1) ∷ single_rows (x + 2) n

unfoldable pub single_mappings : ℕ → ℕ → List (ℕ × ℕ × ℕ × ℕ × ℕ)
single_mappings x zero = []
single_mappings x (suc n) = (x, x, 1, 1, 1) ∷ single_mappings (x + 2) n

-- held [0,10) and [20,30) by 1; stored (100, 1000, 10, 1)
unfoldable pub two : List Call
two = add 0 10 1 ∷ add 20 30 1 ∷ []

unfoldable pub stored : List Call
stored = map 100 1000 10 1 ∷ []

-- Document 02, order 4: the layouts with 1,024 records first set the other compartments to 0, then theirs to 1,024.
unfoldable pub all_pool : List Call
all_pool =
    Allow 1 0 ∷ Allow 2 0 ∷ Allow 3 0 ∷ Allow 4 0 ∷ Allow 5 0 ∷ Allow 6 0 ∷ Allow 7 0 ∷ Allow 0 1024 ∷ []

-- 1,024 single addresses 0, 2, .. 2046: add [0,2) is 5
unfoldable pub crowded_row : Row
crowded_row =
    row (all_pool ++ single_adds 0 1024) (add 0 2 1) 5 0 (single_rows 0 1024) [] (single_mappings 0 1024)

-- the other starred layouts, and after the two that order 1 changed: an empty range inside a stored span, a span found behind
-- a segment of a higher guest address, an identity map, which is asked 11 too, and spans that only touch; after the two that
-- order 3 changed: a moved part beside an equal, two segments cut in two by one range, a repeated one cut by host address, and
-- an empty host range; at the end the example of the script, and a segment inside another in host addresses
unfoldable pub small_rows : List Row
small_rows =
    row (add 0 10 1 ∷ []) (add 5 15 3) 0 1 ((0, 5, 1) ∷ (5, 10, 3) ∷ (10, 15, 3) ∷ []) []
    ((0, 0, 5, 1, 1) ∷ (5, 5, 5, 1, 3) ∷ (10, 10, 5, 1, 3) ∷ [])
    ∷ row (add 0 10 1 ∷ add 5 15 3 ∷ []) (remove 5 15 3) 0 1 ((0, 10, 1) ∷ []) [] ((0, 0, 10, 1, 1) ∷ [])
    ∷ row (add 0 10 1 ∷ []) (add 0 10 17) 0 1 ((0, 10, 17) ∷ []) [] ((0, 0, 10, 1, 17) ∷ [])
    ∷ row (add 0 10 17 ∷ add 0 10 1 ∷ []) (remove 0 10 17) 0 1 ((0, 10, 1) ∷ []) [] ((0, 0, 10, 1, 1) ∷ [])
    ∷ row two (remove 0 25 1) 0 1 ((25, 30, 1) ∷ []) [] ((25, 25, 5, 1, 1) ∷ [])
    ∷ row two (remove 12 25 1) 7 0 ((0, 10, 1) ∷ (20, 30, 1) ∷ []) [] ((0, 0, 10, 1, 1) ∷ (20, 20, 10, 1, 1) ∷ [])
    ∷ row stored (map 500 995 20 1) 11 0 [] ((100, 1000, 10, 1) ∷ []) []
    ∷ row stored (Overlaps 0 (guest 1010) 0) 0 0 [] ((100, 1000, 10, 1) ∷ []) []
    ∷ row stored (Overlaps 0 (guest 1005) 0) 0 0 [] ((100, 1000, 10, 1) ∷ []) []
    ∷ row (map 50 5000 10 1 ∷ stored) (map 300 1005 1 1) 11 0 [] ((50, 5000, 10, 1) ∷ (100, 1000, 10, 1) ∷ []) []
    ∷ row stored (map 1005 1005 1 1) 11 0 [] ((100, 1000, 10, 1) ∷ []) []
    ∷ row (map 200 990 5 2 ∷ stored) (map 300 1010 5 1) 0 0 []
    ((100, 1000, 10, 1) ∷ (200, 990, 5, 2) ∷ (300, 1010, 5, 1) ∷ []) []
    ∷ row stored (unmap 103 2) 0 0 [] ((100, 1000, 3, 1) ∷ (105, 1005, 5, 1) ∷ []) []
    ∷ row stored (unmap 95 10) 0 0 [] ((105, 1005, 5, 1) ∷ []) []
    ∷ row stored (unmap_gpa 1000 4) 0 0 [] ((104, 1004, 6, 1) ∷ []) []
    ∷ row (map 100 1000 10 2 ∷ []) (unmap_gpa 1000 4) 15 0 [] ((100, 1000, 10, 2) ∷ []) []
    ∷ row (map 100 1000 10 1 ∷ map 103 2000 2 1 ∷ []) (unmap_gpa 1000 5) 0 0 []
    ((103, 2000, 2, 1) ∷ (105, 1005, 5, 1) ∷ []) []
    ∷ row (map 100 1000 10 1 ∷ map 105 2000 2 1 ∷ []) (unmap_gpa 1000 5) 0 0 []
    ((105, 1005, 5, 1) ∷ (105, 2000, 2, 1) ∷ []) []
    ∷ row (map 100 1000 10 1 ∷ map 102 2000 6 1 ∷ []) (unmap 104 2) 0 0 []
    ((100, 1000, 4, 1) ∷ (102, 2000, 2, 1) ∷ (106, 1006, 4, 1) ∷ (106, 2004, 2, 1) ∷ []) []
    ∷ row (map 100 1000 10 2 ∷ []) (unmap 103 2) 0 0 [] ((100, 1000, 3, 2) ∷ (105, 1005, 5, 2) ∷ []) []
    ∷ row stored (unmap 103 0) 0 0 [] ((100, 1000, 10, 1) ∷ []) []
    ∷ row (add 0 30 3 ∷ []) (map 10 100 10 1) 0 0 ((0, 30, 3) ∷ []) ((10, 100, 10, 1) ∷ [])
    ((0, 0, 10, 1, 3) ∷ (10, 100, 10, 1, 3) ∷ (20, 20, 10, 1, 3) ∷ [])
    ∷ row (add 0 30 3 ∷ map 5 100 20 1 ∷ []) (map 10 200 5 1) 0 0 ((0, 30, 3) ∷ [])
    ((5, 100, 20, 1) ∷ (10, 200, 5, 1) ∷ [])
    ((0, 0, 5, 1, 3) ∷ (5, 100, 20, 1, 3) ∷ (10, 200, 5, 1, 3) ∷ (25, 25, 5, 1, 3) ∷ [])
    ∷ []

-- document 02, order 4, allowances: 8 × 128 is all there is; what another gives up can be had; 5 by the caller's own, with most
-- of the pool free; no less than is in use
unfoldable pub allowance_rows : List Row
allowance_rows =
    row [] (Allow 0 129) 18 0 [] [] []
    ∷ row (Allow 1 127 ∷ []) (Allow 0 129) 0 0 [] [] []
    ∷ row (Allow 0 1 ∷ add 0 10 1 ∷ []) (add 20 30 1) 5 0 ((0, 10, 1) ∷ []) [] ((0, 0, 10, 1, 1) ∷ [])
    ∷ row (Allow 0 1 ∷ add 0 10 1 ∷ Allow 0 2 ∷ []) (add 20 30 1) 0 1 ((0, 10, 1) ∷ (20, 30, 1) ∷ []) []
    ((0, 0, 10, 1, 1) ∷ (20, 20, 10, 1, 1) ∷ [])
    ∷ row two (Allow 0 1) 19 0 ((0, 10, 1) ∷ (20, 30, 1) ∷ []) [] ((0, 0, 10, 1, 1) ∷ (20, 20, 10, 1, 1) ∷ [])
    ∷ row two (Allow 0 2) 0 0 ((0, 10, 1) ∷ (20, 30, 1) ∷ []) [] ((0, 0, 10, 1, 1) ∷ (20, 20, 10, 1, 1) ∷ [])
    ∷ []

unfoldable pub rows : List Row
rows = crowded_row ∷ small_rows ++ allowance_rows
