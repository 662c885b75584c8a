-- What the calls answer and leave, computed on lists: the regions of each compartment beside its segments. The definitions
-- go by address and do not compute; these do, and the laws in TableLaws say that they are the same.
use Rattle.std.specs.Prelude.{if◌then◌else◌}
use Prim.Native.Nat.{ℕ, ◌+◌}
use mathlib.Core.Bool.{Bool, not, ◌&&◌, ◌||◌}
use mathlib.Core.List.{List, [], ◌∷◌, map}
use lib.ListN.{length, get_or, set, replicate}
use Rattle.definitions.specs.Tests.{◌<?◌, ◌≤?◌, ◌=?◌, bit, all, any}
use Rattle.definitions.specs.Regions.{meets, splits, refcount_of, permission_of}
use Rattle.definitions.specs.Segments.{mapped, unmapped, unmapped_gpa}
use Rattle.definitions.specs.Stream.{stream}
use Rattle.definitions.specs.Pages.{page, mapping_group, permission_group}
use Rattle.definitions.specs.Reckoning.{compartment_of, empty, with_segments}
use Rattle.definitions.specs.Questions.{ask, accepted, ranged, every_named, begun, last_end, cuts_fit, can_lower, on_overlaps, on_map, on_unmap, on_unmap_gpa}
use Rattle.definitions.specs.Calls.{others, allowed}
use Rattle.definitions.specs.Script.{Line, call as says, malformed}
use Rattle.definitions.specs.Bundles.{and_then}
use Rattle.definitions.specs.declared.addr.HostAddr.{HostAddr}
use Rattle.definitions.specs.declared.region.Region.{Region}
use Rattle.definitions.specs.declared.remapper.Segment.{Segment}
use Rattle.definitions.specs.declared.answer.Refusal.TheVariants.{NoCompartment, CountFull, OutOfMemory, InvalidRegion, EndedBefore, CountEmpty, Malformed, PoolExceeded, StillInUse}
use Rattle.definitions.specs.Answers.{Answer}
use Rattle.std.specs.Prelude.{Ok, Err}
use Rattle.definitions.specs.declared.call.Call.{Call}
use Rattle.definitions.specs.declared.call.Call.TheVariants.{Add, Remove, Refcount, Overlaps, Map, Unmap, UnmapGpa, Permissions, Remap, Mappings, Allow}
use Rattle.definitions.proofs.Lists.{added, removed}
use Rattle.definitions.proofs.PeakLaws.{gaps}

pub record Table : Type 0 where
  pub records : List Region
  pub segments : List Segment

unfoldable pub no_table : Table
no_table = record { records = []; segments = [] }

-- question 4 and the change mark of an add, question 5's new records, the change mark of a remove
unfoldable pub can_raise_on : HostAddr → HostAddr → ℕ → List Region → Bool
can_raise_on a e rights rs =
    all (λ q. not (meets a e q)
    || ((q.values.refcount <? 65535) && every_named (λ n. n <? 65535) rights q.values)) rs

unfoldable pub add_change_on : HostAddr → HostAddr → ℕ → List Region → ℕ
add_change_on a e rights rs =
    bit ((0 <? length (gaps a e rs)) || any (λ q. meets a e q && not (every_named (λ n. 0 <? n) rights q.values)) rs)

unfoldable pub new_records_on : HostAddr → HostAddr → List Region → ℕ
new_records_on a e rs = bit (any (splits a) rs) + bit (any (splits e) rs) + length (gaps a e rs)

unfoldable pub remove_change_on : HostAddr → HostAddr → ℕ → List Region → ℕ
remove_change_on a e rights rs =
    bit (any (λ q. meets a e q
    && ((q.values.refcount =? 1) || not (every_named (λ n. not (n =? 1)) rights q.values))) rs)

unfoldable pub add_on : ℕ → List Region → HostAddr → HostAddr → ℕ → Answer
add_on allowance rs a e rights =
    ranged a e rights
    (ask ((can_raise_on a e rights rs, CountFull) ∷ (length rs + new_records_on a e rs ≤? allowance, OutOfMemory) ∷ [])
    (Ok (add_change_on a e rights rs)))

unfoldable pub remove_on : ℕ → List Region → HostAddr → HostAddr → ℕ → Answer
remove_on allowance rs a e rights =
    ranged a e rights
    (ask
    ((1 ≤? length (begun a rs), InvalidRegion) ∷ (a.0 <? last_end 0 (begun a rs), EndedBefore)
    ∷ (cuts_fit (length rs) allowance a e rs, OutOfMemory) ∷ (can_lower a e rights rs, CountEmpty) ∷ [])
    (Ok (remove_change_on a e rights rs)))

unfoldable pub allow_on : ℕ → List Region → ℕ → Answer
allow_on others rs n = ask ((others + n ≤? 1024, PoolExceeded) ∷ (length rs ≤? n, StillInUse) ∷ []) (Ok 0)

-- what a call answers of this table, with the allowance m, where the others' are n together
unfoldable pub answer_on : ℕ → ℕ → Table → Call → Answer
answer_on n m t (Add k a e r) = add_on m t.records a e r
answer_on n m t (Remove k a e r) = remove_on m t.records a e r
answer_on n m t (Refcount k a e) = Ok (refcount_of a e t.records)
answer_on n m t (Overlaps k g size) = on_overlaps (with_segments empty t.segments) g size
answer_on n m t (Map k h g size r) = on_map (with_segments empty t.segments) h g size r
answer_on n m t (Unmap k h size) = on_unmap (with_segments empty t.segments) h size
answer_on n m t (UnmapGpa k g size) = on_unmap_gpa (with_segments empty t.segments) g size
answer_on n m t (Permissions k i room) =
    Ok (length (page 3 (map (λ r. permission_group (permission_of r)) t.records) i room))
answer_on n m t (Remap k i room) =
    Ok (length (page 5 (map mapping_group (stream t.records t.segments)) i room))
answer_on n m t (Mappings k) = Ok (length (stream t.records t.segments))
answer_on n m t (Allow k new) = allow_on n t.records new

-- what an accepted call leaves
unfoldable pub leaves : Call → Table → Table
leaves (Add k a e r) t = record { records = added a e r t.records; segments = t.segments }
leaves (Remove k a e r) t = record { records = removed a e r t.records; segments = t.segments }
leaves (Map k h g n r) t = record { records = t.records; segments = mapped h g n r t.segments }
leaves (Unmap k h n) t = record { records = t.records; segments = unmapped h n t.segments }
leaves (UnmapGpa k g n) t = record { records = t.records; segments = unmapped_gpa g n t.segments }
leaves (Refcount k a e) t = t
leaves (Overlaps k g n) t = t
leaves (Permissions k i n) t = t
leaves (Remap k i n) t = t
leaves (Mappings k) t = t
leaves (Allow k n) t = t

-- eight tables, and the allowances beside them
pub record Shelf : Type 0 where
  pub tables : List Table
  pub allowances : List ℕ

unfoldable pub start_on : Shelf
start_on = record { tables = replicate 8 no_table; allowances = replicate 8 128 }

unfoldable pub asks_on : Shelf → Call → Answer
asks_on ts call =
    ask ((compartment_of call <? 8, NoCompartment) ∷ [])
    (answer_on (others ts.allowances (compartment_of call)) (get_or ts.allowances (compartment_of call) 0)
    (get_or ts.tables (compartment_of call) no_table) call)

unfoldable pub next_on : Shelf → Call → Shelf
next_on ts call =
    if accepted (asks_on ts call)
    then record {
      tables = set ts.tables (compartment_of call) (leaves call (get_or ts.tables (compartment_of call) no_table));
      allowances = set ts.allowances (compartment_of call) (allowed call (get_or ts.allowances (compartment_of call) 0));
    } else ts

unfoldable pub after_on : Shelf → List Call → Shelf
after_on ts [] = ts
after_on ts (c ∷ cs) = after_on (next_on ts c) cs

-- a bundle's calls
unfoldable pub in_turn_on : Shelf → List Line → Answer
in_turn_on ts [] = Ok 0
in_turn_on ts (says c ∷ gs) = and_then (asks_on ts c) (in_turn_on (next_on ts c) gs)
in_turn_on ts (malformed ∷ gs) = Err Malformed
