-- What the statement of demand 3 takes as promised (specs/WholeStream.antt) is what the contracts promise: each law hands one
-- over as it stands.
use Prim.Native.Nat.{ℕ}
use mathlib.Core.List.{List}
use lib.ListN.{length}
use contract.Lifetimes.{Lfts}
use denote.Triple.Clauses.{AtExit}
use borrow.Fn.Kinds.{ParamKind, ResultKind, Out, Dens, res_t, ended_of}
use Rattle.definitions.specs.Answers.{Answer}
use Rattle.definitions.specs.declared.call.Call.TheVariants.{Add, Remove, Refcount, Overlaps, Map, Unmap, UnmapGpa, Permissions, Remap, Allow}
use Rattle.capability_engine.specs.declared.compartments.Tables.{Tables}
use Rattle.capability_engine.specs.CompartmentGrown.{Creates}
use Rattle.capability_engine.specs.WholeStream.{Memory, Changes, Asks, Page, Copies, Begins, Steps}
use Rattle.capability_engine.proofs.compartments.Tables.new.Reads as new
use Rattle.capability_engine.proofs.compartments.Tables.new.Kinds as new-kinds
use Rattle.capability_engine.proofs.compartments.Tables.add.Reads as add
use Rattle.capability_engine.proofs.compartments.Tables.add.Kinds as add-kinds
use Rattle.capability_engine.proofs.compartments.Tables.remove.Reads as remove
use Rattle.capability_engine.proofs.compartments.Tables.remove.Kinds as remove-kinds
use Rattle.capability_engine.proofs.compartments.Tables.map.Reads as map
use Rattle.capability_engine.proofs.compartments.Tables.map.Kinds as map-kinds
use Rattle.capability_engine.proofs.compartments.Tables.unmap_range.Reads as unmap-range
use Rattle.capability_engine.proofs.compartments.Tables.unmap_range.Kinds as unmap-range-kinds
use Rattle.capability_engine.proofs.compartments.Tables.unmap_gpa_range.Reads as unmap-gpa-range
use Rattle.capability_engine.proofs.compartments.Tables.unmap_gpa_range.Kinds as unmap-gpa-range-kinds
use Rattle.capability_engine.proofs.compartments.Tables.allow.Reads as allow
use Rattle.capability_engine.proofs.compartments.Tables.allow.Kinds as allow-kinds
use Rattle.capability_engine.proofs.compartments.Tables.get_refcount.Reads as get-refcount
use Rattle.capability_engine.proofs.compartments.Tables.get_refcount.Kinds as get-refcount-kinds
use Rattle.capability_engine.proofs.compartments.Tables.overlaps.Reads as overlaps
use Rattle.capability_engine.proofs.compartments.Tables.overlaps.Kinds as overlaps-kinds
use Rattle.capability_engine.proofs.compartments.Tables.permissions.Reads as permissions
use Rattle.capability_engine.proofs.compartments.Tables.permissions.Kinds as permissions-kinds
use Rattle.capability_engine.proofs.compartments.Tables.stream.Reads as stream
use Rattle.capability_engine.proofs.compartments.Tables.stream.Kinds as stream-kinds
use Rattle.capability_engine.proofs.remapper.Remapper.copy_segments.Reads as copy-segments
use Rattle.capability_engine.proofs.remapper.Remapper.copy_segments.Kinds as copy-segments-kinds
use Rattle.capability_engine.proofs.lists.Lists.start.Reads as start
use Rattle.capability_engine.proofs.lists.Lists.start.Kinds as start-kinds
use Rattle.capability_engine.proofs.lists.Lists.next_mapping.Reads as next-mapping
use Rattle.capability_engine.proofs.lists.Lists.next_mapping.Kinds as next-mapping-kinds

-- a function's contract gives a promise about its arguments a, its answer z and what it leaves, e
abbrev pub Gives : (n : ℕ) (ps : List (ParamKind n)) (r : ResultKind n) → Out n ps r → Out n ps r → Type 0
Gives n ps r contract promise =
    (κs : Lfts n) (a : Dens κs ps) (z : (res_t r κs).Denot) (e : AtExit (ended_of n ps r) κs) → contract κs a z e → promise κs a z e

abbrev pub memory : List ℕ → List ℕ → List ℕ → List ℕ → Tables → Memory
memory words next links gens t = record { words = words; next = next; links = links; gens = gens; tables = t }

new-creates : Gives 4 new-kinds.ps new-kinds.r new.Learnt (λ κs a z e.
    Creates a.0.now a.1.0.now a.1.1.0.now a.1.1.1.0.now e.1.1.0.now e.1.1.1.0.now z)
new-creates κs a z e p = p

add-changes : Gives 5 add-kinds.ps add-kinds.r add.Learnt (λ κs a z e.
    let b = a.1.1.1.1.1 in
    let f = e.1.1.1.1.1 in
    Changes (Add a.1.0 a.1.1.0 a.1.1.1.0 a.1.1.1.1.0) (memory b.0.now b.1.0.now b.1.1.0.now b.1.1.1.0.now a.0.now) (memory f.0.now f.1.0.now f.1.1.0.now f.1.1.1.0.now e.0.now) z)
add-changes κs a z e p = p

remove-changes : Gives 5 remove-kinds.ps remove-kinds.r remove.Learnt (λ κs a z e.
    let b = a.1.1.1.1.1 in
    let f = e.1.1.1.1.1 in
    Changes (Remove a.1.0 a.1.1.0 a.1.1.1.0 a.1.1.1.1.0) (memory b.0.now b.1.0.now b.1.1.0.now b.1.1.1.0.now a.0.now) (memory f.0.now f.1.0.now f.1.1.0.now f.1.1.1.0.now e.0.now) z)
remove-changes κs a z e p = p

map-changes : Gives 5 map-kinds.ps map-kinds.r map.Learnt (λ κs a z e.
    let b = a.1.1.1.1.1.1 in
    Changes (Map a.1.0 a.1.1.0 a.1.1.1.0 a.1.1.1.1.0 a.1.1.1.1.1.0) (memory b.0.now b.1.0.now b.1.1.0.now b.1.1.1.0.now a.0.now) (memory b.0.now b.1.0.now b.1.1.0.now b.1.1.1.0.now e.0.now) z)
map-changes κs a z e p = p

unmap-range-changes : Gives 5 unmap-range-kinds.ps unmap-range-kinds.r unmap-range.Learnt (λ κs a z e.
    let b = a.1.1.1.1 in
    Changes (Unmap a.1.0 a.1.1.0 a.1.1.1.0) (memory b.0.now b.1.0.now b.1.1.0.now b.1.1.1.0.now a.0.now) (memory b.0.now b.1.0.now b.1.1.0.now b.1.1.1.0.now e.0.now) z)
unmap-range-changes κs a z e p = p

unmap-gpa-range-changes : Gives 5 unmap-gpa-range-kinds.ps unmap-gpa-range-kinds.r unmap-gpa-range.Learnt (λ κs a z e.
    let b = a.1.1.1.1 in
    Changes (UnmapGpa a.1.0 a.1.1.0 a.1.1.1.0) (memory b.0.now b.1.0.now b.1.1.0.now b.1.1.1.0.now a.0.now) (memory b.0.now b.1.0.now b.1.1.0.now b.1.1.1.0.now e.0.now) z)
unmap-gpa-range-changes κs a z e p = p

allow-changes : Gives 5 allow-kinds.ps allow-kinds.r allow.Learnt (λ κs a z e.
    let b = a.1.1.1 in
    Changes (Allow a.1.0 a.1.1.0) (memory b.0.now b.1.0.now b.1.1.0.now b.1.1.1.0.now a.0.now) (memory b.0.now b.1.0.now b.1.1.0.now b.1.1.1.0.now e.0.now) z)
allow-changes κs a z e p = p

get-refcount-asks : Gives 5 get-refcount-kinds.ps get-refcount-kinds.r get-refcount.Learnt (λ κs a z e.
    let b = a.1.1.1.1 in
    Asks (Refcount a.1.0 a.1.1.0 a.1.1.1.0) (memory b.0.now b.1.0.now b.1.1.0.now b.1.1.1.0.now a.0.now) z)
get-refcount-asks κs a z e p = p

overlaps-asks : Gives 5 overlaps-kinds.ps overlaps-kinds.r overlaps.Learnt (λ κs a z e.
    let b = a.1.1.1.1 in
    Asks (Overlaps a.1.0 a.1.1.0 a.1.1.1.0) (memory b.0.now b.1.0.now b.1.1.0.now b.1.1.1.0.now a.0.now) z)
overlaps-asks κs a z e p = p

permissions-asks : Gives 6 permissions-kinds.ps permissions-kinds.r permissions.Learnt (λ κs a z e.
    let b = a.1.1.1.1 in
    Asks (Permissions a.1.0 a.1.1.0 (length a.1.1.1.0.now)) (memory b.0.now b.1.0.now b.1.1.0.now b.1.1.1.0.now a.0.now) z)
permissions-asks κs a z e p calls g = (p calls g).reads

stream-pages : Gives 6 stream-kinds.ps stream-kinds.r stream.Learnt (λ κs a z e.
    let b = a.1.1.1.1 in
    Page (memory b.0.now b.1.0.now b.1.1.0.now b.1.1.1.0.now a.0.now) a.1.0 a.1.1.0 a.1.1.1.0.now e.1.1.1.0.now z)
stream-pages κs a z e p = p

-- a page is a call that asks, too
page-asks : {m : Memory} {k from : ℕ} {out out' : List ℕ} {a : Answer} → Page m k from out out' a → Asks (Remap k from (length out)) m a
page-asks p calls g = (p calls g).reads

copy-segments-copies : Gives 2 copy-segments-kinds.ps copy-segments-kinds.r copy-segments.Learnt (λ κs a z e.
    Copies a.0.now a.1.0.now e.1.0.now z)
copy-segments-copies κs a z e p = p

start-begins : Gives 1 start-kinds.ps start-kinds.r start.Learnt (λ κs a z e.
    Begins a.0.next.now a.0.words.now a.0.segments.now a.0.n a.1.0 z)
start-begins κs a z e p table whole = (p.0, p.1.0)

next-mapping-steps : Gives 1 next-mapping-kinds.ps next-mapping-kinds.r next-mapping.Learnt (λ κs a z e.
    Steps a.0.next.now a.0.words.now a.0.segments.now a.0.n a.1.0 z)
next-mapping-steps κs a z e p table ready = p
