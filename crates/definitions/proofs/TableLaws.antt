-- Tables of lists show a state: what the calls answer and leave of the lists is what they answer and leave of the state.
use Rattle.std.specs.Prelude.{if◌then◌else◌}
use Prim.Native.Nat.{ℕ, zero, suc, ◌^◌, ◌<◌, ◌≤◌}
use mathlib.Core.Path.{◌≡◌, refl, sym, ap, ap₂, ◌∙◌}
use mathlib.Core.Bool.{Bool, true, false}
use mathlib.Core.List.{List, [], ◌∷◌, map}
use native.Mathlib.Omega.{arith}
use borrow.Author.Tests.{leb-true, eqb-false}
use lib.ListN.{length, get_or, set, replicate}
use Rattle.definitions.specs.Tests.{◌<?◌, ◌≤?◌, ◌=?◌}
use Rattle.definitions.specs.Values.{nothing}
use Rattle.definitions.specs.Regions.{regions, regions_below, joined, singles, new_records, refcount_of, permission_of}
use Rattle.definitions.specs.Stream.{stream}
use Rattle.definitions.specs.Pages.{page, mapping_group, permission_group}
use Rattle.definitions.specs.Segments.{mapped, unmapped, unmapped_gpa}
use Rattle.definitions.specs.Reckoning.{Compartment, empty, reckon, compartment_of, with_values, with_segments}
use Rattle.definitions.specs.Questions.{ask, accepted, ranged, on_add, on_remove, on_refcount, on_overlaps, on_map, on_unmap, on_unmap_gpa, on_allow}
use Rattle.definitions.specs.Calls.{State, start, compartment, allowance, others, stream_of, stream_groups, permission_groups, answer_in, answer, allowed, next, after_from}
use Rattle.definitions.specs.Script.{Line, call as says, malformed}
use Rattle.definitions.specs.Bundles.{calls_in, and_then, in_turn}
use Rattle.definitions.specs.declared.addr.HostAddr.{HostAddr}
use Rattle.definitions.specs.declared.region.Values.{Values}
use Rattle.definitions.specs.declared.answer.Refusal.TheVariants.{InvalidRange, InvalidMemOps}
use Rattle.definitions.specs.Answers.{Answer}
use Rattle.std.specs.Prelude.{Ok, Err}
use Rattle.definitions.specs.declared.call.Call.{Call}
use Rattle.definitions.specs.declared.call.Call.TheVariants.{Add, Remove, Refcount, Overlaps, Map, Unmap, UnmapGpa, Permissions, Remap, Mappings, Allow}
use Rattle.definitions.proofs.Lists.{Blank, added, removed}
use Rattle.definitions.proofs.RunLaws.{regions-below}
use Rattle.definitions.proofs.RegionsAre.{raised-blank, lowered-blank, added_is, removed-is}
use Rattle.definitions.proofs.PeakLaws.{unheld-gaps}
use Rattle.definitions.proofs.AddressLaws.{can-raise-is, add-change-is, remove-change-is}
use Rattle.definitions.proofs.Tables.{Table, no_table, can_raise_on, add_change_on, new_records_on, remove_change_on, add_on, remove_on, allow_on, answer_on, leaves, Shelf, start_on, asks_on, next_on, after_on, in_turn_on}

pub record Shown (c : Compartment) (t : Table) : Type 0 where
  pub blank : Blank c.values
  pub records : regions c.values ≡ t.records
  pub segments : c.segments ≡ t.segments

abbrev pub AllShown : List Compartment → List Table → Type 0
AllShown [] [] = Unit {0}
AllShown [] (t ∷ ts) = ⊥
AllShown (c ∷ cs) [] = ⊥
AllShown (c ∷ cs) (t ∷ ts) = Shown c t × AllShown cs ts

pub record Shows (s : State) (ts : Shelf) : Type 0 where
  pub tables : AllShown s.compartments ts.tables
  pub allowances : s.allowances ≡ ts.allowances

-- nothing held: no region
pub regions-nothing : regions (λ x. nothing) ≡ []
unfolding regions_below joined singles
regions-nothing = regions-below (λ x. nothing) (λ x e. refl) 0 (omega arith) (λ y l. refl)

pub shown-empty : Shown empty no_table
unfolding empty no_table
shown-empty = record { blank = λ x e. refl; records = regions-nothing; segments = refl }

shows-empty : (n : ℕ) → AllShown (replicate n empty) (replicate n no_table)
shows-empty zero = tt
shows-empty (suc n) = (shown-empty, shows-empty n)

pub shows-start : Shows start start_on
unfolding start start_on
shows-start = record { tables = shows-empty 8; allowances = refl }

pub at-is : (s : List Compartment) (ts : List Table) (k : ℕ) → AllShown s ts → Shown (get_or s k empty) (get_or ts k no_table)
at-is [] [] k h = shown-empty
at-is [] (t ∷ ts) k h = absurd h
at-is (c ∷ cs) [] k h = absurd h
at-is (c ∷ cs) (t ∷ ts) zero h = h.0
at-is (c ∷ cs) (t ∷ ts) (suc k) h = at-is cs ts k h.1

set_is : (s : List Compartment) (ts : List Table) (k : ℕ) (c : Compartment) (t : Table) → Shown c t → AllShown s ts → AllShown (set s k c) (set ts k t)
set_is [] [] k c t p h = tt
set_is [] (u ∷ ts) k c t p h = absurd h
set_is (d ∷ cs) [] k c t p h = absurd h
set_is (d ∷ cs) (u ∷ ts) zero c t p h = (p, h.1)
set_is (d ∷ cs) (u ∷ ts) (suc k) c t p h = (h.0, set_is cs ts k c t p h.1)

-- the ends of ranges are 64-bit numbers
abbrev pub Fits : Call → Type 0
Fits (Add k a e r) = e.0 ≤ 2 ^ 64
Fits (Remove k a e r) = e.0 ≤ 2 ^ 64
Fits (Refcount k a e) = Unit {0}
Fits (Overlaps k g n) = Unit {0}
Fits (Map k h g n t) = Unit {0}
Fits (Unmap k h n) = Unit {0}
Fits (UnmapGpa k g n) = Unit {0}
Fits (Permissions k i n) = Unit {0}
Fits (Remap k i n) = Unit {0}
Fits (Mappings k) = Unit {0}
Fits (Allow k n) = Unit {0}

abbrev pub AllFit : List Call → Type 0
AllFit [] = Unit {0}
AllFit (c ∷ cs) = Fits c × AllFit cs

-- what is asked behind 3 matters only where start is below end
ranged-is : (a e : HostAddr) (rights : ℕ) (p q : Answer) → (a.0 < e.0 → p ≡ q) → ranged a e rights p ≡ ranged a e rights q
unfolding ranged ask
ranged-is a e rights p q h = go (rights <? 64) (a.0 ≤? e.0) refl (a.0 =? e.0) refl
  where
    go : (s t : Bool) → (a.0 ≤? e.0) ≡ t → (u : Bool) → (a.0 =? e.0) ≡ u
        → (if s then (if t then (if u then Ok 0 else p) else Err InvalidRange) else Err InvalidMemOps)
        ≡ (if s then (if t then (if u then Ok 0 else q) else Err InvalidRange) else Err InvalidMemOps)
    go false t d u f = refl
    go true false d u f = refl
    go true true d true f = refl
    go true true d false f = h (omega (arith, leb-true a.0 e.0 d, eqb-false a.0 e.0 f))

-- the paper's new records, counted on the list
pub new-records-is : (a e : HostAddr) (f : HostAddr → Values) → e.0 ≤ 2 ^ 64 → Blank f → new_records a e f ≡ new_records_on a e (regions f)
unfolding new_records new_records_on
new-records-is a e f h b = rw (unheld-gaps a e f h b)

module _ (c : Compartment) (t : Table) (m : Shown c t) where
  pub add_is : (n : ℕ) (a e : HostAddr) (r : ℕ) → e.0 ≤ 2 ^ 64 → on_add n c a e r ≡ add_on n t.records a e r
  unfolding on_add add_on can_raise_on add_change_on
  add_is n a e r h = ranged-is a e r _ _ (λ l. rw (
    can-raise-is a e r c.values l h m.blank,
    new-records-is a e c.values h m.blank,
    add-change-is a e r c.values l h m.blank,
    m.records,
  ))

  pub remove-is : (n : ℕ) (a e : HostAddr) (r : ℕ) → e.0 ≤ 2 ^ 64 → on_remove n c a e r ≡ remove_on n t.records a e r
  unfolding on_remove remove_on remove_change_on
  remove-is n a e r h = ranged-is a e r _ _ (λ l. rw (remove-change-is a e r c.values l h m.blank, m.records))

  by-segments : (f : Compartment → Answer) → ((d : Compartment) → f d ≡ f (with_segments empty d.segments))
      → f c ≡ f (with_segments empty t.segments)
  by-segments f h = h c ∙ ap (λ ss. f (with_segments empty ss)) m.segments

  stream-is : stream_of c ≡ stream t.records t.segments
  unfolding stream_of
  stream-is = ap₂ stream m.records m.segments

  pub allow-is : (others n : ℕ) → on_allow others c n ≡ allow_on others t.records n
  unfolding on_allow allow_on
  allow-is others n = rw m.records

  pub answer-is : (n own : ℕ) (call : Call) → Fits call → answer_in n own c call ≡ answer_on n own t call
  unfolding answer_in answer_on on_refcount on_overlaps on_map on_unmap on_unmap_gpa with_segments permission_groups stream_groups
  answer-is n own (Add k a e r) h = add_is own a e r h
  answer-is n own (Remove k a e r) h = remove-is own a e r h
  answer-is n own (Refcount k a e) h = ap (λ rs. Ok (refcount_of a e rs)) m.records
  answer-is n own (Overlaps k g size) h = by-segments (λ d. on_overlaps d g size) (λ d. refl)
  answer-is n own (Map k p g size r) h = by-segments (λ d. on_map d p g size r) (λ d. refl)
  answer-is n own (Unmap k p size) h = by-segments (λ d. on_unmap d p size) (λ d. refl)
  answer-is n own (UnmapGpa k g size) h = by-segments (λ d. on_unmap_gpa d g size) (λ d. refl)
  answer-is n own (Permissions k i room) h =
      ap (λ rs. Ok (length (page 3 (map (λ r. permission_group (permission_of r)) rs) i room))) m.records
  answer-is n own (Remap k i room) h = ap (λ ms. Ok (length (page 5 (map mapping_group ms) i room))) stream-is
  answer-is n own (Mappings k) h = ap (λ ms. Ok (length ms)) stream-is
  answer-is n own (Allow k new) h = allow-is n new

  pub leaves-is : (call : Call) → Fits call → Shown (reckon call c) (leaves call t)
  unfolding reckon leaves with_values with_segments
  leaves-is (Add k a e r) h = record {
    blank = raised-blank a e r c.values m.blank;
    records = sym (added_is a e r c.values m.blank h) ∙ ap (added a e r) m.records;
    segments = m.segments;
  }
  leaves-is (Remove k a e r) h = record {
    blank = lowered-blank a e r c.values m.blank;
    records = sym (removed-is a e r c.values m.blank h) ∙ ap (removed a e r) m.records;
    segments = m.segments;
  }
  leaves-is (Map k p g n r) h = record { blank = m.blank; records = m.records; segments = ap (mapped p g n r) m.segments }
  leaves-is (Unmap k p n) h = record { blank = m.blank; records = m.records; segments = ap (unmapped p n) m.segments }
  leaves-is (UnmapGpa k g n) h = record { blank = m.blank; records = m.records; segments = ap (unmapped_gpa g n) m.segments }
  leaves-is (Refcount k a e) h = m
  leaves-is (Overlaps k g n) h = m
  leaves-is (Permissions k i n) h = m
  leaves-is (Remap k i n) h = m
  leaves-is (Mappings k) h = m
  leaves-is (Allow k n) h = m

module _ (s : State) (ts : Shelf) (m : Shows s ts) (call : Call) (fit : Fits call) where
  pub asks-is : answer s call ≡ asks_on ts call
  unfolding answer asks_on compartment allowance
  asks-is =
      ap (ask _)
      (answer-is (get_or s.compartments (compartment_of call) empty) (get_or ts.tables (compartment_of call) no_table)
      (at-is s.compartments ts.tables (compartment_of call) m.tables) (others s.allowances (compartment_of call)) (get_or s.allowances (compartment_of call) 0) call fit
      ∙ ap (λ ms. answer_on (others ms (compartment_of call)) (get_or ms (compartment_of call) 0) (get_or ts.tables (compartment_of call) no_table) call) m.allowances)

  pub next-is : Shows (next s call) (next_on ts call)
  unfolding next next_on compartment allowance
  next-is = rw (← asks-is) (go (accepted (answer s call)))
    where
      k : ℕ
      k = compartment_of call

      cs : State
      cs = record { compartments = set s.compartments k (reckon call (get_or s.compartments k empty)); allowances = set s.allowances k (allowed call (get_or s.allowances k 0)) }

      us : Shelf
      us = record { tables = set ts.tables k (leaves call (get_or ts.tables k no_table)); allowances = set ts.allowances k (allowed call (get_or ts.allowances k 0)) }

      go : (b : Bool) → Shows (if b then cs else s) (if b then us else ts)
      go true =
          record {
            tables = set_is s.compartments ts.tables k _ _ (leaves-is (get_or s.compartments k empty) (get_or ts.tables k no_table) (at-is s.compartments ts.tables k m.tables) call fit) m.tables;
            allowances = ap (λ ms. set ms k (allowed call (get_or ms k 0))) m.allowances;
          }
      go false = m

pub after_is : (calls : List Call) (s : State) (ts : Shelf) → AllFit calls → Shows s ts → Shows (after_from s calls) (after_on ts calls)
unfolding after_from after_on
after_is [] s ts h m = m
after_is (c ∷ cs) s ts h m = after_is cs (next s c) (next_on ts c) h.1 (next-is s ts m c h.0)

pub in-turn-is : (groups : List Line) (s : State) (ts : Shelf) → AllFit (calls_in groups) → Shows s ts → in_turn s groups ≡ in_turn_on ts groups
unfolding in_turn in_turn_on calls_in
in-turn-is [] s ts h m = refl
in-turn-is (says c ∷ gs) s ts h m =
    ap₂ and_then (asks-is s ts m c h.0) (in-turn-is gs (next s c) (next_on ts c) h.1 (next-is s ts m c h.0))
in-turn-is (malformed ∷ gs) s ts h m = refl
