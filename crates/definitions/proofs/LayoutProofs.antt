-- The starred layouts hold of the definitions: one theorem over the rows. The rows are computed on tables, which show the
-- state; the table of 1,024 single addresses is the one that its calls grow.
use Prim.Native.Nat.{ℕ, zero, suc, ◌+◌, ◌-◌, ◌*◌, ◌^◌, ◌<◌, ◌≤◌}
use mathlib.Core.Path.{◌≡◌, refl, ap, ap₂, ◌∙◌}
use mathlib.Core.Bool.{Bool, true, false, ◌&&◌}
use mathlib.Core.List.{List, [], ◌∷◌, ◌++◌, map as map_list}
use native.Mathlib.Omega.{arith}
use borrow.Author.Tests.{le-leb, lt-leb, lt-ltb, le-ltb, ne_eqb, eq-eqb, leb-true, ltb-true}
use lib.ListN.{length, get_or, replicate}
use Rattle.definitions.specs.Tests.{◌<?◌, ◌≤?◌, ◌=?◌, inside, host, guest, host_up, guest_up, fits, all, any}
use Rattle.definitions.specs.Rights.{RIGHTS, named}
use Rattle.definitions.specs.Values.{nothing, held, raise, lower, rights_of}
use Rattle.definitions.specs.Regions.{region, regions, within, meets, same, joins, join, joined, splits, cut, freed}
use Rattle.definitions.specs.Segments.{segment, host_end, span_end, in_order, place, overlaps, is_identity, mapped, front, rest, cut_out, host_touched, host_parts, unmapped, touched, span_whole, span_inside, span_parts, place_all, unmapped_gpa}
use Rattle.definitions.specs.Stream.{shared_part, segment_yields, identity, merge}
use Rattle.definitions.specs.Reckoning.{Compartment, empty, compartment_of, with_segments}
use Rattle.definitions.specs.Questions.{ask, number_of, value_of, every_named, begun, last_end, cuts_fit, can_lower, ranged, on_overlaps, on_map, on_unmap, on_unmap_gpa}
use Rattle.definitions.specs.Calls.{compartment, after, after_from, next, start, stream_of, together, others, allowed}
use Rattle.definitions.specs.Layouts.{Row, row, same_table, same_list, same_stream, holds, add, single_adds, single_rows, single_mappings, two, all_pool, crowded_row, small_rows, allowance_rows, rows, stored as stored_one}
use Rattle.definitions.specs.declared.addr.HostAddr.{HostAddr}
use Rattle.definitions.specs.declared.region.Values.{Values}
use Rattle.definitions.specs.declared.region.Region.{Region}
use Rattle.definitions.specs.declared.remapper.Segment.{Segment}
use Rattle.definitions.specs.declared.remapper.Mapping.{Mapping}
use Rattle.std.specs.Prelude.{Ok, Err}
use Rattle.definitions.specs.declared.answer.Refusal.TheVariants.{OutOfMemory}
use Rattle.definitions.specs.declared.call.Call.{Call}
use Rattle.definitions.specs.declared.call.Call.TheVariants.{Add, Remove, Refcount, Overlaps, Map, Unmap, UnmapGpa, Permissions, Remap, Mappings, Allow}
use Rattle.definitions.proofs.Bools.{both, or-true}
use Rattle.definitions.proofs.Lists.{Longest, gap, fill, change, peak, added, removed, below, above, without, left_over}
use Rattle.definitions.proofs.RunLaws.{regions-runs, regions-end}
use Rattle.definitions.proofs.UncoveredLaws.{Sized, stream-is}
use Rattle.definitions.proofs.SegmentLaws.{AllGood}
use Rattle.definitions.proofs.Reckoned.{length-after}
use Rattle.definitions.proofs.Stored.{Stored, stored, stored_next}
use Rattle.definitions.proofs.PeakLaws.{hole, gaps}
use Rattle.definitions.proofs.Tables.{Table, no_table, can_raise_on, add_change_on, new_records_on, remove_change_on, add_on, remove_on, allow_on, answer_on, leaves, Shelf, start_on, asks_on, next_on, after_on}
use Rattle.definitions.proofs.TableLaws.{Shown, Shows, shows-start, at-is, asks-is, next-is, after_is, Fits, AllFit}

-- ---- a row, computed on tables

stream_on : Table → List Mapping
stream_on t = merge t.records (left_over t.segments t.records) t.segments

holds_after : Row → Shelf → Bool
holds_after w ts =
    let t = get_or (next_on ts w.asked).tables 0 no_table in
    (number_of (asks_on ts w.asked) =? w.number) && (value_of (asks_on ts w.asked) =? w.value)
    && same_table w.table t.records && same_list w.list t.segments && same_stream w.mappings (stream_on t)

sized : (ss : List Segment) → AllGood ss → Sized ss
sized [] h = tt
sized (s ∷ ss) h = (h.0.some, sized ss h.1)

-- the stream of a compartment that a table shows
stream-shown : (c : Compartment) (t : Table) → Stored c → Shown c t → stream_of c ≡ stream_on t
unfolding stream_of stream_on
stream-shown c t k m =
    stream-is c.segments (sized c.segments k.good) 0 (regions c.values) (regions-runs c.values).ordered
    (regions-runs c.values).full (regions-end c.values)
    ∙ ap₂ (λ (rs : List Region) (ss : List Segment). merge rs (left_over ss rs) ss) m.records m.segments

holds-is : (w : Row) → AllFit w.before → Fits w.asked → holds w ≡ holds_after w (after_on start_on w.before)
unfolding holds holds_after after compartment
holds-is w h f =
    let s = after_from start w.before in
    let ts = after_on start_on w.before in
    let m : Shows s ts = after_is w.before start start_on h shows-start in
    let n : Shown (compartment (next s w.asked) 0) (get_or (next_on ts w.asked).tables 0 no_table)
    = at-is (next s w.asked).compartments (next_on ts w.asked).tables 0 (next-is s ts m w.asked f).tables in
    let k : Stored (compartment (next s w.asked) 0) = stored_next s w.asked (length-after w.before) (stored w.before) 0 in
    rw (stream-shown _ _ k n, asks-is s ts m w.asked f, n.records, n.segments)

-- ---- a single address behind all others

-- each region ends below an address
abbrev EndsBelow : ℕ → List Region → Type 0
EndsBelow lo [] = Unit {0}
EndsBelow lo (r ∷ rs) = (r.start.0 < r.end.0) × (r.end.0 < lo) × EndsBelow lo rs

module _ (a e : HostAddr) (l : a.0 < e.0) where
  none-splits : (y : HostAddr) → a.0 ≤ y.0 → (rs : List Region) → EndsBelow a.0 rs → any (splits y) rs ≡ false
  unfolding splits
  none-splits y h [] b = refl
  none-splits y h (r ∷ rs) b = simp (lt-ltb r.start.0 y.0 (omega arith), le-ltb y.0 r.end.0 (omega arith)) (none-splits y h rs b.2)

  uncut : (y : HostAddr) → a.0 ≤ y.0 → (rs : List Region) → EndsBelow a.0 rs → cut y rs ≡ rs
  unfolding cut splits
  uncut y h [] b = refl
  uncut y h (r ∷ rs) b =
      simp (lt-ltb r.start.0 y.0 (omega arith), le-ltb y.0 r.end.0 (omega arith)) (ap (λ t. r ∷ t) (uncut y h rs b.2))

  one-gap : (rs : List Region) → EndsBelow a.0 rs → gaps a e rs ≡ region a e (raise 0 nothing) ∷ []
  unfolding gaps hole
  one-gap [] b = simp (lt-ltb a.0 e.0 l)
  one-gap (r ∷ rs) b = simp (le-leb r.end.0 a.0 (omega arith)) (one-gap rs b.2)

  filled-last : (rs : List Region) → EndsBelow a.0 rs → fill a e rs ≡ rs ++ (region a e nothing ∷ [])
  unfolding fill gap
  filled-last [] b = simp (lt-ltb a.0 e.0 l)
  filled-last (r ∷ rs) b = simp (le-leb r.end.0 a.0 (omega arith)) (ap (λ t. r ∷ t) (filled-last rs b.2))

  none-met : (k : ℕ) (rs : List Region) → EndsBelow a.0 rs → can_raise_on a e k rs ≡ true
  unfolding can_raise_on meets
  none-met k [] b = refl
  none-met k (r ∷ rs) b = simp (le-ltb a.0 r.end.0 (omega arith)) (none-met k rs b.2)

  changed-last : (f : Values → Values) (rs : List Region) → EndsBelow a.0 rs
      → change f a e (rs ++ (region a e nothing ∷ [])) ≡ rs ++ (region a e (f nothing) ∷ [])
  unfolding change within region
  changed-last f [] b = simp (le-leb a.0 a.0 (omega arith), le-leb e.0 e.0 (omega arith))
  changed-last f (r ∷ rs) b = simp (lt-leb a.0 r.start.0 (omega arith)) (ap (λ t. r ∷ t) (changed-last f rs b.2))

  -- longest runs with one more behind a gap are still longest
  joined-last : (v : Values) (rs : List Region) → EndsBelow a.0 rs → Longest rs → joined (rs ++ (region a e v ∷ [])) ≡ rs ++ (region a e v ∷ [])
  unfolding joined join joins region
  joined-last v [] b h = refl
  joined-last v (r ∷ []) b h = simp (ne_eqb r.end.0 a.0 (omega arith))
  joined-last v (r ∷ q ∷ qs) b h = rw (joined-last v (q ∷ qs) b.2 h.1, h.0)

  pub added-last : (k : ℕ) (rs : List Region) → EndsBelow a.0 rs → Longest rs → added a e k rs ≡ rs ++ (region a e (raise k nothing) ∷ [])
  unfolding added peak
  added-last k rs b h =
      rw (uncut a (omega arith) rs b, uncut e (omega arith) rs b, filled-last rs b, changed-last (raise k) rs b)
      (joined-last (raise k nothing) rs b h)

  -- it is accepted while one more is allowed, and a change
  add-last : (m : ℕ) (rs : List Region) → EndsBelow a.0 rs → length rs + 1 ≤ m → add_on m rs a e 1 ≡ Ok 1
  unfolding add_on ranged ask new_records_on add_change_on
  add-last m rs b h =
      simp (
        le-leb a.0 e.0 (omega arith),
        ne_eqb a.0 e.0 (omega arith),
        none-met 1 rs b,
        none-splits a (omega arith) rs b,
        none-splits e (omega arith) rs b,
        one-gap rs b,
        le-leb (length rs + 1) m h,
      )

-- ---- single addresses, grown by calls

evens : ℕ → ℕ → List Region
evens x zero = []
evens x (suc n) = region (host x) (host (x + 1)) (raise 1 nothing) ∷ evens (x + 2) n

length-evens : (x n : ℕ) → length (evens x n) ≡ n
unfolding evens
length-evens x zero = refl
length-evens x (suc n) = ap suc (length-evens (x + 2) n)

evens-below : (lo x n : ℕ) → x + 2 * n ≤ lo → EndsBelow lo (evens x n)
unfolding evens region host
evens-below lo x zero h = tt
evens-below lo x (suc n) h = (omega arith, omega arith, evens-below lo (x + 2) n (omega arith))

evens-longest : (x n : ℕ) → Longest (evens x n)
unfolding evens joins region host
evens-longest x zero = tt
evens-longest x (suc zero) = (tt, tt)
evens-longest x (suc (suc n)) = (simp (ne_eqb (x + 1) (x + 2) (omega arith)), evens-longest (x + 2) (suc n))

evens_snoc : (x n y : ℕ) → y ≡ x + 2 * n → evens x n ++ (region (host y) (host (y + 1)) (raise 1 nothing) ∷ []) ≡ evens x (suc n)
unfolding evens
evens_snoc x zero y e = let q : y ≡ x = omega arith in rw q
evens_snoc x (suc n) y e = ap (λ t. region (host x) (host (x + 1)) (raise 1 nothing) ∷ t) (evens_snoc (x + 2) n y (omega arith))

-- compartment 0 has them, and the whole pool as its allowance
crowded : ℕ → Shelf
crowded n = record {
  tables = record { records = evens 0 n; segments = [] } ∷ replicate 7 no_table;
  allowances = 1024 ∷ replicate 7 0;
}

module _ (n y : ℕ) (e : y ≡ 2 * n) (l : n < 1024) where
  crowded-asks : asks_on (crowded n) (add y (y + 1) 1) ≡ Ok 1
  unfolding asks_on answer_on compartment_of crowded ask host
  crowded-asks = add-last (host y) (host (y + 1)) (omega arith) 1024 (evens 0 n) (evens-below y 0 n (omega arith)) (omega (arith, length-evens 0 n))

  crowded-next : next_on (crowded n) (add y (y + 1) 1) ≡ crowded (suc n)
  unfolding next_on compartment_of leaves allowed host crowded
  crowded-next = rw crowded-asks (more (added-last (host y) (host (y + 1)) (omega arith) 1 (evens 0 n) (evens-below y 0 n (omega arith)) (evens-longest 0 n) ∙ evens_snoc 0 n y (omega arith)))
    where
      more : added (host y) (host (y + 1)) 1 (evens 0 n) ≡ evens 0 (suc n)
          → ◌≡◌ {A = Shelf} (record { tables = record { records = added (host y) (host (y + 1)) 1 (evens 0 n); segments = [] } ∷ replicate 7 no_table; allowances = 1024 ∷ replicate 7 0 }) (crowded (suc n))
      more q = λ i. record { tables = record { records = q i; segments = [] } ∷ replicate 7 no_table; allowances = 1024 ∷ replicate 7 0 }

grows : (m n y : ℕ) → y ≡ 2 * n → n + m ≤ 1024 → after_on (crowded n) (single_adds y m) ≡ crowded (n + m)
unfolding after_on single_adds
grows zero n y e h = ap crowded (omega arith)
grows (suc m) n y e h =
    ap (λ ts. after_on ts (single_adds (y + 2) m)) (crowded-next n y e (omega arith)) ∙ grows m (suc n) (y + 2) (omega arith) (omega arith)
    ∙ ap crowded (omega arith)

singles-fit : (y m : ℕ) → y + 2 * m ≤ 2 ^ 64 → AllFit (single_adds y m)
unfolding single_adds host
singles-fit y zero h = tt
singles-fit y (suc m) h = (omega arith, singles-fit (y + 2) m (omega arith))

-- ---- with 1,024 records in use, an add that needs one more is refused

evens-unsplit : (y : HostAddr) (x n : ℕ) → any (splits y) (evens x n) ≡ false
unfolding evens splits region host
evens-unsplit y x zero = refl
evens-unsplit y x (suc n) = go (x <? y.0) refl (evens-unsplit y (x + 2) n)
  where
    go : (t : Bool) → (x <? y.0) ≡ t → any (splits y) (evens (x + 2) n) ≡ false → any (splits y) (evens x (suc n)) ≡ false
    go true d ih = simp (d, le-ltb y.0 (x + 1) (omega (arith, ltb-true x y.0 d))) ih
    go false d ih = simp d ih

evens-raise : (a e : HostAddr) (x n : ℕ) → can_raise_on a e 1 (evens x n) ≡ true
unfolding can_raise_on evens region every_named RIGHTS named raise nothing
evens-raise a e x zero = refl
evens-raise a e x (suc n) = simp or-true (evens-raise a e (x + 2) n)

evens-stream : (x n : ℕ) → same_stream (single_mappings x n) (map_list identity (evens x n)) ≡ true
unfolding same_stream single_mappings evens identity region host guest rights_of RIGHTS raise nothing named
evens-stream x zero = refl
evens-stream x (suc n) =
    let w : x + 1 - x ≡ 1 = omega arith in simp (eq-eqb x x refl, w) (evens-stream (x + 2) n)

evens-shown : (x n : ℕ) → same_table (single_rows x n) (evens x n) ≡ true
unfolding same_table single_rows evens region host rights_of RIGHTS raise nothing named
evens-shown x zero = refl
evens-shown x (suc n) = simp (eq-eqb x x refl, eq-eqb (x + 1) (x + 1) refl) (evens-shown (x + 2) n)

module _ (k : ℕ) (e : suc (suc k) ≡ 1024) where
  refused : asks_on (crowded (suc (suc k))) (add 0 2 1) ≡ Err OutOfMemory
  unfolding asks_on answer_on compartment_of crowded ask add_on ranged new_records_on gaps hole host region evens
  refused = simp (evens-raise, evens-unsplit, lt-leb (length (evens 0 (suc (suc k))) + 1) 1024 (omega (arith, length-evens 0 (suc (suc k)))))

  crowded-holds : (b : List Call)
      → holds_after (row b (add 0 2 1) 5 0 (single_rows 0 (suc (suc k))) [] (single_mappings 0 (suc (suc k)))) (crowded (suc (suc k))) ≡ true
  unfolding holds_after row next_on crowded same_list stream_on left_over merge
  crowded-holds b = rw (refused, evens-shown 0 (suc (suc k)), evens-stream 0 (suc (suc k)))

-- ---- all rows

-- the ends of its ranges are 64-bit numbers
unfoldable pub fits_call : Call → Bool
fits_call (Add k a e r) = e.0 ≤? 2 ^ 64
fits_call (Remove k a e r) = e.0 ≤? 2 ^ 64
fits_call (Refcount k a e) = true
fits_call (Overlaps k g n) = true
fits_call (Map k h g n t) = true
fits_call (Unmap k h n) = true
fits_call (UnmapGpa k g n) = true
fits_call (Permissions k i n) = true
fits_call (Remap k i n) = true
fits_call (Mappings k) = true
fits_call (Allow k n) = true

fits-call : (c : Call) → fits_call c ≡ true → Fits c
unfolding fits_call
fits-call (Add k a e r) h = leb-true e.0 (2 ^ 64) h
fits-call (Remove k a e r) h = leb-true e.0 (2 ^ 64) h
fits-call (Refcount k a e) h = tt
fits-call (Overlaps k g n) h = tt
fits-call (Map k p g n t) h = tt
fits-call (Unmap k p n) h = tt
fits-call (UnmapGpa k g n) h = tt
fits-call (Permissions k i n) h = tt
fits-call (Remap k i n) h = tt
fits-call (Mappings k) h = tt
fits-call (Allow k n) h = tt

pub fit_all : (cs : List Call) → all fits_call cs ≡ true → AllFit cs
fit_all [] h = tt
fit_all (c ∷ cs) h = let p = both (fits_call c) (all fits_call cs) h in (fits-call c p.0, fit_all cs p.1)

-- all that the rows compute with, named once
unfoldable pub opened : Unit {0}
unfolding inside host guest host_up guest_up fits RIGHTS named nothing held raise lower rights_of region within meets same joins join joined splits cut freed segment host_end span_end in_order place overlaps is_identity mapped front rest cut_out host_touched host_parts unmapped touched span_whole span_inside span_parts place_all unmapped_gpa empty compartment_of with_segments ask every_named begun last_end cuts_fit can_lower ranged on_overlaps on_map on_unmap on_unmap_gpa row same_table same_list same_stream two stored_one small_rows allowance_rows shared_part segment_yields identity merge below above without left_over stream_on gap fill change peak added removed hole gaps no_table can_raise_on add_change_on new_records_on remove_change_on add_on remove_on allow_on answer_on leaves together others allowed start_on asks_on next_on after_on holds_after fits_call
opened = tt

-- a row that fits, and holds as computed on tables
computes : Row → Bool
computes w = (all fits_call w.before && fits_call w.asked) && holds_after w (after_on start_on w.before)

computed : (w : Row) → computes w ≡ true → holds w ≡ true
unfolding computes
computed w h =
    let p = both _ _ h in
    let q = both (all fits_call w.before) (fits_call w.asked) p.0 in
    holds-is w (fit_all w.before q.0) (fits-call w.asked q.1) ∙ p.1

computed-all : (ws : List Row) → all computes ws ≡ true → all holds ws ≡ true
computed-all [] h = refl
computed-all (w ∷ ws) h = let p = both (computes w) (all computes ws) h in rw (computed w p.0, computed-all ws p.1)

small-compute : all computes (small_rows ++ allowance_rows) ≡ true
unfolding opened computes
small-compute = refl

-- the whole pool is set aside for compartment 0
crowded-start : after_on start_on all_pool ≡ crowded 0
unfolding opened all_pool crowded evens
crowded-start = refl

after_on-append : (cs ds : List Call) (ts : Shelf) → after_on ts (cs ++ ds) ≡ after_on (after_on ts cs) ds
unfolding after_on
after_on-append [] ds ts = refl
after_on-append (c ∷ cs) ds ts = after_on-append cs ds (next_on ts c)

fit_append : (cs ds : List Call) → AllFit cs → AllFit ds → AllFit (cs ++ ds)
fit_append [] ds h g = g
fit_append (c ∷ cs) ds h g = (h.0, fit_append cs ds h.1 g)

pool-fits : AllFit all_pool
unfolding all_pool fits_call
pool-fits = fit_all all_pool refl

crowded-row : holds crowded_row ≡ true
unfolding crowded_row row host
crowded-row =
    holds-is crowded_row (fit_append all_pool (single_adds 0 1024) pool-fits (singles-fit 0 1024 (omega arith))) (omega arith)
    ∙ ap (holds_after crowded_row) (after_on-append all_pool (single_adds 0 1024) start_on)
    ∙ ap (λ ts. holds_after crowded_row (after_on ts (single_adds 0 1024))) crowded-start
    ∙ ap (holds_after crowded_row) (grows 1024 0 0 refl (omega arith)) ∙ crowded-holds 1022 refl (all_pool ++ single_adds 0 1024)

-- every starred layout holds
pub layouts : all holds rows ≡ true
unfolding rows
layouts = rw (crowded-row, computed-all (small_rows ++ allowance_rows) small-compute)
