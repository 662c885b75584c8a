-- What holds of each compartment after every list of calls: its segments are good, in order and at most 64, one with repeat 1
-- shares no guest address with another, an address that is not held has no value, and no count is above 65,535.
use Prim.Native.Nat.{ℕ, zero, suc, ◌+◌, ◌-◌, ◌*◌, ◌<◌, ◌≤◌}
use mathlib.Core.Path.{◌≡◌, refl, subst}
use mathlib.Core.Bool.{Bool, true, false, ◌&&◌, ◌||◌}
use mathlib.Core.List.{List, [], ◌∷◌}
use lib.ListN.{length}
use native.Mathlib.Omega.{arith}
use native.Mathlib.Nat.{mul-le-mul_left}
use borrow.Author.Tests.{ltb-true, eqb-true, eqb-false, ne_eqb}
use Rattle.definitions.specs.Tests.{◌<?◌, ◌≤?◌, ◌=?◌, host, host_up, guest_up, all, each}
use Rattle.definitions.specs.Rights.{Right, named, count_of}
use Rattle.definitions.specs.Values.{nothing, raise, lower, changed_in}
use Rattle.definitions.specs.Regions.{addresses_from, addresses}
use Rattle.definitions.specs.Segments.{segment, span_end, is_identity, mapped, host_parts, unmapped, span_parts, place_all, unmapped_gpa, in_order}
use Rattle.definitions.specs.Reckoning.{Compartment, empty, with_values, with_segments, reckon}
use Rattle.definitions.specs.Questions.{accepted, every_named, can_raise, on_unmap_gpa}
use Rattle.definitions.specs.Calls.{State, start, compartment, answer_in, next, after}
use Rattle.definitions.specs.declared.addr.HostAddr.{HostAddr}
use Rattle.definitions.specs.declared.addr.GuestAddr.{GuestAddr}
use Rattle.definitions.specs.declared.region.Values.{Values}
use Rattle.definitions.specs.declared.remapper.Segment.{Segment}
use Rattle.definitions.specs.declared.call.Call.{Call}
use Rattle.definitions.specs.declared.call.Call.TheVariants.{Add, Remove, Refcount, Overlaps, Map, Unmap, UnmapGpa, Permissions, Remap, Mappings, Allow}
use Rattle.definitions.proofs.Bools.{Where, inn, low, high, where?, both}
use Rattle.definitions.proofs.RightLaws.{each_right, count-made, named-bit}
use Rattle.definitions.proofs.Lists.{Blank}
use Rattle.definitions.proofs.RegionsAre.{raised-blank, lowered-blank}
use Rattle.definitions.proofs.SegmentLaws.{AllGood, place-good, length-place, place-order}
use Rattle.definitions.proofs.GuestLaws.{Unshared, within-unshared, place-unshared, overlaps-untouched}
use Rattle.definitions.proofs.CutLaws.{EachParts, host-each, span-each, cut-good, cut-order, cut-within}
use Rattle.definitions.proofs.Passed.{AddPassed, MapPassed, UnmapPassed, add-passed, map-passed, unmap-passed, unmap_gpa-passed}
use Rattle.definitions.proofs.Reckoned.{start-empty, always-next, always}

-- holders and the counts fit 16 bits
pub record Counted (v : Values) : Type 0 where
  pub refcount : v.refcount ≤ 65535
  pub counts : (t : Right) → count_of t v ≤ 65535

pub record Stored (c : Compartment) : Type 0 where
  pub good : AllGood c.segments
  pub order : in_order c.segments ≡ true
  pub few : length c.segments ≤ 64
  pub unshared : Unshared c.segments
  pub blank : Blank c.values
  pub counted : (x : HostAddr) → Counted (c.values x)

-- Counts

nothing-counted : Counted nothing
unfolding nothing
nothing-counted = record { refcount = omega arith; counts = λ t. rw (count-made 0 (λ t. 0) t) (omega arith) }

-- question 4 of one count
raised-count : (n m : ℕ) → n ≤ 65535 → m ≤ 1 → ((m =? 0) || (n <? 65535)) ≡ true → n + m ≤ 65535
raised-count n m p q h = go (m =? 0) refl h
  where
    go : (t : Bool) → (m =? 0) ≡ t → (t || (n <? 65535)) ≡ true → n + m ≤ 65535
    go true d k = omega (arith, eqb-true m 0 d)
    go false d k = omega (arith, ltb-true n 65535 k)

raise-counted : (r : ℕ) (v : Values) → Counted v → ((v.refcount <? 65535) && every_named (λ n. n <? 65535) r v) ≡ true
    → Counted (raise r v)
unfolding raise every_named
raise-counted r v c h =
    let p = both (v.refcount <? 65535) (every_named (λ n. n <? 65535) r v) h in
    record {
      refcount = omega (arith, ltb-true v.refcount 65535 p.0);
      counts = λ t.
          rw (count-made (v.refcount + 1) (λ t. count_of t v + named t r) t)
          (raised-count (count_of t v) (named t r) (c.counts t) (omega (arith, named-bit t r))
          (each_right (λ t. (named t r =? 0) || (count_of t v <? 65535)) p.1 t));
    }

lower-counted : (r : ℕ) (v : Values) → Counted v → Counted (lower r v)
unfolding lower
lower-counted r v c = go (v.refcount ≤? 1) refl
  where
    go : (t : Bool) → (v.refcount ≤? 1) ≡ t → Counted (lower r v)
    go true d = simp d nothing-counted
    go false d =
        simp d (record {
          refcount = omega arith;
          counts = λ t. rw (count-made (v.refcount - 1) (λ t. count_of t v - named t r) t) (omega (arith, c.counts t));
        })

-- what passes for all addresses of a range passes for each
all_from : (p : HostAddr → Bool) (n y : ℕ) (x : HostAddr) → all p (addresses_from y n) ≡ true → y ≤ x.0 → x.0 < y + n
    → p x ≡ true
unfolding addresses_from host
all_from p zero y x h i j = absurd (omega arith)
all_from p (suc n) y x h i j =
    go (y =? x.0) refl (both (p (host y)) (all p (addresses_from (suc y) n)) h) (λ m l r. all_from p n (suc y) x m l r)
  where
    go : (t : Bool) → (y =? x.0) ≡ t → (p (host y) ≡ true) × (all p (addresses_from (suc y) n) ≡ true)
        → (all p (addresses_from (suc y) n) ≡ true → suc y ≤ x.0 → x.0 < suc y + n → p x ≡ true) → p x ≡ true
    go true d b ih = subst (λ (i : ℕ). p (host i) ≡ true) (eqb-true y x.0 d) b.0
    go false d b ih =
        let ne : y ≡ x.0 → ⊥ = eqb-false y x.0 d in ih b.1 (omega arith) (omega arith)

pub all-addresses : (p : HostAddr → Bool) (a e x : HostAddr) → all p (addresses a e) ≡ true → a.0 ≤ x.0 → x.0 < e.0
    → p x ≡ true
unfolding addresses
all-addresses p a e x h i j = all_from p (e.0 - a.0) a.0 x h i (omega arith)

changed-counted : (g : Values → Values) (a e : HostAddr) (f : HostAddr → Values) → ((x : HostAddr) → Counted (f x))
    → ((x : HostAddr) → a.0 ≤ x.0 → x.0 < e.0 → Counted (g (f x))) → (x : HostAddr) → Counted (changed_in g a e f x)
unfolding changed_in
changed-counted g a e f c h x = go (where? a.0 e.0 x.0)
  where
    go : Where a.0 e.0 x.0 → Counted (changed_in g a e f x)
    go (inn d i j) = simp d (h x i j)
    go (low d i) = simp d (c x)
    go (high d i j) = simp d (c x)

-- One accepted call each

module _ (n : ℕ) (c : Compartment) (s : Stored c) where
  add-stored : (k : ℕ) (a e : HostAddr) (r : ℕ) → AddPassed n c a e r → Stored (reckon (Add k a e r) c)
  unfolding reckon with_values can_raise
  add-stored k a e r p = record {
    good = s.good;
    order = s.order;
    few = s.few;
    unshared = s.unshared;
    blank = raised-blank a e r c.values s.blank;
    counted = changed-counted (raise r) a e c.values s.counted (λ x i j.
        raise-counted r (c.values x) (s.counted x)
        (all-addresses (λ x. ((c.values x).refcount <? 65535) && every_named (λ n. n <? 65535) r (c.values x)) a e x
        (p.counts (ne_eqb a.0 e.0 (λ q. omega arith))) i j));
  }

  remove-stored : (k : ℕ) (a e : HostAddr) (r : ℕ) → Stored (reckon (Remove k a e r) c)
  unfolding reckon with_values
  remove-stored k a e r = record {
    good = s.good;
    order = s.order;
    few = s.few;
    unshared = s.unshared;
    blank = lowered-blank a e r c.values s.blank;
    counted =
        changed-counted (lower r) a e c.values s.counted (λ x i j. lower-counted r (c.values x) (s.counted x));
  }

  -- another list of segments
  segments-stored : (ss : List Segment) → AllGood ss → in_order ss ≡ true → length ss ≤ 64 → Unshared ss → Stored (with_segments c ss)
  unfolding with_segments
  segments-stored ss g o l u = record { good = g; order = o; few = l; unshared = u; blank = s.blank; counted = s.counted }

  map-stored : (k : ℕ) (h : HostAddr) (g : GuestAddr) (m t : ℕ) → MapPassed c h g m t → Stored (reckon (Map k h g m t) c)
  unfolding reckon mapped segment span_end guest_up
  map-stored k h g m t p = go (is_identity h g t) refl
    where
      some : 1 ≤ m * t
      some = let l : m * 1 ≤ m * t = mul-le-mul_left m p.good.times in omega (arith, p.good.some)

      go : (b : Bool) → is_identity h g t ≡ b → Stored (reckon (Map k h g m t) c)
      go true d = simp d (segments-stored c.segments s.good s.order s.few s.unshared)
      go false d =
          let slot = p.slot d in
          simp d (segments-stored _ (place-good _ c.segments p.good s.good) (place-order _ c.segments s.order)
          (omega (arith, length-place (segment h g m t) c.segments))
          (place-unshared (segment h g m t) c.segments (overlaps-untouched g (m * t) c.segments some p.apart) s.unshared))

  -- the list as it was
  same-stored : Stored (with_segments c c.segments)
  same-stored = segments-stored c.segments s.good s.order s.few s.unshared

  -- and cut
  cut-stored : (f : Segment → List Segment) → EachParts f c.segments → length (place_all (each f c.segments) []) ≤ 64
      → Stored (with_segments c (place_all (each f c.segments) []))
  cut-stored f p l =
      segments-stored _ (cut-good f c.segments s.good p) (cut-order f c.segments) l
      (within-unshared c.segments _ (cut-within f c.segments s.good p) s.unshared)

  unmap-stored : (k : ℕ) (h : HostAddr) (m : ℕ) → UnmapPassed c h m → Stored (reckon (Unmap k h m) c)
  unfolding reckon unmapped host_up
  unmap-stored k h m p = go (m =? 0) refl
    where
      go : (b : Bool) → (m =? 0) ≡ b → Stored (reckon (Unmap k h m) c)
      go true d = simp d same-stored
      go false d =
          simp d (cut-stored (host_parts h (host_up h m)) (host-each h (host_up h m) c.segments (omega arith)) (simp d at p.slot))

  unmap_gpa-stored : (k : ℕ) (g : GuestAddr) (m : ℕ) → accepted (on_unmap_gpa c g m) ≡ true → Stored (reckon (UnmapGpa k g m) c)
  unfolding reckon unmapped_gpa guest_up place_all
  unmap_gpa-stored k g m h = go (m =? 0) refl (length c.segments =? 0) refl
    where
      -- no segment, none after
      none : (ss : List Segment) → length ss ≡ 0 → EachParts (span_parts g (guest_up g m)) ss × (length (place_all (each (span_parts g (guest_up g m)) ss) []) ≤ 64)
      none [] z = (tt, omega arith)
      none (t ∷ ts) z = absurd (omega arith)

      go : (b : Bool) → (m =? 0) ≡ b → (t : Bool) → (length c.segments =? 0) ≡ t → Stored (reckon (UnmapGpa k g m) c)
      go true d t f = simp d same-stored
      go false d true f =
          let n = none c.segments (eqb-true (length c.segments) 0 f) in
          simp d (cut-stored (span_parts g (guest_up g m)) n.0 n.1)
      go false d false f =
          let p = unmap_gpa-passed c g m h (simp (d, f)) in
          simp d (cut-stored (span_parts g (guest_up g m)) (span-each g (guest_up g m) c.segments (omega arith) s.good p.single) (simp d at p.slot))

pub call-stored : (n m : ℕ) (c : Compartment) (call : Call) → Stored c → accepted (answer_in n m c call) ≡ true → Stored (reckon call c)
unfolding answer_in reckon
call-stored n m c (Add k a e r) s h = add-stored m c s k a e r (add-passed m c a e r h)
call-stored n m c (Remove k a e r) s h = remove-stored m c s k a e r
call-stored n m c (Map k h g size t) s p = map-stored m c s k h g size t (map-passed c h g size t p)
call-stored n m c (Unmap k h size) s p = unmap-stored m c s k h size (unmap-passed c h size p)
call-stored n m c (UnmapGpa k g size) s p = unmap_gpa-stored m c s k g size p
call-stored n m c (Refcount k a e) s h = s
call-stored n m c (Overlaps k g size) s h = s
call-stored n m c (Permissions k i room) s h = s
call-stored n m c (Remap k i room) s h = s
call-stored n m c (Mappings k) s h = s
call-stored n m c (Allow k new) s h = s

pub empty-stored : Stored empty
unfolding empty in_order
empty-stored = record { good = tt; order = refl; few = omega arith; unshared = λ y l. omega arith; blank = λ x h. refl; counted = λ x. nothing-counted }

-- Every list of calls

pub stored_next : (s : State) (c : Call) → length s.compartments ≡ 8 → ((k : ℕ) → Stored (compartment s k)) → (k : ℕ)
    → Stored (compartment (next s c) k)
stored_next = always-next Stored call-stored

pub stored : (calls : List Call) (k : ℕ) → Stored (compartment (after calls) k)
stored = always Stored call-stored empty-stored

-- a stored segment with repeat 1 shares no guest address with another
pub unshared : (calls : List Call) (k : ℕ) → Unshared (compartment (after calls) k).segments
unshared calls k = (stored calls k).unshared

pub start-stored : (k : ℕ) → Stored (compartment start k)
start-stored k = rw (start-empty k) empty-stored

pub bounded : (calls : List Call) (k : ℕ) (x : HostAddr) → Counted ((compartment (after calls) k).values x)
bounded calls k x = (stored calls k).counted x
