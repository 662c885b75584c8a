-- Document 02, order 3: what an accepted unmap leaves, after every list of calls. A host unmap: each address outside the range is
-- covered by as many segments as before, and put at each guest address by as many; one inside is covered by none. A guest
-- unmap: to each guest address outside the range, each host address is put by as many as before; to one inside, by none. In a host
-- unmap this is said of a repeated segment's first copy: the others lie behind it, and a shorter first copy moves them. In a guest
-- unmap it holds of every copy.
use Rattle.std.specs.Prelude.{if◌then◌else◌}
use Prim.Native.Nat.{ℕ, ◌+◌, ◌-◌, ◌%◌, ◌<◌, ◌≤◌}
use mathlib.Core.Path.{◌≡◌, refl, sym, ap, ◌∙◌}
use mathlib.Core.Bool.{Bool, true, false, ◌&&◌, ◌||◌}
use mathlib.Core.List.{List, [], ◌∷◌, ◌++◌}
use lib.ListN.{length}
use native.Mathlib.Omega.{arith}
use native.Mathlib.Nat.{mod-eq_of_lt}
use borrow.Author.Tests.{leb-true, ltb-true, eqb-true, eqb-false, eq-eqb, ne_eqb}
use Rattle.definitions.specs.Tests.{◌<?◌, ◌≤?◌, ◌=?◌, inside, host_up, guest_up, count}
use Rattle.definitions.specs.Segments.{host_end, covers, span_end, unmapped, unmapped_gpa}
use Rattle.definitions.specs.Agreement.{aims}
use Rattle.definitions.specs.Reckoning.{with_segments, reckon, compartment_of}
use Rattle.definitions.specs.Questions.{accepted, refusal_number, number_of}
use Rattle.definitions.specs.Calls.{compartment, answer_in, answer, after}
use Rattle.definitions.specs.declared.addr.HostAddr.{HostAddr}
use Rattle.definitions.specs.declared.addr.GuestAddr.{GuestAddr}
use Rattle.definitions.specs.declared.remapper.Segment.{Segment}
use Rattle.definitions.specs.declared.answer.Refusal.{Refusal}
use Rattle.definitions.specs.declared.answer.Refusal.TheVariants.{NoCompartment, InvalidMemOps, InvalidRange, CountFull, OutOfMemory, InvalidRegion, EndedBefore, CountEmpty, EmptySegment, Overflow, AlreadyAliased, NoSlot, Repeated, OthersTouched, Malformed, PoolExceeded, StillInUse, BundleTooLong, NoScript}
use Rattle.definitions.specs.Answers.{Answer}
use Rattle.std.specs.Prelude.{Ok, Err}
use Rattle.definitions.specs.declared.call.Call.{Call}
use Rattle.definitions.specs.declared.call.Call.TheVariants.{Unmap, UnmapGpa}
use Rattle.definitions.proofs.Bools.{Where, inn, low, high, where?, in-true, both}
use Rattle.definitions.proofs.SegmentLaws.{Good, Singles, single-end}
use Rattle.definitions.proofs.GuestLaws.{reaches, size_reaches}
use Rattle.definitions.proofs.LeftLaws.{unmapped-covers, unmapped-aims, unmapped_gpa-shows}
use Rattle.definitions.proofs.Passed.{unmap_gpa-passed}
use Rattle.definitions.proofs.Reckoned.{accepted-in, next-same, length-after, after-snoc}
use Rattle.definitions.proofs.Stored.{stored}

-- Numbers 13 and 14 never occur: no answer has one
other-number : (r : Refusal) → ((refusal_number r =? 13) || (refusal_number r =? 14)) ≡ false
other-number NoCompartment = refl
other-number InvalidMemOps = refl
other-number InvalidRange = refl
other-number CountFull = refl
other-number OutOfMemory = refl
other-number InvalidRegion = refl
other-number EndedBefore = refl
other-number CountEmpty = refl
other-number EmptySegment = refl
other-number Overflow = refl
other-number AlreadyAliased = refl
other-number NoSlot = refl
other-number Repeated = refl
other-number OthersTouched = refl
other-number Malformed = refl
other-number PoolExceeded = refl
other-number StillInUse = refl
other-number BundleTooLong = refl
other-number NoScript = refl

pub never-13-14 : (a : Answer) → ((number_of a =? 13) || (number_of a =? 14)) ≡ false
never-13-14 (Ok v) = refl
never-13-14 (Err r) = other-number r

-- the segments of a compartment after calls
abbrev pub segments_after : List Call → ℕ → List Segment
segments_after calls k = (compartment (after calls) k).segments

-- does some copy of the segment put x at y?
unfoldable pub lays : HostAddr → GuestAddr → Segment → Bool
lays x y s = covers s x && (reaches y s && ((y.0 - s.gpa.0) % s.size =? x.0 - s.hpa.0))

aims-reach : (x : HostAddr) (y : GuestAddr) (s : Segment) → Good s → aims x y s ≡ true → reaches y s ≡ true
unfolding aims covers reaches host_end host_up inside
aims-reach x y s g h =
    let b = both (inside s.hpa.0 (s.hpa.0 + s.size) x.0) (s.gpa.0 + (x.0 - s.hpa.0) =? y.0) h in
    let q : s.gpa.0 + (x.0 - s.hpa.0) ≡ y.0 = eqb-true (s.gpa.0 + (x.0 - s.hpa.0)) y.0 b.1 in
    let c = both (s.hpa.0 ≤? x.0) (x.0 <? s.hpa.0 + s.size) b.0 in
    let j : x.0 < s.hpa.0 + s.size = ltb-true x.0 (s.hpa.0 + s.size) c.1 in
    let i : s.hpa.0 ≤ x.0 = leb-true s.hpa.0 x.0 c.0 in
    in-true s.gpa.0 (span_end s).0 y.0 (omega arith) (size_reaches s g (omega arith))

lays-reach : (x : HostAddr) (y : GuestAddr) (s : Segment) → Good s → lays x y s ≡ true → reaches y s ≡ true
unfolding lays
lays-reach x y s g h =
    (both (reaches y s) ((y.0 - s.gpa.0) % s.size =? x.0 - s.hpa.0)
    (both (covers s x) (reaches y s && ((y.0 - s.gpa.0) % s.size =? x.0 - s.hpa.0)) h).1).0

-- with repeat 1 the first copy is all
lays-once : (x : HostAddr) (y : GuestAddr) (s : Segment) → s.repeat ≡ 1 → lays x y s ≡ aims x y s
unfolding lays aims covers reaches host_end host_up
lays-once x y s o = go (where? s.hpa.0 (s.hpa.0 + s.size) x.0) (where? s.gpa.0 (span_end s).0 y.0)
  where
    end : (span_end s).0 ≡ s.gpa.0 + s.size
    end = single-end s o

    go : Where s.hpa.0 (s.hpa.0 + s.size) x.0 → Where s.gpa.0 (span_end s).0 y.0 → lays x y s ≡ aims x y s
    go (low d i) w = simp d
    go (high d i j) w = simp d
    go (inn d i j) (low f k) = simp (d, f, ne_eqb (s.gpa.0 + (x.0 - s.hpa.0)) y.0 (λ q. omega arith))
    go (inn d i j) (high f k l) = simp (d, f, ne_eqb (s.gpa.0 + (x.0 - s.hpa.0)) y.0 (λ q. omega (arith, end)))
    go (inn d i j) (inn f k l) =
        let small : y.0 - s.gpa.0 < s.size = omega (arith, end) in
        simp (d, f, mod-eq_of_lt small) (same (y.0 - s.gpa.0 =? x.0 - s.hpa.0) refl)
      where
        same : (t : Bool) → (y.0 - s.gpa.0 =? x.0 - s.hpa.0) ≡ t → (y.0 - s.gpa.0 =? x.0 - s.hpa.0) ≡ (s.gpa.0 + (x.0 - s.hpa.0) =? y.0)
        same true e = e ∙ sym (eq-eqb (s.gpa.0 + (x.0 - s.hpa.0)) y.0 (omega (arith, eqb-true (y.0 - s.gpa.0) (x.0 - s.hpa.0) e)))
        same false e =
            let ne : y.0 - s.gpa.0 ≡ x.0 - s.hpa.0 → ⊥ = eqb-false (y.0 - s.gpa.0) (x.0 - s.hpa.0) e in
            e ∙ sym (ne_eqb (s.gpa.0 + (x.0 - s.hpa.0)) y.0 (λ q. ne (omega arith)))

-- A host unmap

module _ (calls : List Call) (k : ℕ) (h : HostAddr) (n : ℕ) (yes : accepted (answer (after calls) (Unmap k h n)) ≡ true) where
  host-after : segments_after (calls ++ (Unmap k h n ∷ [])) k ≡ unmapped h n (segments_after calls k)
  unfolding compartment_of reckon with_segments
  host-after =
      ap (λ t. (compartment t k).segments) (after-snoc calls (Unmap k h n))
      ∙ ap (λ c. c.segments) (next-same (after calls) (Unmap k h n) (length-after calls) yes)

  pub host-covered : (x : HostAddr)
      → count (λ s. covers s x) (segments_after (calls ++ (Unmap k h n ∷ [])) k)
      ≡ (if inside h.0 (h.0 + n) x.0 then 0 else count (λ s. covers s x) (segments_after calls k))
  host-covered x = ap (count (λ s. covers s x)) host-after ∙ unmapped-covers h n (segments_after calls k) x

  pub host-aimed : (x : HostAddr) (y : GuestAddr)
      → count (aims x y) (segments_after (calls ++ (Unmap k h n ∷ [])) k)
      ≡ (if inside h.0 (h.0 + n) x.0 then 0 else count (aims x y) (segments_after calls k))
  host-aimed x y = ap (count (aims x y)) host-after ∙ unmapped-aims h n (segments_after calls k) x y

-- A guest unmap

module _ (calls : List Call) (k : ℕ) (g : GuestAddr) (n : ℕ) (yes : accepted (answer (after calls) (UnmapGpa k g n)) ≡ true) where
  guest-after : segments_after (calls ++ (UnmapGpa k g n ∷ [])) k ≡ unmapped_gpa g n (segments_after calls k)
  unfolding compartment_of reckon with_segments
  guest-after =
      ap (λ t. (compartment t k).segments) (after-snoc calls (UnmapGpa k g n))
      ∙ ap (λ c. c.segments) (next-same (after calls) (UnmapGpa k g n) (length-after calls) yes)

  -- 15 got a yes, where it was asked
  asked-15 : (n =? 0) ≡ false → Singles g (guest_up g n) (segments_after calls k)
  unfolding compartment_of answer_in
  asked-15 z = go (segments_after calls k) refl (length (segments_after calls k) =? 0) refl
    where
      go : (ss : List Segment) → segments_after calls k ≡ ss → (t : Bool) → (length (segments_after calls k) =? 0) ≡ t → Singles g (guest_up g n) (segments_after calls k)
      go [] e t f = rw e refl
      go (s ∷ ss) e true f = absurd (omega (arith, ap length e, eqb-true (length (segments_after calls k)) 0 f))
      go (s ∷ ss) e false f =
          (unmap_gpa-passed (compartment (after calls) k) g n (accepted-in (after calls) (UnmapGpa k g n) yes).1 (simp (f, z))).single

  module _ (x : HostAddr) (y : GuestAddr) where
    pub guest-aimed : count (aims x y) (segments_after (calls ++ (UnmapGpa k g n ∷ [])) k)
        ≡ (if inside g.0 (g.0 + n) y.0 then 0 else count (aims x y) (segments_after calls k))
    guest-aimed =
        ap (count (aims x y)) guest-after
        ∙ unmapped_gpa-shows x y (aims x y) (λ s o. refl) (aims-reach x y) g n (segments_after calls k) (stored calls k).good asked-15

    pub guest-laid : count (lays x y) (segments_after (calls ++ (UnmapGpa k g n ∷ [])) k)
        ≡ (if inside g.0 (g.0 + n) y.0 then 0 else count (lays x y) (segments_after calls k))
    guest-laid =
        ap (count (lays x y)) guest-after
        ∙ unmapped_gpa-shows x y (lays x y) (lays-once x y) (lays-reach x y) g n (segments_after calls k) (stored calls k).good asked-15
