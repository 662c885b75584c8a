-- Document 01, "Questions in order, with the number for no", and document 02, orders 4, 9 and 13.
use Rattle.std.specs.Prelude.{ℕ, ◌+◌, ◌-◌, ◌*◌, Bool, true, false, not, ◌&&◌, ◌||◌, List, [], ◌∷◌, length, if◌then◌else◌}
use Rattle.definitions.specs.Tests.{◌<?◌, ◌≤?◌, ◌=?◌, bit, fits, guest_up, all, any, keep}
use Rattle.definitions.specs.Rights.{RIGHTS, named, count_of}
use Rattle.definitions.specs.Regions.{meets, splits, regions, addresses, add_change, remove_change, new_records, freed, refcount_of}
use Rattle.definitions.specs.Segments.{overlaps, is_identity, unmapped, touched, span_whole, span_inside, unmapped_gpa}
use Rattle.definitions.specs.Reckoning.{Compartment}
use Rattle.definitions.specs.declared.addr.HostAddr.{HostAddr}
use Rattle.definitions.specs.declared.addr.GuestAddr.{GuestAddr}
use Rattle.definitions.specs.declared.region.Values.{Values}
use Rattle.definitions.specs.declared.region.Region.{Region}
use Rattle.definitions.specs.declared.answer.Refusal.{Refusal}
use Rattle.definitions.specs.declared.answer.Refusal.TheVariants.{NoCompartment, InvalidMemOps, InvalidRange, CountFull, OutOfMemory, InvalidRegion, EndedBefore, CountEmpty, EmptySegment, Overflow, AlreadyAliased, NoSlot, Repeated, OthersTouched, Malformed, PoolExceeded, StillInUse, BundleTooLong, NoScript}
use Rattle.definitions.specs.Answers.{Answer}
use Rattle.std.specs.Prelude.{Ok, Err}

-- the paper's number of each refusal
abbrev pub refusal_number : Refusal → ℕ
refusal_number NoCompartment = 1
refusal_number InvalidMemOps = 2
refusal_number InvalidRange = 3
refusal_number CountFull = 4
refusal_number OutOfMemory = 5
refusal_number InvalidRegion = 6
refusal_number EndedBefore = 7
refusal_number CountEmpty = 8
refusal_number EmptySegment = 9
refusal_number Overflow = 10
refusal_number AlreadyAliased = 11
refusal_number NoSlot = 12
refusal_number Repeated = 15
refusal_number OthersTouched = 16
refusal_number Malformed = 17
refusal_number PoolExceeded = 18
refusal_number StillInUse = 19
refusal_number BundleTooLong = 24
refusal_number NoScript = 25

-- the answer's number (0 or refusal), and its value (0 when refused)
abbrev pub number_of : Answer → ℕ
number_of (Ok v) = 0
number_of (Err r) = refusal_number r

abbrev pub value_of : Answer → ℕ
value_of (Ok v) = v
value_of (Err r) = 0

abbrev pub accepted : Answer → Bool
accepted (Ok v) = true
accepted (Err r) = false

-- questions in order, each with the refusal for no; with no no, the answer
unfoldable pub ask : List (Bool × Refusal) → Answer → Answer
ask [] answer = answer
ask (q ∷ qs) answer = if q.0 then ask qs answer else Err q.1

-- do the counts that the rights name, uncacheable among them (document 02, order 8), all pass this test?
unfoldable pub every_named : (ℕ → Bool) → ℕ → Values → Bool
every_named p rights v = all (λ t. (named t rights =? 0) || p (count_of t v)) RIGHTS

-- 4: holders and every count to be raised below 65,535?
unfoldable pub can_raise : HostAddr → HostAddr → ℕ → (HostAddr → Values) → Bool
can_raise a e rights f =
    all (λ x. ((f x).refcount <? 65535) && every_named (λ n. n <? 65535) rights (f x)) (addresses a e)

-- a compartment's records in use
abbrev pub in_use : Compartment → ℕ
in_use c = length (regions c.values)

-- 5 of a remove: a free record at each cut, where so many are in use and so many allowed (document 02, order 4)?
unfoldable pub cuts_fit : ℕ → ℕ → HostAddr → HostAddr → List Region → Bool
cuts_fit used allowed a e rs =
    let at_start = used + bit (any (splits a) rs) in
    (at_start ≤? allowed) && (not (any (splits e) rs) || (at_start - freed a e rs + 1 ≤? allowed))

-- 6: does a record begin at or below start? 7: does the last such reach above start?
unfoldable pub begun : HostAddr → List Region → List Region
begun a rs = keep (λ q. q.start.0 ≤? a.0) rs

unfoldable pub last_end : ℕ → List Region → ℕ
last_end end [] = end
last_end end (q ∷ qs) = last_end q.end.0 qs

-- 8: has each record touched a count above 0 for every named right?
unfoldable pub can_lower : HostAddr → HostAddr → ℕ → List Region → Bool
can_lower a e rights rs = all (λ q. every_named (λ n. 0 <? n) rights q.values) (keep (meets a e) rs)

-- add and remove: 2 (document 02, order 10: below 64), 3, (equal: done), then 4 and 5, or 6, 7, 5 and 8
unfoldable pub ranged : HostAddr → HostAddr → ℕ → Answer → Answer
ranged a e rights answer =
    ask ((rights <? 64, InvalidMemOps) ∷ (a.0 ≤? e.0, InvalidRange) ∷ []) (if a.0 =? e.0 then Ok 0 else answer)

-- Document 02, order 4: question 5 compares with the caller's allowance only, at the same peaks.
unfoldable pub on_add : ℕ → Compartment → HostAddr → HostAddr → ℕ → Answer
on_add allowance c a e rights =
    ranged a e rights
    (ask
    ((can_raise a e rights c.values, CountFull)
    ∷ (in_use c + new_records a e c.values ≤? allowance, OutOfMemory) ∷ [])
    (Ok (add_change a e rights c.values)))

unfoldable pub on_remove : ℕ → Compartment → HostAddr → HostAddr → ℕ → Answer
on_remove allowance c a e rights =
    let rs = regions c.values in
    ranged a e rights
    (ask
    ((1 ≤? length (begun a rs), InvalidRegion) ∷ (a.0 <? last_end 0 (begun a rs), EndedBefore)
    ∷ (cuts_fit (in_use c) allowance a e rs, OutOfMemory) ∷ (can_lower a e rights rs, CountEmpty) ∷ [])
    (Ok (remove_change a e rights c.values)))

unfoldable pub on_refcount : Compartment → HostAddr → HostAddr → Answer
on_refcount c a e = Ok (refcount_of a e (regions c.values))

unfoldable pub on_overlaps : Compartment → GuestAddr → ℕ → Answer
on_overlaps c g n = ask ((fits (g.0 + n), Overflow) ∷ []) (Ok (bit (overlaps g n c.segments)))

-- 11 by the meaning of order 1 (document 02), of a map that stores nothing too
unfoldable pub on_map : Compartment → HostAddr → GuestAddr → ℕ → ℕ → Answer
on_map c h g n t =
    ask
    (((1 ≤? n) && (1 ≤? t), EmptySegment) ∷ (fits (n * t) && fits (g.0 + n * t) && fits (h.0 + n), Overflow)
    ∷ (not (overlaps g (n * t) c.segments), AlreadyAliased) ∷ [])
    (if is_identity h g t then Ok 0 else ask ((length c.segments <? 64, NoSlot) ∷ []) (Ok 0))

-- both unmaps, 12 (document 02, order 3): would at most 64 segments remain?
unfoldable pub on_unmap : Compartment → HostAddr → ℕ → Answer
on_unmap c h n =
    ask ((fits (h.0 + n), Overflow) ∷ (length (unmapped h n c.segments) ≤? 64, NoSlot) ∷ []) (Ok 0)

-- 16, asked after 15, never gets a no from tables grown from empty ones (document 02, order 1: proofs/Sixteen.antt)
unfoldable pub on_unmap_gpa : Compartment → GuestAddr → ℕ → Answer
on_unmap_gpa c g n =
    let ss = c.segments in
    let e = guest_up g n in
    let hit = keep (touched g e) ss in
    if (length ss =? 0) || (n =? 0) then Ok 0
    else
    ask
    ((fits (g.0 + n), Overflow) ∷ (all (λ s. span_whole g e s || (s.repeat =? 1)) hit, Repeated)
    ∷ (not (any (span_inside g e) ss) || (length hit =? 1), OthersTouched)
    ∷ (length (unmapped_gpa g n ss) ≤? 64, NoSlot) ∷ [])
    (Ok 0)

-- Document 02, order 4, S: 18 when the allowances would pass 1,024 together; then 19 when the compartment's records in use exceed
-- the new allowance
unfoldable pub on_allow : ℕ → Compartment → ℕ → Answer
on_allow others c n = ask ((others + n ≤? 1024, PoolExceeded) ∷ (in_use c ≤? n, StillInUse) ∷ []) (Ok 0)
