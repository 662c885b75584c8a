-- What each call ensures: the definitions' answer, the list that they leave where it is accepted, and where it is refused
-- the very struct that it was. The first questions come to a change, and the change asks the rest and does it.
use Rattle.std.specs.Prelude.{ℕ, ◌+◌, ◌*◌, ◌≤◌, ◌≡◌, List, [], ◌∷◌, Bool, true, false, not, ◌&&◌, ◌||◌, length, if◌then◌else◌}
use Rattle.definitions.specs.Tests.{◌<?◌, ◌≤?◌, ◌=?◌, fits, all, any, keep, each}
use Rattle.definitions.proofs.SegmentLaws.{Good}
use Rattle.definitions.specs.Segments.{overlaps, is_identity, mapped, host_parts, unmapped, touched, span_whole, span_inside, span_parts, place_all, unmapped_gpa}
use Rattle.definitions.specs.Reckoning.{Compartment}
use Rattle.definitions.specs.Questions.{ask, accepted, on_overlaps, on_map, on_unmap, on_unmap_gpa}
use Rattle.definitions.specs.declared.addr.HostAddr.{HostAddr}
use Rattle.definitions.specs.declared.addr.GuestAddr.{GuestAddr}
use Rattle.definitions.specs.declared.remapper.Segment.{Segment}
use Rattle.definitions.specs.declared.answer.Refusal.TheVariants.{EmptySegment, Overflow, AlreadyAliased, NoSlot, Repeated, OthersTouched}
use Rattle.definitions.specs.Answers.{Answer}
use Rattle.std.specs.Prelude.{Ok}
use Rattle.capability_engine.specs.declared.remapper.Remapper.{Remapper}
use Rattle.capability_engine.specs.declared.remapper.Span.{Span}
use Rattle.capability_engine.specs.declared.remapper.Span.TheVariants.{Host, Guest}
use Rattle.capability_engine.specs.declared.remapper.Change.{Change}
use Rattle.capability_engine.specs.declared.remapper.Change.TheVariants.{Keep, Put, Cut}
use Rattle.capability_engine.specs.declared.remapper.Asked.{Asked}
use Rattle.capability_engine.specs.RemapHeld.{no_segment, Holds, Sound}
use Rattle.capability_engine.specs.RemapAsking.{in_range, rear_of, bad_for, last_of}

-- a changing call, with the definitions' answer and the list that they leave; out is the remapper after it
pub record Does (self : Remapper) (a : Answer) (ss : List Segment) (out : Remapper) (r : Answer) : Type 0 where
  pub answer : r ≡ a
  pub after : accepted a ≡ true → Holds out ss
  pub kept : accepted a ≡ false → out ≡ self

-- a new segment is asked 11 and 12, and not stored where it shows an identity
abbrev pub on_insert : Segment → List Segment → Answer
on_insert s ss =
    ask ((not (overlaps s.gpa (s.size * s.repeat) ss), AlreadyAliased) ∷ [])
    (if is_identity s.hpa s.gpa s.repeat then Ok 0 else ask ((length ss <? 64, NoSlot) ∷ []) (Ok 0))

abbrev pub inserted : Segment → List Segment → List Segment
inserted s ss = mapped s.hpa s.gpa s.size s.repeat ss

abbrev pub Inserts : Remapper → Segment → Remapper → Answer → Type 0
Inserts self s out r = (ss : List Segment) → Holds self ss → Does self (on_insert s ss) (inserted s ss) out r

-- a range that is not empty is cut out
abbrev pub cut_to : Span → List Segment → List Segment
cut_to (Host a e) ss = place_all (each (host_parts a e) ss) []
cut_to (Guest a e) ss = place_all (each (span_parts a e) ss) []

-- it can be: 12 and 15 get a yes; and the last part that is moved up is u
pub record Builds (p : Span) (u : Segment) (ss : List Segment) : Type 0 where
  pub fine : any (bad_for p) ss ≡ false
  pub few : length (cut_to p ss) ≤ 64
  pub last : u ≡ last_of (each (rear_of p) ss) no_segment

-- the questions of unmap_range from 12 on, and of unmap_gpa_range from 15 on
unfoldable pub on_host : List Segment → HostAddr → HostAddr → Answer
on_host ss a e = ask ((length (cut_to (Host a e) ss) ≤? 64, NoSlot) ∷ []) (Ok 0)

unfoldable pub on_span : List Segment → GuestAddr → GuestAddr → Answer
on_span ss a e =
    ask
    ((all (λ s. span_whole a e s || (s.repeat =? 1)) (keep (touched a e) ss), Repeated)
    ∷ (not (any (span_inside a e) ss) || (length (keep (touched a e) ss) =? 1), OthersTouched)
    ∷ (length (cut_to (Guest a e) ss) ≤? 64, NoSlot) ∷ [])
    (Ok 0)

abbrev pub on_cut : Span → List Segment → Answer
on_cut (Host a e) ss = on_host ss a e
on_cut (Guest a e) ss = on_span ss a e

abbrev pub CutsOut : Remapper → Span → Remapper → Answer → Type 0
CutsOut self p out r = (ss : List Segment) → Sound self ss → Does self (on_cut p ss) (cut_to p ss) out r

-- what is still to be asked and done is what the call asks and does
pub record ToPut (self : Remapper) (a : Answer) (ss : List Segment) (s : Segment) : Type 0 where
  pub good : Good s
  pub before : List Segment
  pub held : Holds self before
  pub asks : on_insert s before ≡ a
  pub leaves : inserted s before ≡ ss

pub record ToCut (self : Remapper) (a : Answer) (ss : List Segment) (p : Span) : Type 0 where
  pub range : in_range p
  pub before : List Segment
  pub sound : Sound self before
  pub asks : on_cut p before ≡ a
  pub leaves : cut_to p before ≡ ss

abbrev pub Decides : Remapper → Answer → List Segment → Change → Type 0
Decides self a ss (Keep x) = Does self a ss self x
Decides self a ss (Put s) = ToPut self a ss s
Decides self a ss (Cut p) = ToCut self a ss p

abbrev pub Overlaps : Remapper → GuestAddr → ℕ → Answer → Type 0
Overlaps self g n r = (c : Compartment) → Holds self c.segments → r ≡ on_overlaps c g n

abbrev pub Maps : Remapper → HostAddr → GuestAddr → ℕ → ℕ → Change → Type 0
Maps self h g n t r =
    (c : Compartment) → Sound self c.segments → Decides self (on_map c h g n t) (mapped h g n t c.segments) r

abbrev pub Unmaps : Remapper → HostAddr → ℕ → Change → Type 0
Unmaps self h n r =
    (c : Compartment) → Sound self c.segments → Decides self (on_unmap c h n) (unmapped h n c.segments) r

abbrev pub UnmapsGpa : Remapper → GuestAddr → ℕ → Change → Type 0
UnmapsGpa self g n r =
    (c : Compartment) → Sound self c.segments → Decides self (on_unmap_gpa c g n) (unmapped_gpa g n c.segments) r

-- the questions that need no walk
unfoldable pub can_map : HostAddr → GuestAddr → ℕ → ℕ → Answer
can_map h g n t =
    ask
    (((1 ≤? n) && (1 ≤? t), EmptySegment) ∷ (fits (n * t) && fits (g.0 + n * t) && fits (h.0 + n), Overflow) ∷ [])
    (Ok 0)

-- of an empty list, or of size 0, nothing is asked; 1 to go on
unfoldable pub can_start : Bool → GuestAddr → ℕ → Answer
can_start empty g n = if empty || (n =? 0) then Ok 0 else ask ((fits (g.0 + n), Overflow) ∷ []) (Ok 1)

-- of an unmap: behind 15, question 16 gets a yes
unfoldable pub can_cut : Asked → Answer
can_cut k = ask ((not k.bad, Repeated) ∷ (k.left + k.moved ≤? 64, NoSlot) ∷ []) (Ok 0)
