-- What the unmaps want to know of the list, and what one segment becomes. Both kinds of range in one.
use Rattle.std.specs.Prelude.{◌+◌, ◌-◌, ◌<◌, List, [], ◌∷◌, Bool, false, not, ◌&&◌, ◌||◌, length, Option, None, Some, if◌then◌else◌}
use Rattle.definitions.specs.Tests.{◌<?◌, ◌≤?◌, ◌=?◌}
use Rattle.definitions.specs.Segments.{front, host_touched, touched, span_whole}
use Rattle.definitions.proofs.WalkLaws.{left_in, rear_in}
use Rattle.definitions.specs.declared.addr.GuestAddr.{GuestAddr}
use Rattle.definitions.specs.declared.remapper.Segment.{Segment}
use Rattle.capability_engine.specs.RemapHeld.{no_segment}
use Rattle.capability_engine.specs.declared.remapper.Span.{Span}
use Rattle.capability_engine.specs.declared.remapper.Span.TheVariants.{Host, Guest}
use Rattle.capability_engine.specs.declared.remapper.Reach.{Reach}
use Rattle.capability_engine.specs.declared.remapper.Asked.{Asked}

-- the range is not empty
abbrev pub in_range : Span → Type 0
in_range (Host a e) = a.0 < e.0
in_range (Guest a e) = a.0 < e.0

-- where a range lies on a segment
unfoldable pub reach_of : Span → Segment → Reach
reach_of (Host a e) s = record { touches = host_touched a e s; from = a.0 - s.hpa.0; to = e.0 - s.hpa.0 }
reach_of (Guest a e) s = record { touches = touched a e s; from = a.0 - s.gpa.0; to = e.0 - s.gpa.0 }

-- what stays in its place, and what is moved up
unfoldable pub left_of : Span → Segment → List Segment
left_of p s = left_in (reach_of p s).touches (reach_of p s).from s

unfoldable pub rear_of : Span → Segment → List Segment
rear_of p s = rear_in (reach_of p s).touches (reach_of p s).to s

-- by the tests that the code makes
unfoldable pub leaves : Reach → Segment → Option Segment
leaves r s = if r.touches then (if 1 ≤? r.from then Some (front r.from s) else None) else Some s

unfoldable pub stays : Reach → Bool
stays r = not r.touches || (1 ≤? r.from)

unfoldable pub moves : Reach → Segment → Bool
moves r s = r.touches && (r.to <? s.size)

-- touched, not wholly covered, and repeated
unfoldable pub repeats : GuestAddr → GuestAddr → Segment → Bool
repeats a e s = touched a e s && (not (span_whole a e s) && not (s.repeat =? 1))

unfoldable pub bad_for : Span → Segment → Bool
bad_for (Host a e) s = false
bad_for (Guest a e) s = repeats a e s

-- the last of some segments, or d
abbrev pub last_of : List Segment → Segment → Segment
last_of [] d = d
last_of (s ∷ ss) d = last_of ss s

-- the questions, of no segment and of one more
abbrev pub none_asked : Asked
none_asked = record { left = 0; moved = 0; up = no_segment; bad = false }

unfoldable pub ask_step : Span → Asked → Segment → Asked
ask_step p k s = record {
  left = length (left_of p s) + k.left;
  moved = length (rear_of p s) + k.moved;
  up = last_of (rear_of p s) k.up;
  bad = k.bad || bad_for p s;
}
