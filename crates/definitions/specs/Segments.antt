-- Document 01, "Segments": the list, where a new one goes, what overlaps, and what a map and the two unmaps leave.
use Rattle.std.specs.Prelude.{ℕ, ◌-◌, ◌*◌, Bool, true, not, ◌&&◌, List, [], ◌∷◌, ◌++◌, if◌then◌else◌}
use Rattle.definitions.specs.Tests.{◌<?◌, ◌≤?◌, ◌=?◌, inside, host_up, guest_up, all, any, each}
use Rattle.definitions.specs.declared.addr.HostAddr.{HostAddr}
use Rattle.definitions.specs.declared.addr.GuestAddr.{GuestAddr}
use Rattle.definitions.specs.declared.remapper.Segment.{Segment}

-- A segment is hpa, gpa, size, repeat.
unfoldable pub segment : HostAddr → GuestAddr → ℕ → ℕ → Segment
segment h g n t = record { hpa = h; gpa = g; size = n; repeat = t }

-- A segment covers [hpa, hpa + size).
unfoldable pub host_end : Segment → HostAddr
host_end s = host_up s.hpa s.size

unfoldable pub covers : Segment → HostAddr → Bool
covers s x = inside s.hpa.0 (host_end s).0 x.0

-- Its guest span is [gpa, gpa + size × repeat).
unfoldable pub span_end : Segment → GuestAddr
span_end s = guest_up s.gpa (s.size * s.repeat)

-- The list is in hpa order; a new one goes after its equals.
unfoldable pub in_order : List Segment → Bool
in_order [] = true
in_order (s ∷ ss) = all (λ t. s.hpa.0 ≤? t.hpa.0) ss && in_order ss

unfoldable pub place : Segment → List Segment → List Segment
place s [] = s ∷ []
place s (t ∷ ts) = if t.hpa.0 ≤? s.hpa.0 then t ∷ place s ts else s ∷ t ∷ ts

-- A segment is touched if the range [a, e) and its span share an address.
unfoldable pub touched : GuestAddr → GuestAddr → Segment → Bool
touched a e s = (a.0 <? (span_end s).0) && (s.gpa.0 <? e.0)

-- `overlaps(start, size)`: does the range share an address with a stored span, in any list order? An empty range overlaps
-- nothing. (Document 02, order 1.)
unfoldable pub overlaps : GuestAddr → ℕ → List Segment → Bool
overlaps g n ss = not (n =? 0) && any (touched g (guest_up g n)) ss

-- A map with repeat 1 and gpa = hpa stores nothing.
unfoldable pub is_identity : HostAddr → GuestAddr → ℕ → Bool
is_identity h g t = (t =? 1) && (g.0 =? h.0)

unfoldable pub mapped : HostAddr → GuestAddr → ℕ → ℕ → List Segment → List Segment
mapped h g n t ss = if is_identity h g t then ss else place (segment h g n t) ss

-- the first n addresses of a segment, and what is left past them, at gpa + distance
unfoldable pub front : ℕ → Segment → Segment
front n s = segment s.hpa s.gpa n s.repeat

unfoldable pub rest : ℕ → Segment → Segment
rest n s = segment (host_up s.hpa n) (guest_up s.gpa n) (s.size - n) s.repeat

-- Both unmaps (document 02, order 3) cut every segment that they touch. Where its addresses from the d-th up to the f-th go,
-- a part before them stays, and a part behind them, with host and guest starts moved up by the same distance and the same
-- repeat; wholly covered goes.
unfoldable pub cut_out : ℕ → ℕ → Segment → List Segment
cut_out d f s = (if 1 ≤? d then front d s ∷ [] else []) ++ (if f <? s.size then rest f s ∷ [] else [])

-- `unmap_range`, of [a, e), by host address
unfoldable pub host_touched : HostAddr → HostAddr → Segment → Bool
host_touched a e s = (a.0 <? (host_end s).0) && (s.hpa.0 <? e.0)

unfoldable pub host_parts : HostAddr → HostAddr → Segment → List Segment
host_parts a e s = if host_touched a e s then cut_out (a.0 - s.hpa.0) (e.0 - s.hpa.0) s else s ∷ []

-- `unmap_gpa_range`, of [a, e): the same on guest spans
unfoldable pub span_parts : GuestAddr → GuestAddr → Segment → List Segment
span_parts a e s = if touched a e s then cut_out (a.0 - s.gpa.0) (e.0 - s.gpa.0) s else s ∷ []

-- What questions 15 and 16 ask of a guest range: does it wholly cover a span, and does it lie strictly inside one?
unfoldable pub span_whole : GuestAddr → GuestAddr → Segment → Bool
span_whole a e s = (a.0 ≤? s.gpa.0) && ((span_end s).0 ≤? e.0)

unfoldable pub span_inside : GuestAddr → GuestAddr → Segment → Bool
span_inside a e s = (s.gpa.0 <? a.0) && (e.0 <? (span_end s).0)

-- Segments whose start moved re-enter the list in host order; equals keep their former order, and a second half ranks from
-- the place of its first: the parts in list order, each placed as a new one.
unfoldable pub place_all : List Segment → List Segment → List Segment
place_all [] ts = ts
place_all (s ∷ ss) ts = place_all ss (place s ts)

-- An empty range changes nothing.
unfoldable pub unmapped : HostAddr → ℕ → List Segment → List Segment
unmapped h n ss = if n =? 0 then ss else place_all (each (host_parts h (host_up h n)) ss) []

unfoldable pub unmapped_gpa : GuestAddr → ℕ → List Segment → List Segment
unmapped_gpa g n ss = if n =? 0 then ss else place_all (each (span_parts g (guest_up g n)) ss) []
