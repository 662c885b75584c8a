-- Document 01, "The stream (`remap`)".
use Rattle.std.specs.Prelude.{◌-◌, min, max, not, ◌&&◌, List, [], ◌∷◌, ◌++◌, map, if◌then◌else◌}
use Rattle.definitions.specs.Tests.{◌<?◌, ◌≤?◌, host, guest, guest_up, any, keep, each}
use Rattle.definitions.specs.Values.{nothing, rights_of}
use Rattle.definitions.specs.Regions.{has, meets, regions}
use Rattle.definitions.specs.Segments.{covers, host_end}
use Rattle.definitions.specs.declared.addr.HostAddr.{HostAddr}
use Rattle.definitions.specs.declared.region.Values.{Values}
use Rattle.definitions.specs.declared.region.Region.{Region}
use Rattle.definitions.specs.declared.remapper.Segment.{Segment}
use Rattle.definitions.specs.declared.remapper.Mapping.{Mapping}

-- A segment yields, for each record it meets in address order, a mapping (hpa, gpa + distance, size of the shared part,
-- repeat, rights).
unfoldable pub shared_part : Segment → Region → Mapping
shared_part s r =
    let a = max s.hpa.0 r.start.0 in
    record {
      hpa = host a;
      gpa = guest_up s.gpa (a - s.hpa.0);
      size = min (host_end s).0 r.end.0 - a;
      repeat = s.repeat;
      ops = rights_of r.values;
    }

unfoldable pub segment_yields : List Region → Segment → List Mapping
segment_yields rs s = map (shared_part s) (keep (meets s.hpa (host_end s)) rs)

-- The longest runs in one record covered by no segment: the regions there would be if just those addresses were held.
unfoldable pub uncovered_in : List Segment → Region → HostAddr → Values
uncovered_in ss r x = if has r x && not (any (λ s. covers s x) ss) then r.values else nothing

unfoldable pub uncovered : List Segment → List Region → List Region
uncovered ss rs = each (λ r. regions (uncovered_in ss r)) rs

-- Identity mappings (gpa = hpa, repeat 1) are these runs.
unfoldable pub identity : Region → Mapping
identity r = record {
  hpa = r.start;
  gpa = guest r.start.0;
  size = r.end.0 - r.start.0;
  repeat = 1;
  ops = rights_of r.values;
}

-- Segments come in list order, each complete; a run comes before a segment exactly if it starts below the segment's hpa.
unfoldable pub merge : List Region → List Region → List Segment → List Mapping
merge rs runs [] = map identity runs
merge rs runs (s ∷ ss) =
    map identity (keep (λ r. r.start.0 <? s.hpa.0) runs) ++ segment_yields rs s
    ++ merge rs (keep (λ r. s.hpa.0 ≤? r.start.0) runs) ss

unfoldable pub stream : List Region → List Segment → List Mapping
stream rs ss = merge rs (uncovered ss rs) ss
