-- What a read of the stream costs: how many turns it makes, and which segments' ends it adds up. Assumes nothing.
use Prim.Native.Nat.{ℕ, suc, ◌+◌, ◌*◌, ◌≤◌}
use mathlib.Core.Path.{◌≡◌, refl, sym, ap, ◌∙◌}
use mathlib.Core.List.{List, [], ◌∷◌, ◌++◌}
use native.Mathlib.Omega.{arith}
use lib.ListN.{length}
use Rattle.definitions.specs.Stream.{stream}
use Rattle.definitions.specs.declared.remapper.Mapping.{Mapping}
use Rattle.definitions.specs.declared.remapper.Segment.{Segment}
use Rattle.capability_engine.specs.declared.stream.RemapCursor.{RemapCursor}
use Rattle.capability_engine.specs.declared.stream.Turn.TheVariants.{Yields, Skips}
use Rattle.capability_engine.specs.PoolChain.{stored_at}
use Rattle.capability_engine.specs.SegmentWords.{segment_at, segments_from}
use Rattle.capability_engine.specs.StreamCursor.{Table, Whole, Ready, remaining, to_go, begins, Kept, Turned, at_start}
use Rattle.capability_engine.proofs.StreamStarts.{starts, start-stream, start-few}

-- turns from one cursor to another: the mappings that they yield, the segments that they begin, and their number
pub data Turns (nx ws sg : List ℕ) (n : ℕ) : RemapCursor → RemapCursor → List Mapping → List Segment → ℕ → Type 0 where
  none : {c : RemapCursor} → Turns nx ws sg n c c [] [] 0
  yields : {c d e : RemapCursor} {m : Mapping} {ms : List Mapping} {ss : List Segment} {k : ℕ} → Turned nx ws sg n c (Yields m d)
      → Turns nx ws sg n d e ms ss k → Turns nx ws sg n c e (m ∷ ms) ss (suc k)
  skips : {c d e : RemapCursor} {ms : List Mapping} {ss : List Segment} {k : ℕ} → Turned nx ws sg n c (Skips d) → Kept c d
      → Turns nx ws sg n d e ms ss k → Turns nx ws sg n c e ms ss (suc k)
  begun : {c d e : RemapCursor} {ms : List Mapping} {ss : List Segment} {k : ℕ} → Turned nx ws sg n c (Skips d)
      → d ≡ begins c (segment_at sg c.segment) → Turns nx ws sg n d e ms ss k
      → Turns nx ws sg n c e ms (segment_at sg c.segment ∷ ss) (suc k)

turns-are : {nx ws sg : List ℕ} {n : ℕ} {c e : RemapCursor} {ms : List Mapping} {ss : List Segment} {k : ℕ} → Turns nx ws sg n c e ms ss k
    → (remaining nx ws sg n c ≡ ms ++ remaining nx ws sg n e) × (k + to_go nx ws sg n e ≤ length ms + to_go nx ws sg n c)
turns-are none = (refl, omega arith)
turns-are (yields {m = m} h t) =
    let i = turns-are t in
    (h.0 ∙ ap (λ (l : List Mapping). m ∷ l) i.0, omega (arith, h.2, i.1))
turns-are (skips h q t) =
    let i = turns-are t in
    (h.0 ∙ i.0, omega (arith, h.2, i.1))
turns-are (begun h q t) =
    let i = turns-are t in
    (h.0 ∙ i.0, omega (arith, h.2, i.1))

-- from the start, up to any mapping: they yield the stream's first mappings
pub turns-few : {nx ws sg : List ℕ} {n h : ℕ} {e : RemapCursor} {ms : List Mapping} {ss : List Segment} {k : ℕ} → Table ws sg n → Whole nx ws h
    → Turns nx ws sg n (at_start h) e ms ss k
    → (stream (stored_at nx ws h) (segments_from sg 0 n) ≡ ms ++ remaining nx ws sg n e) × (k ≤ length ms + 2 * (length (stored_at nx ws h) + n) + 1)
turns-few {nx} {ws} {sg} {n} {h} t g u =
    let i = turns-are u in
    (sym (start-stream nx ws sg n h t g) ∙ i.0, omega (arith, i.1, start-few nx ws sg n h t g))

-- the segments begun follow one another in the list
begun-are : {nx ws sg : List ℕ} {n : ℕ} {c e : RemapCursor} {ms : List Mapping} {ss : List Segment} {k : ℕ} → Ready nx ws sg n c → Turns nx ws sg n c e ms ss k
    → (ss ≡ segments_from sg c.segment (length ss)) × (c.segment + length ss ≤ n)
begun-are r none = (refl, omega (arith, r.bound))
begun-are {sg = sg} {ss = ss} r (yields h t) =
    let i = begun-are h.1 t in
    (i.0 ∙ ap (λ (j : ℕ). segments_from sg j (length ss)) h.3.segment, omega (arith, i.1, h.3.segment))
begun-are {sg = sg} {ss = ss} r (skips h q t) =
    let i = begun-are h.1 t in
    (i.0 ∙ ap (λ (j : ℕ). segments_from sg j (length ss)) q.segment, omega (arith, i.1, q.segment))
begun-are {sg = sg} {c = c} r (begun {ss = ss} h q t) =
    let i = begun-are h.1 t in
    let z : _ ≡ suc c.segment = ap (λ (d : RemapCursor). d.segment) q ∙ omega arith in
    (ap (λ (l : List Segment). segment_at sg c.segment ∷ l) (i.0 ∙ ap (λ (j : ℕ). segments_from sg j (length ss)) z), omega (arith, i.1, z))

-- Document 02, order 2: a read from the start, whatever number of mappings it passes over and takes, begins the first segments
-- of the list, each once. Where a segment is begun, and nowhere else, its end is added up.
pub begun-once : {nx ws sg : List ℕ} {n h : ℕ} {e : RemapCursor} {ms : List Mapping} {ss : List Segment} {k : ℕ} → Table ws sg n → Whole nx ws h
    → Turns nx ws sg n (at_start h) e ms ss k → (ss ≡ segments_from sg 0 (length ss)) × (length ss ≤ n)
begun-once {nx} {ws} {sg} {n} {h} t g u = let i = begun-are {c = at_start h} (starts nx ws sg n h t g) u in (i.0, omega (arith, i.1))
