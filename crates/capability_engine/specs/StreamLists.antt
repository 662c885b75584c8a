-- The same of the lists that are lent.
use Rattle.std.specs.Prelude.{ℕ, List}
use Rattle.definitions.specs.declared.remapper.Mapping.{Mapping}
use Rattle.definitions.specs.Stream.{stream}
use Rattle.capability_engine.specs.PoolChain.{stored_at}
use Rattle.capability_engine.specs.SegmentWords.{segments_from}
use Rattle.capability_engine.specs.StreamCursor.{Ready, Step, Says, Turned, remaining}
use Rattle.capability_engine.specs.declared.stream.RemapCursor.{RemapCursor}
use Rattle.capability_engine.specs.declared.stream.Turn.{Turn}
use Rattle.capability_engine.specs.declared.lists.Lists.{Lists}

-- a cursor of these lists
abbrev pub Stands : Lists → RemapCursor → Type 0
Stands t c = Ready t.next.now t.words.now t.segments.now t.n c

-- what a turn and a step answer at a cursor
abbrev pub Turns : Lists → RemapCursor → Turn → Type 0
Turns t c r = Turned t.next.now t.words.now t.segments.now t.n c r

abbrev pub Tells : Lists → RemapCursor → Step → Type 0
Tells t c r = Says t.next.now t.words.now t.segments.now t.n c r

-- the mappings from a cursor on
abbrev pub coming : Lists → RemapCursor → List Mapping
coming t c = remaining t.next.now t.words.now t.segments.now t.n c

-- and all of the records from a slot on
abbrev pub streamed : Lists → ℕ → List Mapping
streamed t head = stream (stored_at t.next.now t.words.now head) (segments_from t.segments.now 0 t.n)
