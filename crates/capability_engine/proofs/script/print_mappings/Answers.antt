use native.Mathlib.Omega.{arith}
use Prim.Native.Nat.{◌-◌}
use mathlib.Core.Path.{ap, ◌∙◌}
use mathlib.Core.List.{map}
use lib.ListN.{length}
use Rattle.definitions.specs.Script.{mapping_line}
use Rattle.definitions.specs.Stream.{stream}
use Rattle.capability_engine.specs.PoolChain.{stored_at}
use Rattle.capability_engine.specs.SegmentWords.{segments_from}
use Rattle.capability_engine.specs.StreamCursor.{remaining}
use Rattle.capability_engine.proofs.StreamTurns.{told-done, told-found}
use Rattle.capability_engine.proofs.StreamStarts.{remaining-most}
use Rattle.capability_engine.proofs.ScriptPrints.{adds-length, printing-start, printing-end, printing-full, printing-more, printing-fits, printing-counts, printing-left, mappings-from, mappings-few, line-some}
use Rattle.capability_engine.proofs.script.print_mappings.Goals as goal

pub start-c-requires : goal.start-c-requires
start-c-requires c = c.requires.whole

pub overflow_sub-from : goal.overflow_sub-from
overflow_sub-from c = c.requires.le_from.0

pub advance-cursor-requires : goal.advance-cursor-requires
advance-cursor-requires c = c.start-c.ensures.ready

pub loop-m-init : goal.loop-m-init
loop-m-init c = (c.advance-cursor.ensures.ready_2, printing-start _ _ _ _ (mappings-from (c.args.p.now.from - 1) _ _ _ c.start-c.ensures.result_value c.advance-cursor.ensures.result_value) c.requires.le_from.1 c.requires.le_from.2)

pub next_mapping-s-requires : goal.next_mapping-s-requires
next_mapping-s-requires c = c.loop-m.invariant.0

pub shape_of-out-in_default : goal.shape_of-out-in_default
shape_of-out-in_default c = adds-length _ _ _ _ _ c.loop-m.invariant.1.adds

pub returns-in_default : goal.returns-in_default
returns-in_default c = record { prints = printing-end _ _ _ _ _ _ c.loop-m.invariant.1 (ap (map mapping_line) (told-done c.args.next.now c.args.words.now c.args.segments.now c.args.n c.loop-m.cursor c.next_mapping-s.result c.next_mapping-s.ensures c.in_default.is)); left_value = λ e. omega (arith, printing-left _ _ _ _ c.args.p.now.from (stream (stored_at c.args.next.now c.args.words.now c.args.head) (segments_from c.args.segments.now 0 c.args.n)) (remaining c.args.next.now c.args.words.now c.args.segments.now c.args.n c.loop-m.cursor) c.loop-m.invariant.1 e, ap length (told-done c.args.next.now c.args.words.now c.args.segments.now c.args.n c.loop-m.cursor c.next_mapping-s.result c.next_mapping-s.ensures c.in_default.is)) }

pub shape_of-out-then-from-gt1 : goal.shape_of-out-then-from-gt1
shape_of-out-then-from-gt1 c = c.put_mapping-put.auto.out ∙ adds-length _ _ _ _ _ c.loop-m.invariant.1.adds

pub returns-then-from-gt1 : goal.returns-then-from-gt1
returns-then-from-gt1 c = record { prints = printing-full _ _ _ _ _ _ c.loop-m.invariant.1 _ (line-some _) _ (ap (map mapping_line) (told-found c.args.next.now c.args.words.now c.args.segments.now c.args.n c.loop-m.cursor c.next_mapping-s.result c.next_mapping-s.ensures _ _ c.in-Some.is).0) _ _ c.put_mapping-put.ensures c.in_default-put.is; left_value = λ e. absurd (omega (arith, e, c.if-from-gt1.true)) }

pub count-requires : goal.count-requires
count-requires c = c.loop-m.invariant.0

pub shape_of-out-in_default-put : goal.shape_of-out-in_default-put
shape_of-out-in_default-put c = c.put_mapping-put.auto.out ∙ adds-length _ _ _ _ _ c.loop-m.invariant.1.adds

pub returns-in_default-put : goal.returns-in_default-put
returns-in_default-put c = record { prints = printing-full _ _ _ _ _ _ c.loop-m.invariant.1 _ (line-some _) _ (ap (map mapping_line) (told-found c.args.next.now c.args.words.now c.args.segments.now c.args.n c.loop-m.cursor c.next_mapping-s.result c.next_mapping-s.ensures _ _ c.in-Some.is).0) _ _ c.put_mapping-put.ensures c.in_default-put.is; left_value = λ e. omega (arith, printing-left _ _ _ _ c.args.p.now.from (stream (stored_at c.args.next.now c.args.words.now c.args.head) (segments_from c.args.segments.now 0 c.args.n)) (remaining c.args.next.now c.args.words.now c.args.segments.now c.args.n c.loop-m.cursor) c.loop-m.invariant.1 e, c.count.ensures) }

pub overflow_add-p : goal.overflow_add-p
overflow_add-p c = record { fits = omega (arith, printing-counts _ _ _ _ _ _ c.loop-m.invariant.1 _ (line-some _) _ (ap (map mapping_line) (told-found c.args.next.now c.args.words.now c.args.segments.now c.args.n c.loop-m.cursor c.next_mapping-s.result c.next_mapping-s.ensures _ _ c.in-Some.is).0) _ _ c.put_mapping-put.ensures _ c.in-Some-put.is) }

pub overflow_add-p-in-loop-m : goal.overflow_add-p-in-loop-m
overflow_add-p-in-loop-m c = record { fits = printing-fits _ _ _ _ _ _ c.loop-m.invariant.1 _ (line-some _) _ (ap (map mapping_line) (told-found c.args.next.now c.args.words.now c.args.segments.now c.args.n c.loop-m.cursor c.next_mapping-s.result c.next_mapping-s.ensures _ _ c.in-Some.is).0) _ _ c.put_mapping-put.ensures (mappings-few _ _ _ c.start-c.ensures.result_value (remaining-most _ _ _ _ c.start-c.result c.requires.table c.start-c.ensures.ready)) }

pub loop-m-smaller : goal.loop-m-smaller
loop-m-smaller c = omega (arith, ap length (told-found c.args.next.now c.args.words.now c.args.segments.now c.args.n c.loop-m.cursor c.next_mapping-s.result c.next_mapping-s.ensures _ _ c.in-Some.is).0)

pub loop-m-preserved : goal.loop-m-preserved
loop-m-preserved c = ((told-found c.args.next.now c.args.words.now c.args.segments.now c.args.n c.loop-m.cursor c.next_mapping-s.result c.next_mapping-s.ensures _ _ c.in-Some.is).1, printing-more _ _ _ _ _ _ c.loop-m.invariant.1 _ (line-some _) _ (ap (map mapping_line) (told-found c.args.next.now c.args.words.now c.args.segments.now c.args.n c.loop-m.cursor c.next_mapping-s.result c.next_mapping-s.ensures _ _ c.in-Some.is).0) _ _ c.put_mapping-put.ensures _ c.in-Some-put.is)
