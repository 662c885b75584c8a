use mathlib.Core.Path.{ap}
use mathlib.Core.Bool.{not}
use native.Mathlib.Omega.{arith}
use Prim.Native.Nat.{◌+◌, ◌≤◌}
use mathlib.Core.Path.{refl}
use lib.Dec.{lit≤}
use lib.ListN.{length}
use Rattle.columns.proofs.Room.{room, no_room}
use Rattle.capability_engine.proofs.StreamStarts.{stream-most}
use Rattle.capability_engine.proofs.ScriptPrints.{print-rest, print-none, print-all}
use borrow.Author.Rules.{rules}
use Rattle.capability_engine.proofs.script.print.Goals as goal

pub print_mappings-requires : goal.print_mappings-requires
print_mappings-requires c = record { table = c.requires.shown.1.table _ _ _ (lit≤ tt) (c.copy_segments-n.ensures _ c.requires.shown.1.held); whole = c.requires.shown.1.whole; le_from = (c.if-p-gt0.true, c.requires.full_value.0, c.requires.full_value.1) }

pub returns-then-p-gt0 : goal.returns-then-p-gt0
returns-then-p-gt0 c = λ d s. print-rest _ _ _ _ d s _ _ _ (c.copy_segments-n.ensures _ s.held) _ _ _ _ c.if-p-gt0.true c.print_mappings.ensures.prints

pub returns-then-not-has_room : goal.returns-then-not-has_room
returns-then-not-has_room c = λ d s. print-none _ _ _ _ d s _ _ _ (c.copy_segments-n.ensures _ s.held) _ _ c.if-p-gt0.false (no_room _ _ 25 _ c.has_room.ensures (ap not c.if-not-has_room.true)) c.requires.full_value.1

pub overflow_add-p : goal.overflow_add-p
overflow_add-p c = let l : c.args.p.now.at + 25 ≤ length c.args.out.now = room _ _ 25 _ c.has_room.ensures (ap not c.if-not-has_room.false) in search rules

pub print_mappings-left-requires : goal.print_mappings-left-requires
print_mappings-left-requires c = record { table = c.requires.shown.1.table _ _ _ (lit≤ tt) (c.copy_segments-n.ensures _ c.requires.shown.1.held); whole = c.requires.shown.1.whole; le_from = (omega arith, c.requires.full_value.0, omega (arith, c.requires.full_value.1)) }

pub overflow_add-many : goal.overflow_add-many
overflow_add-many c = omega (arith, c.print_mappings-left.ensures.left_value refl, stream-most _ _ _ _ _ (c.requires.shown.1.table _ _ _ (lit≤ tt) (c.copy_segments-n.ensures _ c.requires.shown.1.held)) c.requires.shown.1.whole)

pub returns : goal.returns
returns c = λ d s. print-all _ _ _ _ d s _ _ _ (c.copy_segments-n.ensures _ s.held) _ _ c.if-p-gt0.false _ _ c.print_mappings-left.ensures.prints _ _ _ c.requires.full_value.1 (room _ _ 25 _ c.has_room.ensures (ap not c.if-not-has_room.false)) (omega (arith, c.print_mappings-left.ensures.left_value refl)) c.put_answer.ensures
