use mathlib.Core.Path.{ap}
use mathlib.Core.Bool.{not}
use Prim.Native.Nat.{◌+◌}
use lib.ListN.{length}
use native.Mathlib.Omega.{arith}
use Rattle.columns.proofs.Room.{room, no_room, number-none, number-all}
use Rattle.columns.proofs.write.Goals as goal

pub returns-then-not-has_room : goal.returns-then-not-has_room
returns-then-not-has_room c = number-none c.args.at c.args.width c.args.n c.saturating_sub-before.result c.saturating_sub-before.ensures c.args.out.now (no_room (length c.args.out.now) c.args.at (c.saturating_sub-before.result + 1) c.has_room.result c.has_room.ensures (ap not c.if-not-has_room.true))

pub fill-requires : goal.fill-requires
fill-requires c = omega (arith, room (length c.args.out.now) c.args.at (c.saturating_sub-before.result + 1) c.has_room.result c.has_room.ensures (ap not c.if-not-has_room.false))

pub overflow_add-out-2 : goal.overflow_add-out-2
overflow_add-out-2 c = omega (arith, room (length c.args.out.now) c.args.at (c.saturating_sub-before.result + 1) c.has_room.result c.has_room.ensures (ap not c.if-not-has_room.false))

pub bounds-out-at : goal.bounds-out-at
bounds-out-at c = omega (arith, room (length c.args.out.now) c.args.at (c.saturating_sub-before.result + 1) c.has_room.result c.has_room.ensures (ap not c.if-not-has_room.false), c.fill.auto.out)

pub overflow_add-result-2 : goal.overflow_add-result-2
overflow_add-result-2 c = omega (arith, room (length c.args.out.now) c.args.at (c.saturating_sub-before.result + 1) c.has_room.result c.has_room.ensures (ap not c.if-not-has_room.false))

pub returns : goal.returns
returns c = number-all c.args.at c.args.width c.args.n c.saturating_sub-before.result c.saturating_sub-before.ensures c.fill.new.out c.args.out.now (room (length c.args.out.now) c.args.at (c.saturating_sub-before.result + 1) c.has_room.result c.has_room.ensures (ap not c.if-not-has_room.false)) c.fill.ensures
