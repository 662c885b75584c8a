use Rattle.std.proofs.lemmas.Result.{err_from_is_err_and}
use native.Mathlib.Omega.{arith}
use mathlib.Core.Path.{refl, sym, ◌∙◌}
use Rattle.capability_engine.proofs.PoolHeaps.{heap-arena}
use Rattle.capability_engine.proofs.RegionTracks.{capacity-is, tracked-walk, tracked-askable, changes-empty, changes-not, add-applies, add-changes, add-expected, allotted-room, allotted-is, counts_same, counts-few, counts-total, counts-done}
use Rattle.capability_engine.proofs.region.RegionTracker.add_region.Goals as goal

pub skip_below-skipped-requires : goal.skip_below-skipped-requires
skip_below-skipped-requires c = tracked-walk _ _ _ _ c.requires.tracked

pub ask_add-requires : goal.ask_add-requires
ask_add-requires c =
    record {
      askable = tracked-askable _ _ _ _ c.requires.tracked _ (allotted-room _ _ _ _ c.requires _ c.room-room.ensures);
      low = record { 0 = c.min.result };
      below = omega (arith, c.min.ensures);
      under = omega (arith, c.min.ensures);
      skipped = c.skip_below-skipped.ensures;
    }

pub returns-in_err-changed : goal.returns-in_err-changed
returns-in_err-changed c =
    let p = err_from_is_err_and c.from_residual.result c.from_residual.ensures.1 in
    rw (p.1, p.2) (
      changes-not c.args.start c.args.end _ _ _ _ _ _ (sym c.in_err-changed.was ∙ add-expected _ _ _ _ c.requires _ c.room-room.ensures _ _ _ _ c.ask_add.ensures) (omega arith) _ refl,
      counts_same _ _ _ _ c.requires,
    )

pub capacity-before-requires : goal.capacity-before-requires
capacity-before-requires c = (_, heap-arena _ _ _ c.requires.tracked.ready.heap)

pub add_between-requires : goal.add_between-requires
add_between-requires c =
    add-applies _ _ _ _ c.requires.tracked c.args.start c.args.end c.args.rights _ (allotted-room _ _ _ _ c.requires _ c.room-room.ensures) (omega arith) c.if-start-end.true _ _ c.in_ok-changed.was c.ask_add.ensures (record { 0 = c.min.result }) c.skip_below-skipped.result c.skip_below-skipped.ensures (omega (arith, c.min.ensures))

pub capacity-after-requires : goal.capacity-after-requires
capacity-after-requires c = (_, heap-arena _ _ _ c.add_between.ensures.ready.heap)

pub recount-requires : goal.recount-requires
recount-requires c = (
  counts-few _ _ _ _ c.requires _ (capacity-is _ _ _ c.requires.tracked.ready.heap _ c.capacity-before.ensures),
  omega (arith, counts-total _ _ _ _ c.requires _ _ _ _ c.add_between.ensures _ _ (capacity-is _ _ _ c.requires.tracked.ready.heap _ c.capacity-before.ensures) (capacity-is _ _ _ c.add_between.ensures.ready.heap _ c.capacity-after.ensures)),
)

pub returns-then-start-end : goal.returns-then-start-end
returns-then-start-end c =
    rw c.recount.ensures (
      add-changes _ _ _ _ c.requires.tracked c.args.start c.args.end c.args.rights _ (allotted-room _ _ _ _ c.requires _ c.room-room.ensures) (omega arith) c.if-start-end.true _ _ refl (sym c.in_ok-changed.was ∙ c.ask_add.ensures) _ (allotted-is _ _ _ _ c.requires _ c.room-room.ensures) _ _ _ c.add_between.ensures,
      counts-done _ _ _ _ c.requires _ _ _ _ c.add_between.ensures _ _ (capacity-is _ _ _ c.requires.tracked.ready.heap _ c.capacity-before.ensures) (capacity-is _ _ _ c.add_between.ensures.ready.heap _ c.capacity-after.ensures),
    )

pub returns-else-start-end : goal.returns-else-start-end
returns-else-start-end c = (
  changes-empty c.args.start c.args.end _ _ _ _ _ _ (sym c.in_ok-changed.was ∙ add-expected _ _ _ _ c.requires _ c.room-room.ensures _ _ _ _ c.ask_add.ensures) (omega arith) c.if-start-end.false,
  counts_same _ _ _ _ c.requires,
)
