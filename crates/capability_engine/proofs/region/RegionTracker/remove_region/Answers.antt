use Rattle.std.proofs.lemmas.Result.{err_from_is_err_and}
use native.Mathlib.Omega.{arith}
use mathlib.Core.Path.{refl, sym, ◌∙◌}
use Rattle.capability_engine.proofs.PoolHeaps.{heap-arena}
use Rattle.capability_engine.proofs.RegionTracks.{capacity-is, tracked-walk, tracked-askable, changes-empty, changes-not, remove-applies, remove-changes, remove-expected, allotted-room, allotted-is, counts_same, counts-few, counts-total, counts-done}
use Rattle.capability_engine.proofs.region.RegionTracker.remove_region.Goals as goal

pub skip_below-skipped-requires : goal.skip_below-skipped-requires
skip_below-skipped-requires c = tracked-walk _ _ _ _ c.requires.tracked

pub ask_remove-requires : goal.ask_remove-requires
ask_remove-requires c =
    record {
      askable = tracked-askable _ _ _ _ c.requires.tracked _ (allotted-room _ _ _ _ c.requires _ c.room-room.ensures);
      low = record { 0 = c.min.result };
      below = omega (arith, c.min.ensures);
      under = omega (arith, c.min.ensures);
      skipped = c.skip_below-skipped.ensures;
    }

pub returns-in_err-gone : goal.returns-in_err-gone
returns-in_err-gone c =
    let p = err_from_is_err_and c.from_residual.result c.from_residual.ensures.1 in
    rw (p.1, p.2) (
      changes-not c.args.start c.args.end _ _ _ _ _ _ (sym c.in_err-gone.was ∙ remove-expected _ _ _ _ c.requires _ c.room-room.ensures _ _ _ _ c.ask_remove.ensures) (omega arith) _ refl,
      counts_same _ _ _ _ c.requires,
    )

pub capacity-before-requires : goal.capacity-before-requires
capacity-before-requires c = (_, heap-arena _ _ _ c.requires.tracked.ready.heap)

pub remove_between-requires : goal.remove_between-requires
remove_between-requires c =
    remove-applies _ _ _ _ c.requires.tracked c.args.start c.args.end c.args.rights _ (allotted-room _ _ _ _ c.requires _ c.room-room.ensures) (omega arith) c.if-start-end.true _ _ c.in_ok-gone.was c.ask_remove.ensures (record { 0 = c.min.result }) c.skip_below-skipped.result c.skip_below-skipped.ensures (omega (arith, c.min.ensures))

pub capacity-after-requires : goal.capacity-after-requires
capacity-after-requires c = (_, heap-arena _ _ _ c.remove_between.ensures.ready.heap)

pub recount-requires : goal.recount-requires
recount-requires c = (
  counts-few _ _ _ _ c.requires _ (capacity-is _ _ _ c.requires.tracked.ready.heap _ c.capacity-before.ensures),
  omega (arith, counts-total _ _ _ _ c.requires _ _ _ _ c.remove_between.ensures _ _ (capacity-is _ _ _ c.requires.tracked.ready.heap _ c.capacity-before.ensures) (capacity-is _ _ _ c.remove_between.ensures.ready.heap _ c.capacity-after.ensures)),
)

pub returns-then-start-end : goal.returns-then-start-end
returns-then-start-end c =
    rw c.recount.ensures (
      remove-changes _ _ _ _ c.requires.tracked c.args.start c.args.end c.args.rights _ (allotted-room _ _ _ _ c.requires _ c.room-room.ensures) (omega arith) c.if-start-end.true _ _ refl (sym c.in_ok-gone.was ∙ c.ask_remove.ensures) _ (allotted-is _ _ _ _ c.requires _ c.room-room.ensures) _ _ _ c.remove_between.ensures,
      counts-done _ _ _ _ c.requires _ _ _ _ c.remove_between.ensures _ _ (capacity-is _ _ _ c.requires.tracked.ready.heap _ c.capacity-before.ensures) (capacity-is _ _ _ c.remove_between.ensures.ready.heap _ c.capacity-after.ensures),
    )

pub returns-else-start-end : goal.returns-else-start-end
returns-else-start-end c = (
  changes-empty c.args.start c.args.end _ _ _ _ _ _ (sym c.in_ok-gone.was ∙ remove-expected _ _ _ _ c.requires _ c.room-room.ensures _ _ _ _ c.ask_remove.ensures) (omega arith) c.if-start-end.false,
  counts_same _ _ _ _ c.requires,
)
