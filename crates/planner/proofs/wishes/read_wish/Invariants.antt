use mathlib.Core.Path.{◌≡◌}
use lib.ListN.{length}
use Rattle.std.specs.Iterator.Adapters.{enumerate_source, enumerate_count}
use Rattle.std.specs.Slice.Iter.{chunks_rest, chunks_size}
use Rattle.planner.proofs.ReadLaws.{Part}
use Rattle.planner.proofs.wishes.read_wish.Given as goal

abbrev pub invariant-loop-n : goal.invariant-loop-n
invariant-loop-n l = record {
  can_next : (goal.iterator-loop-n).can_next l.n-iterator;
  is_finite : (goal.iterator-loop-n).is_finite l.n-iterator;
  size : length l.wish ≡ length l.initial.wish;
  chunks : chunks_size (enumerate_source l.n-iterator) ≡ 64;
  part : Part l.text l.wish (chunks_rest (enumerate_source l.n-iterator)) (enumerate_count l.n-iterator);
}
