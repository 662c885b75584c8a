use Rattle.std.proofs.Common.{◌*◌, ◌≤◌}
use Rattle.pages.proofs.Listing.read_all.Given as goal

abbrev pub invariant-loop : goal.invariant-loop
invariant-loop g l = l.from ≤ 320 * l.counter
