use Rattle.definitions.proofs.Fills.{Walk}
use Rattle.capability_engine.specs.RegionListing.{permissions_from}
use Rattle.capability_engine.specs.PoolChain.{Walkable}
use Rattle.definitions.specs.Pages.{permission_group}
use Rattle.capability_engine.proofs.stream.fill_permissions.Given as goal

abbrev pub invariant-loop-i : goal.invariant-loop-i
invariant-loop-i l =
    Walkable l.next l.words l.c.next × Walk 3 permission_group (permissions_from l.next l.words l.initial.c) (permissions_from l.next l.words l.c) l.initial.out l.out l.i
