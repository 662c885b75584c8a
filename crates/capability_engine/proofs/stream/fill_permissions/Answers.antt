use Rattle.definitions.proofs.Fills.{three, walk_start, walk_kept, walk-fits, walk-short, walk_more}
use Rattle.capability_engine.proofs.RegionListing.{told-end, told_at}
use Rattle.definitions.specs.Pages.{permission_group}
use native.Mathlib.Omega.{arith}
use Rattle.capability_engine.proofs.StreamWalks.{walk-all}
use Rattle.capability_engine.proofs.stream.fill_permissions.Goals as goal

pub loop-i-init : goal.loop-i-init
loop-i-init c = (c.requires, walk_start 3 permission_group three)

pub shape_of-out-in_default : goal.shape_of-out-in_default
shape_of-out-in_default c = walk_kept 3 permission_group three c.loop-i.invariant.1

pub returns-in_default : goal.returns-in_default
returns-in_default c = walk-short 3 permission_group three c.loop-i.invariant.1 (told-end _ _ c.loop-i.c c.next-n.result c.next-n.ensures c.in_default.is)

pub put_permission-requires : goal.put_permission-requires
put_permission-requires c = walk-fits 3 permission_group three c.loop-i.invariant.1 c.loop-i-test.true

pub loop-i-preserved : goal.loop-i-preserved
loop-i-preserved c = let v = told_at _ _ c.loop-i.c c.next-n.result c.next-n.ensures _ _ c.in-Some.is in (v.1, walk_more 3 permission_group three c.loop-i.invariant.1 v.0 c.loop-i-test.true c.put_permission.ensures)

pub shape_of-out : goal.shape_of-out
shape_of-out c = walk_kept 3 permission_group three c.loop-i.invariant.1

pub returns : goal.returns
returns c = walk-all 3 permission_group three c.loop-i.invariant.1 (omega arith)
