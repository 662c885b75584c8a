use Rattle.capability_engine.proofs.RegionListing.{step_end, step-on}
use Rattle.definitions.specs.Regions.{permission_of}
use mathlib.Core.Path.{ap, ◌∙◌}
use Rattle.capability_engine.proofs.region.PermissionIterator.next.Goals as goal

pub returns-then-h-ge1024 : goal.returns-then-h-ge1024
returns-then-h-ge1024 c = step_end _ _ _ c.requires c.if-h-ge1024.true

pub returns : goal.returns
returns c = step-on _ _ _ c.requires _ c.if-h-ge1024.false (c.permission-p.ensures ∙ ap permission_of c.load-r.ensures)
