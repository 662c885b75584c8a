use Rattle.capability_engine.proofs.StreamWalks.{walk_from}
use Rattle.definitions.specs.Pages.{region_group, record_len}
use Rattle.capability_engine.proofs.stream.regions.Goals as goal

pub returns : goal.returns
returns c = walk_from record_len region_group _ _ c.args.head _ c.args.k _ _ _ c.follow-h.ensures.result_value c.fill_regions.ensures
