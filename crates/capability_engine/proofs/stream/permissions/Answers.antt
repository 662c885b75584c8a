use Rattle.capability_engine.proofs.StreamWalks.{page-from}
use Rattle.capability_engine.proofs.stream.permissions.Goals as goal

pub follow-h-requires : goal.follow-h-requires
follow-h-requires c = (c.permissions-first.ensures _ c.args.words.now (record { listed = c.requires.listed; words = c.requires.words_len })).0.listed

pub returns : goal.returns
returns c = page-from _ _ _ _ c.args.tracker.head c.args.k _ _ _ (c.permissions-first.ensures _ _ (record { listed = c.requires.listed; words = c.requires.words_len })).1 c.follow-h.ensures.result_value c.fill_permissions.ensures
