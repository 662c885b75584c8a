use mathlib.Core.Path.{◌∙◌}
use Rattle.counts.proofs.Laws.{capped-min, raised_is}
use Rattle.counts.proofs.increase_refcount.Goals as goal

pub returns : goal.returns
returns c =
    raised_is c.args.r.now c.args.rights c.as_counters-by.result c.as_counters-by.ensures _ _ _ _ _ _ _
    (c.saturating_add-r.ensures ∙ capped-min _)
    (c.saturating_add-r-2.ensures ∙ capped-min _)
    (c.saturating_add-r-3.ensures ∙ capped-min _)
    (c.saturating_add-r-4.ensures ∙ capped-min _)
    (c.saturating_add-r-5.ensures ∙ capped-min _)
    (c.saturating_add-r-6.ensures ∙ capped-min _)
    (c.saturating_add-r-7.ensures ∙ capped-min _)
