use mathlib.Core.Path.{ap, ◌∙◌}
use mathlib.Core.List.{List}
use lib.ListN.{drop}
use Rattle.definitions.specs.Pages.{mapping_group}
use Rattle.definitions.specs.declared.remapper.Mapping.{Mapping}
use Rattle.definitions.proofs.Fills.{from_at}
use Rattle.capability_engine.proofs.stream.page.Goals as goal

pub returns : goal.returns
returns c = from_at 5 mapping_group _ _ c.args.k _ _ _ (c.advance-d.ensures.result_value ∙ ap (λ (l : List Mapping). drop c.args.k l) c.start-c.ensures.result_value) c.fill.ensures
