use mathlib.Core.List.{[], ◌∷◌}
use Rattle.definitions.specs.Script.{script_line}
use Rattle.planner.proofs.WriteLaws.{line-more}
use Rattle.planner.proofs.wishes.allow_line.Goals as goal

pub returns : goal.returns
returns c = line-more (script_line 83 c.args.compartment (c.args.allowance ∷ [])) c.args.out.now c.put_allow.new.out c.args.at c.put_allow.result c.put_allow.ensures c.ok_or.result c.ok_or.ensures.value
