use mathlib.Core.Path.{ap, ◌∙◌}
use native.Mathlib.Omega.{arith}
use lib.ListN.{length-drop}
use Rattle.std.proofs.lemmas.List.{take_all}
use Rattle.planner.specs.Reading.{ends}
use Rattle.planner.proofs.ReadLaws.{head-short, head-unended, head-said}
use Rattle.planner.proofs.wishes.range_of.Goals as goal
use Rattle.planner.proofs.wishes.range_of.Goals.{then-bytes-lt-RANGE_LEN-via-then-bytes-lt-RANGE_LEN, then-bytes-lt-RANGE_LEN-via-else-bytes-lt-RANGE_LEN+then-not-ends}

pub returns-then-bytes-lt-RANGE_LEN : goal.returns-then-bytes-lt-RANGE_LEN
returns-then-bytes-lt-RANGE_LEN c = elim c.then-bytes-lt-RANGE_LEN.branch [
  | then-bytes-lt-RANGE_LEN-via-then-bytes-lt-RANGE_LEN w ↦ head-short c.args.bytes.now w.if-bytes-lt-RANGE_LEN.true
  | then-bytes-lt-RANGE_LEN-via-else-bytes-lt-RANGE_LEN+then-not-ends w ↦ head-unended c.args.bytes.now w.if-bytes-lt-RANGE_LEN.false w.ends.result (w.ends.ensures ∙ ap ends (take_all _ _ (simp length-drop (omega arith)))) w.if-not-ends.true
]

pub returns : goal.returns
returns c = head-said c.args.bytes.now c.if-bytes-lt-RANGE_LEN.false c.ends.result (c.ends.ensures ∙ ap ends (take_all _ _ (simp length-drop (omega arith)))) c.if-not-ends.false c.parse_range.result c.parse_range.ensures
