use mathlib.Core.Path.{sym, ap, ◌∙◌}
use borrow.Author.Tests.{not-true, not-false}
use lib.Seq.{length-take-le}
use Rattle.capability_engine.specs.ScriptSteps.{task_of}
use Rattle.capability_engine.proofs.ScriptHears.{hears-room, hears-part, hears-line}
use Rattle.capability_engine.proofs.script.hear_bytes.Goals as goal

pub returns-then-not-taken : goal.returns-then-not-taken
returns-then-not-taken c = hears-part _ _ c.args.p.now _ _ c.requires.0 c.requires.1 c.requires.2 c.take_line-taken.ensures (not-true _ c.if-not-taken.true)

pub slice_bounds-parse_line-end : goal.slice_bounds-parse_line-end
slice_bounds-parse_line-end c = hears-room _ _ c.args.p.now _ _ c.requires.0 c.requires.1 c.requires.2 c.take_line-taken.ensures

pub slice_bounds-parse_line-end-2 : goal.slice_bounds-parse_line-end-2
slice_bounds-parse_line-end-2 c = sym (length-take-le _ _ (hears-room _ _ c.args.p.now _ _ c.requires.0 c.requires.1 c.requires.2 c.take_line-taken.ensures))

pub returns-in_default : goal.returns-in_default
returns-in_default c = hears-line _ _ c.args.p.now _ _ c.requires.0 c.requires.1 c.requires.2 c.take_line-taken.ensures _ (not-false _ c.if-not-taken.false) (ap task_of (sym c.in_default.is ∙ c.parse_line-said.ensures))

pub returns : goal.returns
returns c = hears-line _ _ c.args.p.now _ _ c.requires.0 c.requires.1 c.requires.2 c.take_line-taken.ensures _ (not-false _ c.if-not-taken.false) (c.task_of.ensures ∙ ap task_of (sym c.in-Some.is ∙ c.parse_line-said.ensures))
