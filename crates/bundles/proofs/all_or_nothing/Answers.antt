use mathlib.Core.Path.{sym, ap, ◌∙◌}
use lib.ListN.{length}
use Rattle.capability_engine.proofs.ScriptGoing.{sized, lengths}
use Rattle.bundles.proofs.TurnLaws.{ok-accepted, all_done, put_back}
use Rattle.bundles.proofs.all_or_nothing.Goals as goal

pub copy_from_slice-requires : goal.copy_from_slice-requires
copy_from_slice-requires c = c.new-saved.ensures.0 ∙ sym (sized _ _ _ _ _ c.requires.calls c.requires.grown).0

pub copy_from_slice-requires-2 : goal.copy_from_slice-requires-2
copy_from_slice-requires-2 c = c.new-saved.ensures.1 ∙ sym (sized _ _ _ _ _ c.requires.calls c.requires.grown).1

pub copy_from_slice-requires-3 : goal.copy_from_slice-requires-3
copy_from_slice-requires-3 c = c.new-saved.ensures.2 ∙ sym (sized _ _ _ _ _ c.requires.calls c.requires.grown).2

pub copy_from_slice-requires-4 : goal.copy_from_slice-requires-4
copy_from_slice-requires-4 c = c.new-saved.ensures.3 ∙ sym (sized _ _ _ _ _ c.requires.calls c.requires.grown).3

pub returns-then-is_ok : goal.returns-then-is_ok
returns-then-is_ok c = λ calls g. all_done calls _ _ _ _ _ _ _ _ _ _ _ _ _ (sym (ok-accepted c.in_turn-answer.result) ∙ sym c.is_ok.ensures.value ∙ c.if-is_ok.true) (c.in_turn-answer.ensures calls g)

pub copy_from_slice-requires-5 : goal.copy_from_slice-requires-5
copy_from_slice-requires-5 c = (lengths _ _ _ _ _ c.requires _ _ _ _ _ (c.in_turn-answer.ensures c.requires.calls c.requires.grown).still).0 ∙ sym (ap length c.copy_from_slice.ensures.after)

pub copy_from_slice-requires-6 : goal.copy_from_slice-requires-6
copy_from_slice-requires-6 c = (lengths _ _ _ _ _ c.requires _ _ _ _ _ (c.in_turn-answer.ensures c.requires.calls c.requires.grown).still).1 ∙ sym (ap length c.copy_from_slice-2.ensures.after)

pub copy_from_slice-requires-7 : goal.copy_from_slice-requires-7
copy_from_slice-requires-7 c = (lengths _ _ _ _ _ c.requires _ _ _ _ _ (c.in_turn-answer.ensures c.requires.calls c.requires.grown).still).2 ∙ sym (ap length c.copy_from_slice-3.ensures.after)

pub copy_from_slice-requires-8 : goal.copy_from_slice-requires-8
copy_from_slice-requires-8 c = (lengths _ _ _ _ _ c.requires _ _ _ _ _ (c.in_turn-answer.ensures c.requires.calls c.requires.grown).still).3 ∙ sym (ap length c.copy_from_slice-4.ensures.after)

pub returns : goal.returns
returns c = λ calls g. put_back calls _ _ _ _ _ _ _ _ _ _ _ _ _ _ _ _ _ (sym (ok-accepted c.in_turn-answer.result) ∙ sym c.is_ok.ensures.value ∙ c.if-is_ok.false) (c.in_turn-answer.ensures calls g) g (c.copy_from_slice-5.ensures.after ∙ c.copy_from_slice.ensures.after) (c.copy_from_slice-6.ensures.after ∙ c.copy_from_slice-2.ensures.after) (c.copy_from_slice-7.ensures.after ∙ c.copy_from_slice-3.ensures.after) (c.copy_from_slice-8.ensures.after ∙ c.copy_from_slice-4.ensures.after)
