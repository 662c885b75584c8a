use mathlib.Core.Path.{refl}
use Rattle.columns.proofs.Room.{written}
use Rattle.lines.proofs.Written.{length-answer}
use Rattle.capability_engine.proofs.script.tell.Goals as goal

pub returns : goal.returns
returns c = (written _ 25 _ _ _ _ (length-answer _) c.requires.0 c.put_answer.ensures, refl)
