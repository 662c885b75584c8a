use Rattle.lines.proofs.Written.{answer-columns}
use Rattle.lines.proofs.put_answer.Goals as goal

pub returns : goal.returns
returns c = answer-columns c.args.at c.number_of-number.result c.value_of-value.result c.args.answer c.args.out.now c.put_columns.new.out c.put_columns.result c.number_of-number.ensures c.value_of-value.ensures c.put_columns.ensures
