use Rattle.lines.proofs.Written.{line-written}
use Rattle.lines.proofs.write_line.Goals as goal

pub returns : goal.returns
returns c = line-written c.args.at c.args.letter c.args.compartment c.args.numbers.now c.args.out.now c.write.new.out c.write_numbers.new.out c.write.result c.requires c.write.ensures c.write_numbers.ensures
