use Rattle.part_words.proofs.ColumnStates.{column-with_same, column-with_other}
use Rattle.part_words.proofs.gather.with_bit.Goals as goal

pub returns-clause-same : goal.returns-clause-same
returns-clause-same c = column-with_same c.args.word c.args.column c.args.set c.requires

pub returns-clause-other : goal.returns-clause-other
returns-clause-other c = column-with_other c.args.word c.args.column c.args.set c.requires
