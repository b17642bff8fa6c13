use Rattle.part_words.proofs.ColumnStates.{column-cleared}
use Rattle.part_words.proofs.column.cleared.Goals as goal

pub returns : goal.returns
returns c = column-cleared c.args.word c.args.column c.requires
