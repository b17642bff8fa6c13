use Rattle.std.proofs.Common.{arith}
use Rattle.word_columns.proofs.ColumnLemmas.{column-low}
use Rattle.word_columns.proofs.word.low_word.Goals as goal

pub returns : goal.returns
returns c column inside = column-low column c.args.one c.args.zero (omega arith) inside
