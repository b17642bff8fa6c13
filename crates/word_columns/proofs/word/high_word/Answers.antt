use Rattle.std.proofs.Common.{arith}
use Rattle.word_columns.proofs.ColumnLemmas.{column-high}
use Rattle.word_columns.proofs.word.high_word.Goals as goal

pub returns : goal.returns
returns c column inside = column-high column c.args.one c.args.zero (omega arith) inside
