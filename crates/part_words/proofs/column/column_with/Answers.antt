-- The lowest of the columns that begin so is one of them.
use Rattle.std.proofs.Common.{arith}
use Rattle.part_words.proofs.ColumnStates.{column-first}
use Rattle.part_words.proofs.column.column_with.Goals as goal

pub returns-clause-begins : goal.returns-clause-begins
returns-clause-begins c =
    let first = column-first c.columns_with-columns.result c.if-columns-eq0.false (omega arith) in
    c.columns_with-columns.ensures _ first.0 first.1
