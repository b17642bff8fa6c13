use Rattle.std.proofs.Common.{sym, ◌∙◌}
use Rattle.word_columns.proofs.ColumnLemmas.{column-all, column-none}
use Rattle.part_words.proofs.column.spread.Goals as goal

pub returns-then-set : goal.returns-then-set
returns-then-set c column inside = column-all column inside ∙ sym c.if-set.true

pub returns-else-set : goal.returns-else-set
returns-else-set c column inside = column-none column ∙ sym c.if-set.false
