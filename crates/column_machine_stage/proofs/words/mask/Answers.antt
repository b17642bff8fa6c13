use Rattle.std.proofs.Common.{sym, ◌∙◌}
use Rattle.word_columns.proofs.ColumnLemmas.{column-all, column-none}
use Rattle.column_machine_stage.proofs.words.mask.Goals as goal

pub returns-then-set : goal.returns-then-set
returns-then-set c = λ column inside. column-all column inside ∙ sym c.if-set.true

pub returns-else-set : goal.returns-else-set
returns-else-set c = λ column inside. column-none column ∙ sym c.if-set.false
