-- All bits of the greatest word are set, and none of 0.
use Rattle.std.proofs.Common.{◌∙◌, sym}
use Rattle.word_columns.proofs.ColumnLemmas.{column-all, column-none}
use Rattle.truth_makers.proofs.words.all_or_none.Goals as goal

pub returns-then-value : goal.returns-then-value
returns-then-value c = λ column inside. column-all column inside ∙ sym c.if-value.true

pub returns-else-value : goal.returns-else-value
returns-else-value c = λ column inside. column-none column ∙ sym c.if-value.false
