-- The bits of both rails that differ, in the used columns.
use Rattle.std.proofs.Common.{◌&&◌, ◌||◌, ap, ap₂, ◌∙◌}
use Rattle.std.specs.Prelude.{bit_xor, bit_or}
use Rattle.word_columns.specs.Columns.{is_in_column}
use Rattle.word_columns.proofs.ColumnLemmas.{column-and, column-or, column-xor}
use Rattle.column_machines.proofs.NotingLemmas.{column-differs}
use Rattle.column_machines.proofs.evaluation.differing.Goals as goal

pub returns : goal.returns
returns c column =
    let a = c.args in
    column-and column (bit_or (bit_xor a.change.hi a.hi) (bit_xor a.change.lo a.lo)) a.used
    ∙ (ap (λ x. x && is_in_column column a.used)
    (column-or column (bit_xor a.change.hi a.hi) (bit_xor a.change.lo a.lo)
    ∙ ap₂ (λ x y. x || y) (column-xor column a.change.hi a.hi) (column-xor column a.change.lo a.lo))
    ∙ column-differs column a.used a.hi a.lo a.change)
