use Rattle.std.proofs.Common.{arith}
use Rattle.std.proofs.lemmas.Nat.{xor_lt}
use Rattle.part_words.proofs.ColumnStates.{column-agreeing}
use Rattle.part_words.proofs.column.agreeing.Goals as goal

pub returns : goal.returns
returns c column inside left =
    column-agreeing column c.args.columns c.args.one c.args.other inside (xor_lt 64 c.args.one c.args.other (omega arith) (omega arith)) left
