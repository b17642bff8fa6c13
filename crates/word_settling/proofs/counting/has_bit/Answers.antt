use Rattle.std.proofs.Common.{ap, ◌==◌}
use Rattle.std.proofs.lemmas.Nat.Bits.{shr_and_one}
use Rattle.word_columns.specs.Columns.{is_in_column}
use Rattle.word_settling.proofs.counting.has_bit.Goals as goal

pub returns : goal.returns
unfolding is_in_column
returns c = ap (λ bit. bit == 1) (shr_and_one c.args.word c.args.column)
