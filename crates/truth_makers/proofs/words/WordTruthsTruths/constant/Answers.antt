-- All bits are alike, and so are those of the columns.
use Rattle.std.proofs.Common.{arith}
use Rattle.truth_makers.proofs.words.WordTruthsTruths.constant.Goals as goal

pub returns-clause-value : goal.returns-clause-value
returns-clause-value c = λ column inside. c.all_or_none.ensures column (omega (arith, inside, c.used.ensures.few))
