-- What an instruction gives in all columns of a word it gives in those that there are.
use Rattle.std.proofs.Common.{arith}
use Rattle.truth_makers.proofs.words.WordTruthsTruths.perform.Goals as goal

pub returns-clause-value : goal.returns-clause-value
returns-clause-value c = λ column inside. c.kind_word.ensures column (omega (arith, inside, c.used.ensures.few))
