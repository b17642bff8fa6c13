use Rattle.std.proofs.Common.{sym, subst}
use Rattle.line_words.specs.Words.{IsLine}
use Rattle.line_words.proofs.WordLemmas.{words_of-IsLine, IsLine-words_of, length-words_of}
use Rattle.line_words.proofs.cuts.words.Goals as goal

pub returns-clause-grammar : goal.returns-clause-grammar
returns-clause-grammar c = λ parts.
    (λ by_grammar. words_of-IsLine by_grammar, λ same. subst (IsLine c.args.bytes.now) (sym same) (IsLine-words_of c.args.bytes.now))

pub returns-clause-bound : goal.returns-clause-bound
returns-clause-bound c = rw c.of_line.ensures (length-words_of c.args.bytes.now)
