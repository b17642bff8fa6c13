use Rattle.std.proofs.Common.{sym, subst}
use Rattle.std.proofs.lemmas.List.FromFn.{length-enumerate_from}
use Rattle.line_words.specs.Lines.{IsText}
use Rattle.line_words.proofs.FeedLemmas.{CountsFeeds-text}
use Rattle.line_words.proofs.LineLemmas.{lines_of-IsText, IsText-lines_of, length-lines_of}
use Rattle.line_words.proofs.cuts.lines.Goals as goal

pub returns-clause-grammar : goal.returns-clause-grammar
returns-clause-grammar c = λ parts.
    (λ by_grammar. lines_of-IsText by_grammar, λ same. subst (IsText c.args.text.now) (sym same) (IsText-lines_of c.args.text.now))

pub returns-clause-count : goal.returns-clause-count
returns-clause-count c = rw (c.of_text.ensures, length-enumerate_from)

pub returns-clause-bound : goal.returns-clause-bound
returns-clause-bound c =
    rw (c.of_text.ensures, length-enumerate_from) (length-lines_of c.args.text.now)

pub returns-clause-holding : goal.returns-clause-holding
returns-clause-holding c = CountsFeeds-text c.args.text.now
