use Rattle.std.proofs.Common.{sym, ◌∙◌, ap}
use Rattle.line_words.specs.Words.{words_of}
use Rattle.sim_read.proofs.HeaderLemmas.{after_first-at, after_first-none}
use Rattle.sim_read.proofs.header.comment_words.Goals as goal

pub returns-in-Some : goal.returns-in-Some
returns-in-Some c =
    c.words.ensures.parts ∙ ap words_of (sym (after_first-at _ c.args.line.now c.in-Some.at (sym c.in-Some.ensures)))

pub returns-in-None : goal.returns-in-None
returns-in-None c = c.words-in-None.ensures.parts ∙ ap words_of (sym (after_first-none _ c.args.line.now (sym c.in-None.ensures)))
