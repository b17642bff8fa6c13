use Rattle.std.proofs.Common.{sym}
use Rattle.line_words.proofs.WordLemmas.{words_of-skipped, solid-skipped, words_of-blanks}
use Rattle.line_words.proofs.word_cursor.skip_blanks.Goals as goal

pub returns-in-Some-clause-same : goal.returns-in-Some-clause-same
returns-in-Some-clause-same c = words_of-skipped c.args.line.now c.in-Some.at (sym c.in-Some.ensures)

pub returns-in-Some-clause-first : goal.returns-in-Some-clause-first
returns-in-Some-clause-first c = solid-skipped c.args.line.now c.in-Some.at (sym c.in-Some.ensures)

pub returns-in-None-clause-same : goal.returns-in-None-clause-same
returns-in-None-clause-same c = sym (words_of-blanks c.args.line.now (sym c.in-None.ensures))
