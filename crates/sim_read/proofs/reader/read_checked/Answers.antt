-- A line has no more words than half its bytes and an LF.
use Rattle.std.proofs.Common.{◌≡◌, length, ap, arith}
use Rattle.line_words.specs.Words.{words_of}
use Rattle.sim_read.proofs.SumLemmas.{length-words_of}
use Rattle.sim_read.proofs.reader.read_checked.Goals as goal

pub returns-then-not-is_comment-clause-bound : goal.returns-then-not-is_comment-clause-bound
returns-then-not-is_comment-clause-bound c =
    let count : length c.words.result ≡ length (words_of c.args.line.now) = ap length c.words.ensures.parts in
    let few = length-words_of c.args.line.now in
    let bound = c.read_words.ensures.bound in
    omega arith
