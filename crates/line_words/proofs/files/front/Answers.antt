use Rattle.std.proofs.Common.{sym, arith}
use Rattle.line_words.proofs.FileLemmas.{front_of-whole}
use Rattle.line_words.proofs.files.front.Goals as goal

pub returns-then-text-le-MOST_FILE_BYTES : goal.returns-then-text-le-MOST_FILE_BYTES
returns-then-text-le-MOST_FILE_BYTES c = sym (front_of-whole c.args.text.now (omega arith))
