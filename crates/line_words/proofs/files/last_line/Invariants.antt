use Rattle.std.proofs.Common.{◌≡◌, length}
use Rattle.line_words.specs.Lines.{lines_of}
use Rattle.line_words.proofs.FileLemmas.{last_number}
use Rattle.line_words.proofs.files.last_line.Given as goal

-- the last number, when the lines left have been read, is how many lines there are
abbrev pub invariant-loop-line : goal.invariant-loop-line
invariant-loop-line l = last_number l.last l.line-iterator ≡ length (lines_of l.text)
