-- What is read of the lines that are left is what was to be read of all.
use Rattle.line_words.specs.Files as file
use Rattle.symbol_meaning.specs.Scripts.{asked_lines}
use Rattle.symbol_reading.specs.Reading.{rest_read}
use Rattle.symbol_reading.proofs.ReadingLemmas.{SoFar}
use Rattle.symbol_reading.proofs.reading.read_lines.Given as goal

abbrev pub invariant-loop-line : goal.invariant-loop-line
invariant-loop-line l =
    SoFar l.quiet l.cut l.names l.bound l.line-iterator (rest_read l.fn.names l.fn.bound (asked_lines l.quiet l.cut (file.lines_in l.text)))
