-- What was read and the rest of the text come to what the text does.
use Rattle.std.proofs.Common.{◌≡◌, drop}
use Rattle.formulas.specs.Reading.{start, taken_all}
use Rattle.formulas.proofs.reader.read_parts.Given as goal

abbrev pub invariant-loop-byte : goal.invariant-loop-byte
invariant-loop-byte l = taken_all (drop l.byte-index l.text) l.reader ≡ taken_all l.text start
