-- What is left to be put follows what was put.
use Rattle.std.proofs.Common.{◌≡◌, ◌++◌, drop}
use Rattle.wave_dump.specs.Comments.{escaped, escaped_from}
use Rattle.wave_dump.proofs.putting.put_escaped.Given as goal

abbrev pub invariant-loop-byte : goal.invariant-loop-byte
invariant-loop-byte g l = record {
  left : l.fn.pen.text ++ escaped l.text ≡ l.pen.text ++ escaped_from l.begins (drop l.byte-index l.text);
  before : l.pen.before ≡ l.fn.pen.before;
}
