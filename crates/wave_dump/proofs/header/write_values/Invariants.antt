-- The lines of the first values are put.
use Rattle.std.proofs.Common.{◌≡◌, drop}
use Rattle.wave_dump.specs.Values.{value_lines}
use Rattle.wave_dump.specs.Entries.{shown_of}
use Rattle.wave_dump.proofs.TextLemmas.{Leaves}
use Rattle.wave_dump.proofs.header.write_values.Given as goal

abbrev pub invariant-loop-number : goal.invariant-loop-number
invariant-loop-number g l = record {
  leaves : Leaves l.fn.pen.text l.pen.text (value_lines 0 (shown_of l.entries)) (value_lines l.number (drop l.number (shown_of l.entries)));
  before : l.pen.before ≡ l.fn.pen.before;
}
