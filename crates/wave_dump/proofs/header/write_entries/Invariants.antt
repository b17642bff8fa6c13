-- The lines of the first entries are put.
use Rattle.std.proofs.Common.{◌≡◌, drop}
use Rattle.wave_dump.specs.Dumps.{entry_lines}
use Rattle.wave_dump.specs.Entries.{entries_of}
use Rattle.wave_dump.proofs.TextLemmas.{Leaves}
use Rattle.wave_dump.proofs.header.write_entries.Given as goal

abbrev pub invariant-loop-number : goal.invariant-loop-number
invariant-loop-number g l = record {
  leaves : Leaves l.fn.pen.text l.pen.text (entry_lines 0 (entries_of l.entries)) (entry_lines l.number (drop l.number (entries_of l.entries)));
  before : l.pen.before ≡ l.fn.pen.before;
}
