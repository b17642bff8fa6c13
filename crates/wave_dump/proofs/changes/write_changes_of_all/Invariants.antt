-- The changes of the first entries are written.
use Rattle.std.proofs.Common.{◌≡◌, length}
use Rattle.settling.specs.PlainStepping.{numbers_from}
use Rattle.wave_dump.specs.Entries.{entries_of, shown_of}
use Rattle.wave_dump.specs.Values.{values_in}
use Rattle.wave_dump.proofs.MarkedLemmas.{ChangesSoFar}
use Rattle.wave_dump.proofs.changes.write_changes_of_all.Given as goal

abbrev pub invariant-loop-number : goal.invariant-loop-number
invariant-loop-number g l = record {
  so_far : ChangesSoFar (shown_of l.fn.entries) (values_in l.states (entries_of l.fn.entries)) (numbers_from 0 (length l.fn.entries)) l.is_told l.time
      l.fn.pen.text (shown_of l.entries) l.number l.told l.pen.text;
  entries : entries_of l.entries ≡ entries_of l.fn.entries;
  before : l.pen.before ≡ l.fn.pen.before;
}
