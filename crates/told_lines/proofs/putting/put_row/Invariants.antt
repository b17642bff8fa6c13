-- The text of the columns before this one was put, and there is room for the others'.
use Rattle.std.proofs.Common.{◌≡◌, ◌≤◌, ◌+◌, ◌-◌, ◌*◌, ◌++◌, length}
use Rattle.printed_lines.specs.declared.lines.TheConstants.{COLUMN_ROOM, WAVE_LINE_ROOM}
use Rattle.told_lines.specs.Printing.{text_printed}
use Rattle.told_lines.specs.Rows.{wave_at, wave_row}
use Rattle.told_lines.proofs.RowLemmas.{row_left}
use Rattle.told_lines.proofs.putting.put_row.Given as goal

abbrev pub invariant-loop-column : goal.invariant-loop-column
invariant-loop-column l = record {
  bytes : l.out.bytes ++ text_printed l.numbered (row_left (wave_at l.n l.counts l.width l.values) (length l.counts) l.column)
      ≡ l.fn.out.bytes ++ text_printed l.numbered (wave_row l.n l.counts l.width l.values);
  spare : l.out.spare + length (text_printed l.numbered (wave_row l.n l.counts l.width l.values))
      ≡ l.fn.out.spare + length (text_printed l.numbered (row_left (wave_at l.n l.counts l.width l.values) (length l.counts) l.column));
  room : (length l.counts - l.column) * (COLUMN_ROOM + WAVE_LINE_ROOM) ≤ l.out.spare;
}
