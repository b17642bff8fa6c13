-- The lines of the columns before this one were heard.
use Rattle.std.proofs.Common.{◌≡◌, length}
use Rattle.told_lines.specs.Hearing.{SoFar}
use Rattle.told_lines.specs.Rows.{wave_at}
use Rattle.told_lines.proofs.RowLemmas.{row_left, row_of_lines}
use Rattle.told_lines.proofs.lines.Lines.tell_row.Given as goal

abbrev pub invariant-loop-column : goal.invariant-loop-column
invariant-loop-column g l = record {
  heard : SoFar g.Self.Lines.hear (g.Self.Lines.heard l.fn.self) (g.Self.Lines.heard l.self)
      (row_of_lines (wave_at l.n l.counts l.width l.values) (length l.counts)) (row_left (wave_at l.n l.counts l.width l.values) (length l.counts) l.column);
  room : g.Self.Lines.room l.self ≡ g.Self.Lines.room l.fn.self;
  faults : g.Self.Lines.faults l.self ≡ g.Self.Lines.faults l.fn.self;
  refusals : g.Self.Lines.refusals l.self ≡ g.Self.Lines.refusals l.fn.self;
}
