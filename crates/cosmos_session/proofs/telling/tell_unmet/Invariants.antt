use Rattle.std.proofs.Common.{◌≡◌, drop}
use Rattle.told_lines.specs.Hearing.{SoFar, of_column}
use Rattle.cosmos_session.proofs.telling.tell_unmet.Given as goal

abbrev pub invariant-loop-line : goal.invariant-loop-line
invariant-loop-line g l = record {
  heard : SoFar g.L.Lines.hear (g.L.Lines.heard l.fn.out) (g.L.Lines.heard l.out) (of_column 0 l.lines) (of_column 0 (drop l.line-index l.lines));
  room : g.L.Lines.room l.out ≡ g.L.Lines.room l.fn.out;
  faults : g.L.Lines.faults l.out ≡ g.L.Lines.faults l.fn.out;
  refusals : g.L.Lines.refusals l.out ≡ g.L.Lines.refusals l.fn.out;
}
