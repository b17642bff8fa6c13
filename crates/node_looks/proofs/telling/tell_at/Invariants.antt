use Rattle.std.proofs.Common.{◌≡◌, drop, filter_map}
use Rattle.told_lines.specs.Lines.{AreInRoom}
use Rattle.told_lines.specs.Hearing.{SoFar, of_column}
use Rattle.node_looks.specs.Looks.{line_at, lines_at, numbered}
use Rattle.node_looks.proofs.telling.tell_at.Given as goal

-- the lines of the places before this one were heard, and there is room for the others
abbrev pub invariant-loop-place : goal.invariant-loop-place
invariant-loop-place g l = record {
  heard : SoFar g.L.Lines.hear (g.L.Lines.heard l.fn.out) (g.L.Lines.heard l.out) (of_column 0 (lines_at l.terminal l.circuit l.state l.node))
      (of_column 0 (filter_map (line_at l.terminal l.circuit l.state l.node) (drop l.place (numbered l.circuit))));
  fits : AreInRoom (g.L.Lines.room l.fn.out) (filter_map (line_at l.terminal l.circuit l.state l.node) (drop l.place (numbered l.circuit)));
  room : g.L.Lines.room l.out ≡ g.L.Lines.room l.fn.out;
  faults : g.L.Lines.faults l.out ≡ g.L.Lines.faults l.fn.out;
  refusals : g.L.Lines.refusals l.out ≡ g.L.Lines.refusals l.fn.out;
}
