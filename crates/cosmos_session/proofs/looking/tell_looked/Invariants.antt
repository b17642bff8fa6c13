use Rattle.std.proofs.Common.{◌≡◌, drop}
use Rattle.std.specs.Prelude.{flat_map}
use Rattle.told_lines.specs.Lines.{AreInRoom}
use Rattle.told_lines.specs.Hearing.{SoFar, of_column}
use Rattle.node_looks.specs.Looks.{looked_lines}
use Rattle.cosmos_session.proofs.looking.tell_looked.Given as goal

-- the lines of the names before this one were heard, and there is room for the others
abbrev pub invariant-loop-name : goal.invariant-loop-name
invariant-loop-name g l = record {
  heard : SoFar g.L.Lines.hear (g.L.Lines.heard l.fn.out) (g.L.Lines.heard l.out) (of_column 0 (flat_map (looked_lines l.circuit l.state) l.names))
      (of_column 0 (flat_map (looked_lines l.circuit l.state) (drop l.name-index l.names)));
  fits : AreInRoom (g.L.Lines.room l.fn.out) (flat_map (looked_lines l.circuit l.state) (drop l.name-index l.names));
  room : g.L.Lines.room l.out ≡ g.L.Lines.room l.fn.out;
  faults : g.L.Lines.faults l.out ≡ g.L.Lines.faults l.fn.out;
  refusals : g.L.Lines.refusals l.out ≡ g.L.Lines.refusals l.fn.out;
}
