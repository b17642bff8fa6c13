use Rattle.std.proofs.Common.{◌≡◌, map, drop}
use Rattle.told_lines.specs.Hearing.{SoFar, of_column}
use Rattle.session_meaning.specs.Effects.{shown_line}
use Rattle.cosmos_session.proofs.session.Session.tell_shown.Given as goal

abbrev pub invariant-loop-name : goal.invariant-loop-name
invariant-loop-name g l = record {
  heard : SoFar g.L.Lines.hear (g.L.Lines.heard l.fn.out) (g.L.Lines.heard l.out) (of_column 0 (map (shown_line l.self.core) l.names))
      (of_column 0 (map (shown_line l.self.core) (drop l.name-index l.names)));
  values : l.values ≡ l.fn.values;
  room : g.L.Lines.room l.out ≡ g.L.Lines.room l.fn.out;
  faults : g.L.Lines.faults l.out ≡ g.L.Lines.faults l.fn.out;
  refusals : g.L.Lines.refusals l.out ≡ g.L.Lines.refusals l.fn.out;
}
