-- The lines of the groups that were passed are written, and of their texts the numbers are noted.
use Rattle.std.proofs.Common.{◌≡◌, ◌+◌, drop, take}
use Rattle.ports.specs.Sending.{Sends}
use Rattle.group_report.specs.Report.{lines_from, lines_of}
use Rattle.group_report.specs.Noted.{AreNoted}
use Rattle.group_report.proofs.report.write_lines.Given as goal

abbrev pub invariant-loop-place : goal.invariant-loop-place
invariant-loop-place g l = record {
  sent : Sends (g.S.Sink.written l.fn.out) (g.S.Sink.written l.out) (lines_of l.circuit l.groups.groups)
      (lines_from l.circuit l.groups.groups (l.place + 1) (drop l.place l.groups.groups));
  noted : AreNoted l.circuit.graph (take l.place l.groups.groups) l.noted;
  faults : g.S.Sink.faults l.out ≡ g.S.Sink.faults l.fn.out;
  refusals : g.S.Sink.refusals l.out ≡ g.S.Sink.refusals l.fn.out;
}
