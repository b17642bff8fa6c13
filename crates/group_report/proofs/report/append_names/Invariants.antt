-- What is left to be named follows what is in the line.
use Rattle.std.proofs.Common.{◌≡◌, ◌++◌, drop, map}
use Rattle.printed_lines.specs.Lines.{names_after}
use Rattle.netlist.specs.Circuits.{called}
use Rattle.group_report.proofs.report.append_names.Given as goal

abbrev pub invariant-loop-member : goal.invariant-loop-member
invariant-loop-member l =
    l.fn.line.bytes ++ names_after (map (called l.circuit) l.members)
    ≡ l.line.bytes ++ names_after (map (called l.circuit) (drop l.member-index l.members))
