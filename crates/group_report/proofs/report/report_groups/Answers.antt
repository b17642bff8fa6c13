-- If there was no memory for the groups, nothing was written of the report that there is.
use Rattle.ports.proofs.SendingLemmas.{part_none}
use Rattle.group_report.proofs.ReportLemmas.{report_exists}
use Rattle.group_report.proofs.report.report_groups.Goals as goal

pub returns-in-Err-clause-report : goal.returns-in-Err-clause-report
returns-in-Err-clause-report g c =
    let report = report_exists c.args.circuit.now c.graph.ensures.netlist in
    (report.0, report.1, part_none (g.S.Sink.written c.args.out.now) report.0)
