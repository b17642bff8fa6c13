use Rattle.circuit_reports.proofs.GroupsLemmas.{told_report, told_part}
use Rattle.circuit_reports.proofs.reports.list_groups.Goals as goal

pub returns-in-Ok-clause-told : goal.returns-in-Ok-clause-told
returns-in-Ok-clause-told g c =
    told_report c.args.circuit.now (g.S.Sink.written c.args.out.now) (g.S.Sink.written c.report_groups.new.out) c.in-Ok.ensures.report

pub returns-in-Err-clause-told : goal.returns-in-Err-clause-told
returns-in-Err-clause-told g c =
    told_part c.args.circuit.now (g.S.Sink.written c.args.out.now) (g.S.Sink.written c.report_groups.new.out) c.in-Err.ensures.report
