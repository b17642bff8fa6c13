-- The text that is sent is that of the findings.
use Rattle.std.proofs.Common.{◌∙◌}
use Rattle.circuit_reports.proofs.LintLemmas.{told_findings, told_some}
use Rattle.circuit_reports.proofs.lint.list_findings.Goals as goal

pub returns-in-Ok-clause-told : goal.returns-in-Ok-clause-told
returns-in-Ok-clause-told g c =
    told_findings c.args.circuit.now c.in_ok-found.found c.in_ok-found.ensures c.deref.result.now (c.deref.ensures.value ∙ c.in_ok-text.ensures)
    (g.S.Sink.written c.args.out.now) (g.S.Sink.written c.send.new.out) c.end_of.result c.end_of.ensures c.in-Ok.ensures.ok

pub returns-clause-told : goal.returns-clause-told
returns-clause-told g c =
    told_some c.args.circuit.now c.in_ok-found.found c.in_ok-found.ensures c.deref.result.now (c.deref.ensures.value ∙ c.in_ok-text.ensures)
    (g.S.Sink.written c.args.out.now) (g.S.Sink.written c.send.new.out) c.in-Err.ensures.part
