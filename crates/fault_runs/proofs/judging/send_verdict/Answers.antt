-- Where the line isn't made nothing is written.
use Rattle.ports.proofs.ResultLemmas.{at_err}
use Rattle.ports.proofs.SendingLemmas.{part_none}
use Rattle.fault_meaning.specs.Judging.{verdict_line}
use Rattle.fault_runs.proofs.judging.send_verdict.Goals as goal

pub returns-in_err-put_verdict-clause-part : goal.returns-in_err-put_verdict-clause-part
returns-in_err-put_verdict-clause-part g c =
    at_err c.from_residual.result (part_none (g.S.Sink.written c.args.out.now) (verdict_line c.args.good.now c.args.number c.args.verdict))
