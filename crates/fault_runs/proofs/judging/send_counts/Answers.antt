-- Where there is no room for the line nothing is written.
use Rattle.ports.proofs.ResultLemmas.{at_err}
use Rattle.ports.proofs.SendingLemmas.{part_none}
use Rattle.printed_lines.specs.Verdicts.{faults_line_of}
use Rattle.fault_runs.proofs.judging.send_counts.Goals as goal

pub returns-in_err-reserve-clause-part : goal.returns-in_err-reserve-clause-part
returns-in_err-reserve-clause-part g c =
    at_err c.from_residual.result
    (part_none (g.S.Sink.written c.args.out.now)
    (faults_line_of c.args.faults c.args.counts.detected c.args.counts.possible c.args.counts.undetected c.args.counts.refused))
