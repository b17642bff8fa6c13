-- The text of the row was sent in one piece.
use Rattle.std.proofs.Common.{◌∙◌}
use Rattle.told_lines.specs.Rows.{wave_row}
use Rattle.told_lines.proofs.PartLemmas.{sent_heard}
use Rattle.told_lines.proofs.printer.PrinterLines.tell_row.Goals as goal

pub returns-clause-heard : goal.returns-clause-heard
returns-clause-heard g c =
    let row = wave_row c.args.n c.args.counts.now c.args.width c.args.values.now in
    rw (← c.self.view_is)
    (sent_heard c.self.inside.numbered (g.S.Sink.written c.self.inside.sink) (g.S.Sink.written c.send-sent.new.out) row _ c.send-sent.result
    (c.bytes.ensures ∙ (rw c.self.invariant at c.put_row.ensures.bytes))
    c.send-sent.ensures.ok (λ none. (c.send-sent.ensures.empty none).0) c.send-sent.ensures.part)
