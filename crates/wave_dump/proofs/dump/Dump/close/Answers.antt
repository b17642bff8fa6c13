-- The pen sent all that is due so far.
use Rattle.std.proofs.Common.{List, ℕ, ap, subst}
use Rattle.wave_dump.specs.Pens.{SinkSeen, IsSent}
use Rattle.wave_dump.specs.Writing.{DumpData}
use Rattle.wave_dump.proofs.dump.Dump.close.Goals as goal

pub returns : goal.returns
returns g c =
    let sink = c.finish.result.0 in
    let now : SinkSeen = record { written = g.S.Sink.written sink; faults = g.S.Sink.faults sink; refusals = g.S.Sink.refusals sink } in
    let before = ap (λ (dump : DumpData). dump.sheet.before) c.self.view_is in
    let text = ap (λ (dump : DumpData). dump.sheet.due) c.self.view_is in
    subst (λ (before : SinkSeen). IsSent before c.args.self.sheet.due now c.finish.result.1) before
    (subst (λ (text : List ℕ). IsSent c.self.inside.pen.before text now c.finish.result.1) text c.finish.ensures)
