-- All that is due was put, and the pen sent it.
use Rattle.std.proofs.Common.{◌∙◌, ℕ, List, ap, subst}
use Rattle.wave_dump.specs.Pens.{SinkSeen, IsSent}
use Rattle.wave_dump.specs.Writing.{DumpData, finished}
use Rattle.wave_dump.proofs.dump.Dump.finish.Goals as goal

pub returns : goal.returns
returns g c =
    let sink = c.finish.result.0 in
    let now : SinkSeen = record { written = g.S.Sink.written sink; faults = g.S.Sink.faults sink; refusals = g.S.Sink.refusals sink } in
    let before = ap (λ (dump : DumpData). dump.sheet.before) c.dump.view_is ∙ c.write_end.ensures.before in
    let text = ap (λ (dump : DumpData). dump.sheet.due) c.dump.view_is ∙ c.write_end.ensures.due in
    subst (λ (before : SinkSeen). IsSent before (finished c.args.self.sheet c.args.states.now) now c.finish.result.1) before
    (subst (λ (text : List ℕ). IsSent c.dump.inside.pen.before text now c.finish.result.1) text c.finish.ensures)
