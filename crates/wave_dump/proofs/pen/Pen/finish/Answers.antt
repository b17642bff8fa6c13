-- What was put and wasn't sent yet is sent, or a part of it.
use Rattle.std.proofs.Common.{◌≡◌, ℕ, List, ap, subst}
use Rattle.std.specs.Prelude.{OnErr, OnOk, is_some}
use Rattle.std.specs.Io.KnownBytes.{append_known}
use Rattle.ports.specs.Sending.{WritesPart}
use Rattle.wave_dump.specs.Pens.{SinkSeen}
use Rattle.wave_dump.proofs.PenLemmas.{line_sent}
use Rattle.wave_dump.proofs.pen.Pen.finish.Goals as goal

pub returns-in-None : goal.returns-in-None
returns-in-None g c =
    let inside = c.self.inside in
    let before : SinkSeen =
    record { written = g.S.Sink.written inside.given.value; faults = g.S.Sink.faults inside.given.value; refusals = g.S.Sink.refusals inside.given.value } in
    let now : SinkSeen =
    record { written = g.S.Sink.written inside.sink; faults = g.S.Sink.faults inside.sink; refusals = g.S.Sink.refusals inside.sink } in
    let next : SinkSeen =
    record { written = g.S.Sink.written c.send-sent.new.out; faults = g.S.Sink.faults c.send-sent.new.out; refusals = g.S.Sink.refusals c.send-sent.new.out } in
    rw (← c.self.view_is)
    (line_sent before now inside.due.text inside.line.items inside.fault next c.send-sent.result (ap is_some c.in-None.is) c.self.invariant
    (subst (λ (line : List ℕ). OnOk c.send-sent.result (next.written ≡ append_known now.written line)) c.deref.ensures.value c.send-sent.ensures.ok)
    (subst (λ (line : List ℕ). OnErr c.send-sent.result (WritesPart now.written next.written line)) c.deref.ensures.value c.send-sent.ensures.part)
    c.send-sent.ensures.cause c.send-sent.ensures.memory)
