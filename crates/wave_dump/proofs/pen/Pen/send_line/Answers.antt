-- The line was sent, or a part of it.
use Rattle.std.proofs.Common.{◌≡◌, ◌∙◌, ℕ, List, Ok, Err, sym, subst}
use Rattle.std.specs.Io.KnownBytes.{append_known}
use Rattle.ports.specs.Sending.{WritesPart}
use Rattle.wave_dump.proofs.PenLemmas.{seen_by, line_sent, stands_sent}
use Rattle.wave_dump.proofs.pen.Pen.send_line.Goals as goal

pub invariant_of-self : goal.invariant_of-self
invariant_of-self g c =
    let inside = c.self.inside in
    let seen = seen_by g.S.Sink.written g.S.Sink.faults g.S.Sink.refusals in
    let next = seen c.send-sent.new.out in
    let none = sym c.is_some.ensures ∙ c.if-is_some.false in
    stands_sent (seen inside.given.value) next inside.due.text c.clear.new.self.items inside.fault c.in-Ok.field-0 none c.clear.ensures.items
    (line_sent (seen inside.given.value) (seen inside.sink) inside.due.text inside.line.items inside.fault next (Ok c.in-Ok.field-0) none c.self.invariant
    (subst (λ (line : List ℕ). next.written ≡ append_known (g.S.Sink.written inside.sink) line) c.deref.ensures.value c.in-Ok.ensures.ok) tt c.in-Ok.ensures.cause
    c.in-Ok.ensures.memory)

pub invariant_of-self-in-Err : goal.invariant_of-self-in-Err
invariant_of-self-in-Err g c =
    let inside = c.self.inside in
    let seen = seen_by g.S.Sink.written g.S.Sink.faults g.S.Sink.refusals in
    let next = seen c.send-sent.new.out in
    line_sent (seen inside.given.value) (seen inside.sink) inside.due.text inside.line.items inside.fault next (Err c.in-Err.fault) (sym c.is_some.ensures ∙ c.if-is_some.false)
    c.self.invariant tt (subst (λ (line : List ℕ). WritesPart (g.S.Sink.written inside.sink) next.written line) c.deref.ensures.value c.in-Err.ensures.part)
    c.in-Err.ensures.cause c.in-Err.ensures.memory
