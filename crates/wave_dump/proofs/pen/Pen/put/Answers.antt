-- After a fault the bytes are due all the same.
use Rattle.std.proofs.Common.{◌∙◌, ℕ, List, sym, subst}
use Rattle.wave_dump.specs.Pens.{Stands}
use Rattle.wave_dump.proofs.PenLemmas.{seen_by, put_kept}
use Rattle.wave_dump.proofs.pen.Pen.put.Goals as goal

pub invariant_of-self : goal.invariant_of-self
invariant_of-self g c =
    let inside = c.self.inside in
    let seen = seen_by g.S.Sink.written g.S.Sink.faults g.S.Sink.refusals in
    subst (λ (text : List ℕ). Stands (seen inside.given.value) text (seen inside.sink) inside.line.items inside.fault) (sym c.with-self-inside.ensures)
    (put_kept (seen inside.given.value) (seen inside.sink) inside.due.text inside.line.items inside.fault c.args.bytes.now (sym c.is_some.ensures ∙ c.if-is_some.true) c.self.invariant)
