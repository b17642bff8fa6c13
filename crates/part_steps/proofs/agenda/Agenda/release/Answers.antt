-- The part comes to the list, in which there is room for it.
use Rattle.std.proofs.Common.{◌<◌, false, length, ap, sym, ◌∙◌, arith}
use Rattle.std.proofs.lemmas.List.{get_or_default}
use Rattle.machine_parts.specs.Marking.{IsMarked, AgendaData}
use Rattle.machine_parts.proofs.MarkLemmas.{IsAgenda-released, count_marked-cleared}
use Rattle.part_steps.proofs.agenda.Agenda.release.Goals as goal

pub invariant_of-self : goal.invariant_of-self
invariant_of-self c =
    let i = c.self.inside in
    let inside : c.args.k < length i.waits.items =
    omega (arith, c.requires, ap (λ (agenda : AgendaData). length agenda.marks) c.self.view_is, c.self.invariant.counted) in
    let waits : IsMarked i.waits.items c.args.k =
    get_or_default i.waits.items c.args.k false c.index.result.now inside ∙ (sym c.index.ensures ∙ c.if-index.true) in
    let some = count_marked-cleared i.waits.items c.args.k waits in
    rw (c.push_reserved.ensures.items, c.push_reserved.ensures.capacity)
    (IsAgenda-released i.marks.items i.waits.items i.work.items i.waiters.items i.stale _ c.args.k _ waits (omega (arith, some, c.self.invariant.stale_is)) c.self.invariant)
