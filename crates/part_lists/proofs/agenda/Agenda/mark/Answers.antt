-- A part that isn't marked comes to the list, in which there is room for it.
use Rattle.std.proofs.Common.{◌<◌, length, ap, arith}
use Rattle.machine_parts.proofs.MarkLemmas.{unmarked_read, count_marked-below, ListsMarked-more}
use Rattle.part_lists.proofs.agenda.Agenda.mark.Goals as goal

pub push_reserved-requires : goal.push_reserved-requires
push_reserved-requires c =
    let marks = c.self.inside.marks.items in
    let inside : c.args.k < length marks = omega (arith, c.requires, ap length c.self.view_is) in
    let unmarked = unmarked_read marks c.args.k _ inside c.index.ensures c.if-not-index.true in
    omega (arith, count_marked-below marks c.args.k inside unmarked, c.self.invariant.number, c.self.invariant.room)

pub invariant_of-self : goal.invariant_of-self
invariant_of-self c =
    let marks = c.self.inside.marks.items in
    let inside : c.args.k < length marks = omega (arith, c.requires, ap length c.self.view_is) in
    let unmarked = unmarked_read marks c.args.k _ inside c.index.ensures c.if-not-index.true in
    rw (c.push_reserved.ensures.items, c.push_reserved.ensures.capacity)
    (ListsMarked-more marks c.self.inside.work.items _ c.args.k inside unmarked c.self.invariant)
