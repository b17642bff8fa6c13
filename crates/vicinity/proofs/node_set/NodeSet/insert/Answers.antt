-- A node that isn't in the set comes to the list, in which there is room for it.
use Rattle.std.proofs.Common.{◌<◌, length, ap, arith}
use Rattle.vicinity.specs.NodeSets.{NodeSetData}
use Rattle.machine_parts.proofs.MarkLemmas.{unmarked_read, count_marked-below, ListsMarked-more}
use Rattle.vicinity.proofs.node_set.NodeSet.insert.Goals as goal

pub push_reserved-requires : goal.push_reserved-requires
push_reserved-requires c =
    let marks = c.self.inside.marks.items in
    let within : c.args.node < length marks = omega (arith, c.requires, ap (λ (set : NodeSetData). length set.inside) c.self.view_is) in
    let absent = unmarked_read marks c.args.node _ within c.index.ensures c.if-index.false in
    omega (arith, count_marked-below marks c.args.node within absent, c.self.invariant.number, c.self.invariant.room)

pub invariant_of-self : goal.invariant_of-self
invariant_of-self c =
    let marks = c.self.inside.marks.items in
    let within : c.args.node < length marks = omega (arith, c.requires, ap (λ (set : NodeSetData). length set.inside) c.self.view_is) in
    let absent = unmarked_read marks c.args.node _ within c.index.ensures c.if-index.false in
    rw (c.push_reserved.ensures.items, c.push_reserved.ensures.capacity)
    (ListsMarked-more marks c.self.inside.list.items _ c.args.node within absent c.self.invariant)
