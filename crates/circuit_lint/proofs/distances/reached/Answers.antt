-- The node that the search has reached has a distance.
use Rattle.std.proofs.Common.{arith}
use Rattle.circuit_lint.proofs.SearchLemmas.{item_inside}
use Rattle.circuit_lint.proofs.distances.reached.Goals as goal

pub distance_of-requires : goal.distance_of-requires
distance_of-requires c =
    omega (
      arith,
      c.item.ensures,
      item_inside c.args.graph.now c.args.count c.args.distance.now c.args.order.now c.args.count c.requires.searched c.requires.inside,
      c.requires.searched.size,
    )

pub unreachable-requires : goal.unreachable-requires
unreachable-requires c =
    let known = c.requires.searched.known c.args.count c.requires.inside in
    let value = c.distance_of.ensures in
    let item = c.item.ensures in
    let none = c.in-None.is in
    absurd (cc (known.1, value, item, none))
