use Rattle.std.proofs.Common.{◌+◌, drop, ap, arith}
use Rattle.std.proofs.lemmas.List.{drop_all}
use Rattle.session_meaning.specs.Refusals.{all_named, nodes_named}
use Rattle.session_meaning.proofs.ItemLemmas.{all_named-next, given-end, given-next}
use Rattle.cosmos_session.proofs.naming.all_nodes.Goals as goal

pub loop-name-preserved : goal.loop-name-preserved
loop-name-preserved c =
    let circuit = c.args.circuit.now in
    let vectors = c.args.vectors.now in
    let names = c.args.names.now in
    given-next c.loop-name.list.items (nodes_named circuit vectors c.name-item.result) c.add_nodes.new.list.items
    (all_named circuit vectors (drop c.loop-name.name-index names)) (all_named circuit vectors (drop (c.loop-name.name-index + 1) names)) (all_named circuit vectors names)
    c.loop-name.invariant (all_named-next circuit vectors names c.loop-name.name-index c.name-item.result (omega arith) c.name-item.is)
    (rw c.items.ensures at c.in_ok-add_nodes.ensures)

pub returns : goal.returns
returns c =
    given-end c.loop-name.list.items _ _ c.loop-name.invariant
    (ap (all_named c.args.circuit.now c.args.vectors.now) (drop_all c.loop-name.name-index c.args.names.now (omega arith)))
