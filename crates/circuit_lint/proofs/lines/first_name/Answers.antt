-- Names are those of nodes of the graph.
use Rattle.std.proofs.Common.{◌≤◌, sym}
use Rattle.switch_paths.specs.Graphs.{nodes}
use Rattle.circuit_lint.proofs.NameLemmas.{called-past}
use Rattle.circuit_lint.proofs.lines.first_name.Goals as goal

pub returns-else-node-nodes : goal.returns-else-node-nodes
returns-else-node-nodes c =
    let is = c.graph.ensures.netlist in
    let past : nodes c.args.circuit.now.graph ≤ c.args.node = rw (c.nodes.ensures, c.graph.ensures.value) at c.if-node-nodes.false in
    sym (called-past c.args.circuit.now c.args.node is past)
