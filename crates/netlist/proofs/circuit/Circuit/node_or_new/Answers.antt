use Rattle.std.proofs.Common.{sym}
use Rattle.netlist.proofs.NamingLemmas.{node_of-first}
use Rattle.netlist.proofs.circuit.Circuit.node_or_new.Goals as goal

pub returns-in-Ok-clause-node : goal.returns-in-Ok-clause-node
returns-in-Ok-clause-node c =
    node_of-first c.self.inside.names c.add_first.new.self c.args.name.now c.in_ok-node.node (sym c.in_default.ensures.value)
    c.in_ok-node.ensures.ok c.in_ok-node.ensures.number
