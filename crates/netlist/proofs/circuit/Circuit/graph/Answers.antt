use Rattle.std.proofs.Common.{subst}
use Rattle.netlist.specs.Circuits.{IsCircuit}
use Rattle.netlist.proofs.NetlistLemmas.{IsCircuit-circuit_of}
use Rattle.netlist.proofs.circuit.Circuit.graph.Goals as goal

pub returns-clause-netlist : goal.returns-clause-netlist
returns-clause-netlist c =
    subst IsCircuit c.self.view_is
    (IsCircuit-circuit_of c.self.inside.graph c.self.inside.names c.self.inside.profile c.graphs_are_wired.ensures c.are_well_formed.ensures c.self.invariant)
