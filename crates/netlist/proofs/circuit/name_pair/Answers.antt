use Rattle.netlist.proofs.NamingLemmas.{Extends-added_first}
use Rattle.netlist.proofs.circuit.name_pair.Goals as goal

pub returns-in_err-node-clause-grown : goal.returns-in_err-node-clause-grown
returns-in_err-node-clause-grown c =
    Extends-added_first c.add_first.result c.args.names.now c.add_first.new.self c.args.first.now c.add_first.ensures.ok c.add_first.ensures.err
