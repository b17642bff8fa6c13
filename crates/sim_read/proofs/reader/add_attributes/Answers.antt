use Rattle.netlist.specs.Edits.{node_fault, node_named, with_node}
use Rattle.sim_read.specs.Meaning.{with_setting}
use Rattle.sim_read.proofs.reader.add_attributes.Goals as goal

pub returns-in-Err-clause-refused : goal.returns-in-Err-clause-refused
returns-in-Err-clause-refused c =
    let named = with_node c.args.circuit.now c.args.name.now in
    c.edit_stop.ensures (node_fault c.args.circuit.now c.args.name.now)
    (with_setting named (node_named named c.args.name.now) c.args.setting) c.in-Err.ensures.refused
