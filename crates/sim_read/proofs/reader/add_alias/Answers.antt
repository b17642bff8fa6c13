use Rattle.netlist.specs.Edits.{alias_fault, with_alias}
use Rattle.sim_read.proofs.reader.add_alias.Goals as goal

pub returns-in-Err-clause-refused : goal.returns-in-Err-clause-refused
returns-in-Err-clause-refused c =
    c.edit_stop.ensures (alias_fault c.args.circuit.now c.args.first.now c.args.second.now)
    (with_alias c.args.circuit.now c.args.first.now c.args.second.now) c.in-Err.ensures.refused
