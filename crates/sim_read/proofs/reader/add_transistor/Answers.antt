use Rattle.netlist.specs.Edits.{add_fault, with_transistor}
use Rattle.sim_read.proofs.reader.add_transistor.Goals as goal

pub returns-in-Err-clause-refused : goal.returns-in-Err-clause-refused
returns-in-Err-clause-refused c =
    c.edit_stop.ensures (add_fault c.args.circuit.now c.args.strength c.args.gate.now c.args.source.now c.args.drain.now)
    (with_transistor c.args.circuit.now c.args.kind c.args.strength c.args.gate.now c.args.source.now c.args.drain.now)
    c.in-Err.ensures.refused
