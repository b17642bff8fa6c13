use Rattle.node_looks.proofs.LookLemmas.{node-fits}
use Rattle.node_looks.proofs.room.room_to_look.Goals as goal

pub returns : goal.returns
returns c =
    let longest = c.longest_called-longest in
    λ state. node-fits c.args.circuit.now longest.ensures.netlist longest.result longest.ensures.longest state
