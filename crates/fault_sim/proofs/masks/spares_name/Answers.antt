use Rattle.std.proofs.lemmas.Bool.{OnTrue_at}
use Rattle.fault_sim.proofs.MaskLemmas.{spared_node, spared_nothing}
use Rattle.fault_sim.proofs.masks.spares_name.Goals as goal

pub returns-then-is_called : goal.returns-then-is_called
returns-then-is_called c =
    let mask = c.args.mask.now in
    spared_node mask.circuit.now mask.vectors.now mask.stuck c.args.name.now c.args.guess c.is_other.result (OnTrue_at c.if-is_called.true c.is_called.ensures)
    c.is_other.ensures

pub returns-in-Node : goal.returns-in-Node
returns-in-Node c =
    let mask = c.args.mask.now in
    spared_node mask.circuit.now mask.vectors.now mask.stuck c.args.name.now c.in-Node.node c.is_other-in-Node.result c.in-Node.ensures c.is_other-in-Node.ensures

pub returns-in-Nothing : goal.returns-in-Nothing
returns-in-Nothing c =
    let mask = c.args.mask.now in
    spared_nothing mask.circuit.now mask.vectors.now mask.stuck c.args.name.now c.in-Nothing.ensures.0 c.in-Nothing.ensures.1
