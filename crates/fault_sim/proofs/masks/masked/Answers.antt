-- What is left is what the definition says; without a stuck node it is the command itself.
use Rattle.fault_sim.proofs.MaskLemmas.{left-formed, left_same}
use Rattle.fault_sim.proofs.masks.masked.Goals as goal

pub returns-in-None-clause-value : goal.returns-in-None-clause-value
returns-in-None-clause-value c = left_same c.args.circuit.now c.args.vectors.now c.args.stuck c.args.command.now c.in-None.is c.requires

pub returns-in-None-clause-formed : goal.returns-in-None-clause-formed
returns-in-None-clause-formed c = c.requires

pub returns-in-Some-clause-formed : goal.returns-in-Some-clause-formed
returns-in-Some-clause-formed c =
    left-formed c.args.circuit.now c.args.vectors.now c.args.stuck c.args.command.now c.masked_by_family.result c.masked_by_family.ensures c.requires
