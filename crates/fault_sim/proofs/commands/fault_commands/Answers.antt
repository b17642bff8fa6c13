use Rattle.fault_sim.proofs.ChangeLemmas.{commands_made}
use Rattle.fault_sim.proofs.commands.fault_commands.Goals as goal

pub returns-clause-formed : goal.returns-clause-formed
returns-clause-formed c =
    commands_made c.args.circuit.now c.args.fault c.commands_by_kind.result c.requires c.commands_by_kind.ensures
