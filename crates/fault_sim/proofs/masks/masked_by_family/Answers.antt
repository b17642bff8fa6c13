-- What is left is that of the command's family.
use Rattle.std.proofs.Common.{◌≡◌, IfOk, sym, subst}
use Rattle.script_lang.specs.declared.command.Command.{Command}
use Rattle.fault_sim.specs.Masks.{command_left, masked_of}
use Rattle.fault_sim.proofs.masks.masked_by_family.Goals as goal

pub returns-in-Edit : goal.returns-in-Edit
returns-in-Edit c =
    let mask = c.args.mask.now in
    subst (λ (command : Command). command_left command c.masked_edit.result ≡ masked_of mask.circuit.now mask.vectors.now mask.stuck command)
    (sym c.in-Edit.is) c.masked_edit.ensures

pub returns-in-Give : goal.returns-in-Give
returns-in-Give c =
    let mask = c.args.mask.now in
    subst (λ (command : Command). IfOk c.masked_give.result (λ left. command_left command left ≡ masked_of mask.circuit.now mask.vectors.now mask.stuck command))
    (sym c.in-Give.is) c.masked_give.ensures

pub returns-in-Setup : goal.returns-in-Setup
returns-in-Setup c =
    let mask = c.args.mask.now in
    subst (λ (command : Command). IfOk c.masked_setup.result (λ left. command_left command left ≡ masked_of mask.circuit.now mask.vectors.now mask.stuck command))
    (sym c.in-Setup.is) c.masked_setup.ensures
