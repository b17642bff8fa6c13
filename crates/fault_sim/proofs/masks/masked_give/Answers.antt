use Rattle.std.proofs.Common.{◌≡◌, IfOk, option_map, sym, subst}
use Rattle.script_lang.specs.declared.command.Command.TheVariants as family
use Rattle.script_lang.specs.declared.command.Give.{Give}
use Rattle.fault_sim.specs.Masks.{command_left, masked_give}
use Rattle.fault_sim.proofs.masks.masked_give.Goals as goal

pub returns-in-Set : goal.returns-in-Set
returns-in-Set c =
    let mask = c.args.mask.now in
    subst (λ (give : Give). IfOk c.masked_set.result (λ left. command_left (family.Give give) left
    ≡ option_map family.Give (masked_give mask.circuit.now mask.vectors.now mask.stuck give))) (sym c.in-Set.is) c.masked_set.ensures
