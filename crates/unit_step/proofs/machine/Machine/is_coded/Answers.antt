-- The parts tell it.
use Rattle.std.proofs.Common.{◌<◌, length, sym, subst}
use Rattle.machine_laws.specs.Machines.{MachineData}
use Rattle.unit_step.proofs.machine.Machine.is_coded.Goals as goal

pub is_coded_in-requires : goal.is_coded_in-requires
is_coded_in-requires c =
    rw c.deref.ensures.value (subst (λ (m : MachineData). c.args.k < length m.parts) (sym c.self.view_is) c.requires)

pub returns : goal.returns
returns c = rw (← c.self.view_is) (rw c.deref.ensures.value at c.is_coded_in.ensures)
