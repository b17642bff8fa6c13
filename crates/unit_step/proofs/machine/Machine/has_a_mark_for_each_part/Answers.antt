-- What the machine is held to says it.
use Rattle.std.proofs.Common.{◌≡◌, length, subst}
use Rattle.machine_laws.specs.Machines.{MachineData}
use Rattle.unit_step.proofs.machine.Machine.has_a_mark_for_each_part.Goals as goal

pub returns : goal.returns
returns c = subst (λ (m : MachineData). length m.marks ≡ length m.parts) c.self.view_is c.self.invariant.0.runs.counted
