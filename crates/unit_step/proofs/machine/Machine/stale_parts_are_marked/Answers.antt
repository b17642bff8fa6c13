-- What the machine is held to says both.
use Rattle.std.proofs.Common.{ap, subst}
use Rattle.machine_laws.specs.Machines.{MachineData}
use Rattle.machine_parts.specs.Parts.{AreApart}
use Rattle.unit_step.proofs.machine.Machine.stale_parts_are_marked.Goals as goal

pub returns-clause-apart : goal.returns-clause-apart
returns-clause-apart c = subst AreApart (ap (λ (m : MachineData). m.parts) c.self.view_is) c.self.invariant.0.runs.apart
