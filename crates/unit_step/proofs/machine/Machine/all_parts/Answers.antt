-- The parts are seated and share no members, and each has a mark.
use Rattle.std.proofs.Common.{ap, ◌∙◌}
use Rattle.part_steps.specs.Workspaces.{rooms}
use Rattle.machine_laws.specs.Machines.{MachineData}
use Rattle.unit_step.proofs.machine.Machine.all_parts.Goals as goal

pub returns-clause-value : goal.returns-clause-value
returns-clause-value c = c.deref.ensures.value ∙ ap (λ (m : MachineData). m.parts) c.self.view_is

pub returns-clause-counted : goal.returns-clause-counted
returns-clause-counted c = rw (← c.self.view_is) c.self.invariant.0.runs.counted

pub returns-clause-seated : goal.returns-clause-seated
returns-clause-seated c = rw (← c.self.view_is) (rooms c.self.inside.body.workspace, c.self.invariant.0.runs.seated)

pub returns-clause-apart : goal.returns-clause-apart
returns-clause-apart c = rw (← c.self.view_is) c.self.invariant.0.runs.apart
