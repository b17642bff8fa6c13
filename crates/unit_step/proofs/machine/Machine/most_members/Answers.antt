use Rattle.unit_step.proofs.machine.Machine.most_members.Goals as goal

pub returns : goal.returns
returns c = rw (← c.self.view_is) c.self.invariant.0.most_members
