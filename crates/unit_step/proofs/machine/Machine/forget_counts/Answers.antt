-- Nothing else changes.
use Rattle.std.proofs.Common.{refl}
use Rattle.unit_step.proofs.machine.Machine.forget_counts.Goals as goal

pub invariant_of-self : goal.invariant_of-self
invariant_of-self c = c.self.invariant

pub returns : goal.returns
returns c = rw (← c.self.view_is) refl
