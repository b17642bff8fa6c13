use Rattle.std.proofs.Common.{refl}
use Rattle.column_machines.proofs.column_machine.edited.Goals as goal

pub returns-in-Ok-clause-edits : goal.returns-in-Ok-clause-edits
returns-in-Ok-clause-edits c = (c.in-Ok.next, refl, c.in-Ok.ensures.edits)
