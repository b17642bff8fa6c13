use Rattle.std.proofs.lemmas.Bool.{OnTrue_at}
use Rattle.column_machines.proofs.edits.go_on.Goals as goal

pub returns-in-Ok-clause-fit : goal.returns-in-Ok-clause-fit
returns-in-Ok-clause-fit c = OnTrue_at c.if-not-can_go_on.false c.can_go_on.ensures
