use Rattle.column_machines.proofs.edits.joined.Goals as goal

pub invariant_of-result : goal.invariant_of-result
invariant_of-result c = (c.requires.is, c.requires.even)
