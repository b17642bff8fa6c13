-- The part is marked, or none is.
use Rattle.column_machines.proofs.TakingLemmas.{MarksAll-if, MarksAll-unless}
use Rattle.column_machines.proofs.advance.mark_if.Goals as goal

pub returns-then-stays : goal.returns-then-stays
returns-then-stays c = rw c.mark.ensures (MarksAll-if c.args.stays c.args.k c.args.agenda.now c.if-stays.true c.requires)

pub returns : goal.returns
returns c = MarksAll-unless c.args.stays c.args.k c.args.agenda.now c.if-stays.false
