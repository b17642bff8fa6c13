use Rattle.column_machines.proofs.TakingLemmas.{MarksAll-no, MarksAll-one}
use Rattle.column_machines.proofs.machine.mark_owner.Goals as goal

pub mark-requires : goal.mark-requires
mark-requires c = c.requires c.in-Some.k c.in-Some.is

pub returns-in-Some : goal.returns-in-Some
returns-in-Some c = rw c.mark.ensures (MarksAll-one c.args.owner c.in-Some.k c.args.agenda.now c.in-Some.is (c.requires c.in-Some.k c.in-Some.is))

pub returns-in-None : goal.returns-in-None
returns-in-None c = MarksAll-no c.args.owner c.args.agenda.now c.in-None.is
