-- The look doesn't fail.
use Rattle.unit_step.proofs.watching.show.Goals as goal

pub returns-clause-seen : goal.returns-clause-seen
returns-clause-seen g c = (rw c.unfailing.ensures at c.see.ensures.seen)

pub see-requires : goal.see-requires
see-requires g c = c.requires

pub returns-clause-knows : goal.returns-clause-knows
returns-clause-knows g c = (rw c.unfailing.ensures at c.see.ensures.knows)
