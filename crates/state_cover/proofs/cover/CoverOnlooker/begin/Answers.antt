-- The look doesn't fail.
use Rattle.state_cover.proofs.cover.CoverOnlooker.begin.Goals as goal

pub returns-clause-seen : goal.returns-clause-seen
returns-clause-seen g c = (rw c.unfailing.ensures at c.see.ensures.seen)

pub returns-clause-knows : goal.returns-clause-knows
returns-clause-knows g c = (rw c.unfailing.ensures at c.see.ensures.knows)
