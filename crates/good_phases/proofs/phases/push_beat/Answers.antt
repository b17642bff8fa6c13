-- The phase stands behind the others, or there was no memory for it.
use Rattle.std.proofs.Common.{inl, inr}
use Rattle.good_phases.proofs.phases.push_beat.Goals as goal

pub returns-in-Ok : goal.returns-in-Ok
returns-in-Ok c = inr (rw c.in-Ok.is at c.push.ensures.items)

pub returns-in-Err : goal.returns-in-Err
returns-in-Err c = inl (rw c.in-Err.is at c.push.ensures.items)
