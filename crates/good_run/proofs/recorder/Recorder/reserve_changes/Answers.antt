-- The changes stay.
use Rattle.std.proofs.Common.{refl}
use Rattle.good_run.proofs.recorder.Recorder.reserve_changes.Goals as goal

pub invariant_of-self : goal.invariant_of-self
invariant_of-self c = rw c.reserve.ensures.items c.self.invariant

pub returns : goal.returns
returns c = rw (← c.self.view_is, c.reserve.ensures.items) (record { start = refl; known = refl; shown = refl; whole = refl })
