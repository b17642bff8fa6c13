-- Each of the phases is one of the record.
use Rattle.good_phases.proofs.GoodLemmas.{beat_of}
use Rattle.good_phases.proofs.phases.GoodPhases.beat.Goals as goal

pub returns : goal.returns
returns c =
    let i = c.self.inside in
    rw (← c.self.view_is) (beat_of i.graph i.run i.beats.items c.self.invariant c.beat_at.result (rw c.deref.ensures.value at c.beat_at.ensures))
