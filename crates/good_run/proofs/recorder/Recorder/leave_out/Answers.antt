-- All nodes are known, and nothing is whole any more.
use Rattle.good_run.proofs.RecordLemmas.{not_whole}
use Rattle.good_run.proofs.recorder.Recorder.leave_out.Goals as goal

pub invariant_of-self : goal.invariant_of-self
invariant_of-self c = not_whole c.self.inside.start.items c.self.inside.known.items _ c.self.inside.changes.items c.self.inside.looks.items c.self.inside.whole c.self.invariant
