-- The places so far are listed.
use Rattle.vicinity.specs.LiveLists.{AreListedBelow}
use Rattle.vicinity.proofs.live_lists.list_all.Given as goal

abbrev pub invariant-loop-place : goal.invariant-loop-place
invariant-loop-place l = AreListedBelow l.graph l.state l.place l.ends l.gates
