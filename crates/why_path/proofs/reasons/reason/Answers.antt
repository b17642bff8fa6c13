-- The numbers below the count of nodes are all nodes.
use Rattle.why_path.proofs.reasons.reason.Goals as goal

pub reason_from-requires-clause-roots : goal.reason_from-requires-clause-roots
reason_from-requires-clause-roots c = rw c.deref.ensures.value (rw c.nodes.ensures at c.in_ok-roots.ensures)
