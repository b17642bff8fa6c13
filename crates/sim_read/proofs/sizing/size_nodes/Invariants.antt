use Rattle.sim_read.proofs.SizingLemmas.{IsSizedUpTo}
use Rattle.sim_read.proofs.sizing.size_nodes.Given as goal

-- the nodes so far have their levels after the sizing
abbrev pub invariant-loop-node : goal.invariant-loop-node
invariant-loop-node l =
    IsSizedUpTo
    (record { circuit = l.initial.circuit; thresholds = l.thresholds; sums = l.sums; marks = l.marks })
    l.node l.circuit
