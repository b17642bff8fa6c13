-- The part is listed at the nodes so far, last.
use Rattle.std.proofs.Common.{take}
use Rattle.machine_parts.specs.Readers.{ListsLast}
use Rattle.part_steps.proofs.readers.list_at.Given as goal

abbrev pub invariant-loop-node : goal.invariant-loop-node
invariant-loop-node l = ListsLast l.k (take l.node-index l.nodes) l.fn.lists l.lists
