-- The set stays one.
use Rattle.std.proofs.Common.{◌≡◌, length}
use Rattle.std.specs.Prelude.{vec_len, vec_capacity}
use Rattle.machine_parts.specs.Marking.{ListsMarked}
use Rattle.vicinity.proofs.node_set.NodeSet.clear.Given as goal

abbrev pub invariant-loop-node : goal.invariant-loop-node
invariant-loop-node l = record {
  set : ListsMarked l.self-inside.marks.items l.self-inside.list.items (vec_capacity l.self-inside.list);
  count : length l.self-inside.marks.items ≡ length l.fn.self.inside;
}

abbrev pub decreases-loop-node : goal.decreases-loop-node
decreases-loop-node l = vec_len l.self-inside.list
