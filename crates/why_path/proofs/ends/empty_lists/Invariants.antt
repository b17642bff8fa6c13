-- There are as many lists as nodes so far.
use Rattle.std.proofs.Common.{◌≡◌, length}
use Rattle.why_path.proofs.ends.empty_lists.Given as goal

abbrev pub invariant-loop-node : goal.invariant-loop-node
invariant-loop-node l = length l.lists.items ≡ l._node
