-- The lists so far stand behind the others.
use Rattle.std.proofs.Common.{◌≡◌, ◌≤◌, ◌++◌}
use Rattle.std.specs.Prelude.{replicate}
use Rattle.vicinity.specs.Growing.{no_places}
use Rattle.vicinity.proofs.live_list.add_empty.Given as goal

abbrev pub invariant-loop-node : goal.invariant-loop-node
invariant-loop-node l = record {
  within : l._node ≤ l.more;
  lists : l.lists.items ≡ l.fn.lists.items ++ replicate l._node no_places;
}
