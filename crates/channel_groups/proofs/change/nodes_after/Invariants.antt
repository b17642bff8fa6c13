-- The new nodes so far stand last.
use Rattle.std.proofs.Common.{◌≡◌, ◌-◌, ◌++◌}
use Rattle.std.specs.List.{range_with_len}
use Rattle.channel_groups.specs.Changes.{ends_after, levelled}
use Rattle.channel_groups.proofs.change.nodes_after.Given as goal

abbrev pub invariant-loop-node : goal.invariant-loop-node
invariant-loop-node l =
    l.found.items ≡ ends_after l.graph l.change.place ++ (levelled l.change.level ++ range_with_len l.change.nodes (l.node - l.change.nodes))
