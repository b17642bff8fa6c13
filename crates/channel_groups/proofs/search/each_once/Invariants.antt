-- The nodes so far are in the set.
use Rattle.std.proofs.Common.{[], take, nat_eq}
use Rattle.std.specs.List.{IsDistinct}
use Rattle.channel_groups.specs.Search.{Notes}
use Rattle.channel_groups.proofs.search.each_once.Given as goal

abbrev pub invariant-loop-node : goal.invariant-loop-node
invariant-loop-node l = record {
  notes : Notes (take l.node-index l.nodes) [] l.set.keys;
  unique : IsDistinct nat_eq l.set.keys;
}
