-- The ids of the nodes so far.
use Rattle.std.proofs.Common.{◌≡◌, map, take, All}
use Rattle.channel_groups.specs.Grouping.{IsId}
use Rattle.unit_step.proofs.waking.ids_at.Given as goal

abbrev pub invariant-loop-node : goal.invariant-loop-node
invariant-loop-node l = record {
  ids : map (λ id. id.node) l.ids.items ≡ take l.node-index l.nodes;
  all : All (λ id. IsId l.groups.groups id.node) l.ids.items;
}
