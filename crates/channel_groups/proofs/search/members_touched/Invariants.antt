-- The members of the groups of the nodes so far, each once.
use Rattle.std.proofs.Common.{◌+◌, ◌≤◌, take, nat_eq}
use Rattle.std.specs.List.{IsDistinct, sum_by}
use Rattle.channel_groups.specs.Grouping.{group_at_node}
use Rattle.channel_groups.specs.Writing.{AreTouched, members_in}
use Rattle.channel_groups.proofs.search.members_touched.Given as goal

abbrev pub invariant-loop-node : goal.invariant-loop-node
invariant-loop-node g l = record {
  touched : AreTouched l.held.classes.items l.held.slots.items (take l.node-index l.before) l.gone.keys;
  unique : IsDistinct nat_eq l.gone.keys;
  steps : l.steps ≤ l.initial.steps
      + sum_by (λ node. members_in (group_at_node l.held.classes.items l.held.slots.items node)) (take l.node-index l.before);
}
