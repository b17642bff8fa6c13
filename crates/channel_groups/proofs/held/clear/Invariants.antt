-- The nodes so far are cleared.
use Rattle.std.proofs.Common.{◌≡◌, ℕ, ◌+◌, length, take}
use Rattle.group_meaning.specs.Groups.{Group}
use Rattle.channel_groups.specs.Grouping.{class_at, slot_at}
use Rattle.channel_groups.specs.Writing.{Clears}
use Rattle.channel_groups.proofs.held.clear.Given as goal

abbrev pub invariant-loop-node : goal.invariant-loop-node
invariant-loop-node g l = record {
  classes : Clears ℕ (take l.node-index l.nodes) (class_at l.initial.held.classes.items) (class_at l.held.classes.items);
  slots : Clears Group (take l.node-index l.nodes) (slot_at l.initial.held.slots.items) (slot_at l.held.slots.items);
  classes_count : length l.held.classes.items ≡ length l.initial.held.classes.items;
  slots_count : length l.held.slots.items ≡ length l.initial.held.slots.items;
  steps : l.steps ≡ l.initial.steps + l.node-index;
}
