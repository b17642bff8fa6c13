-- No group stands between `from` and the node.
use Rattle.std.proofs.Common.{◌≡◌, ℕ, ◌≤◌, ◌<◌, None}
use Rattle.channel_groups.specs.Grouping.{slot_at}
use Rattle.channel_groups.proofs.groups.Groups.next_id.Given as goal

abbrev pub invariant-loop-node : goal.invariant-loop-node
invariant-loop-node l = (j : ℕ) → l.from ≤ j → j < l.node → slot_at l.self-inside.held.slots.items j ≡ None
