-- The ids of the groups in the slots so far.
use Rattle.std.proofs.Common.{◌≡◌, map, take}
use Rattle.group_meaning.specs.Groups.{id_of}
use Rattle.channel_groups.specs.Grouping.{held}
use Rattle.channel_groups.proofs.groups.Groups.ids.Given as goal

abbrev pub invariant-loop-node : goal.invariant-loop-node
invariant-loop-node l = map (λ id. id.node) l.ids.items ≡ map id_of (held (take l.node l.self-inside.held.slots.items))
