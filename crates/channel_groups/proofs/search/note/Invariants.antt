-- The nodes so far are noted.
use Rattle.std.proofs.Common.{◌≡◌, ◌+◌, take, nat_eq}
use Rattle.std.specs.List.{IsDistinct}
use Rattle.channel_groups.specs.Search.{Notes}
use Rattle.channel_groups.proofs.search.note.Given as goal

abbrev pub invariant-loop-node : goal.invariant-loop-node
invariant-loop-node g l = record {
  notes : Notes (take l.node-index l.nodes) l.initial.seen.keys l.seen.keys;
  unique : IsDistinct nat_eq l.initial.seen.keys → IsDistinct nat_eq l.seen.keys;
  steps : l.steps ≡ l.initial.steps + l.node-index;
}
