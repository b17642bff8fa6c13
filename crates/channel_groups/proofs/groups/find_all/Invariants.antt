-- The nodes so far were tried.
use Rattle.std.proofs.Common.{ℕ, ◌<◌, Contains}
use Rattle.switch_paths.specs.Graphs.{IsStorage}
use Rattle.channel_groups.specs.Search.{AreFound}
use Rattle.channel_groups.proofs.groups.find_all.Given as goal

abbrev pub invariant-loop-node : goal.invariant-loop-node
invariant-loop-node g l = record {
  found : AreFound l.graph l.found.seen.keys l.found.fresh.items;
  rooted : (n : ℕ) → n < l.node → IsStorage l.graph n → Contains l.found.seen.keys n;
}
