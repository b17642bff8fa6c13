-- The touched nodes so far are in the set; then the flood has looked from so many nodes.
use Rattle.vicinity.specs.Spreading.{sum_below, cost_at}
use Rattle.std.proofs.Common.{◌≡◌, ◌≤◌, ◌-◌, length, take, ◌+◌}
use Rattle.std.specs.Prelude.{Contains, slice_index}
use Rattle.switch_paths.specs.Graphs.{nodes}
use Rattle.vicinity.specs.Flooding.{Wakes, IsFlooding}
use Rattle.vicinity.proofs.flood.flood.Given as goal

abbrev pub invariant-loop-node : goal.invariant-loop-node
invariant-loop-node g l = record {
  wakes : Wakes l.graph (Contains (take l.node-index l.touched)) l.fn.awake l.awake;
  steps : l.steps ≡ l.fn.steps;
}

abbrev pub invariant-loop-count : goal.invariant-loop-count
invariant-loop-count g l = record {
  flooding : IsFlooding l.graph l.state l.touched l.count l.awake;
  count : length l.awake.inside ≡ nodes l.graph;
  steps : l.steps ≡ l.fn.steps + sum_below (λ j. cost_at l.lists (slice_index l.awake.list j)) l.count;
  within : l.count ≤ length l.awake.list;
}

abbrev pub decreases-loop-count : goal.decreases-loop-count
decreases-loop-count g l = nodes l.graph - l.count
