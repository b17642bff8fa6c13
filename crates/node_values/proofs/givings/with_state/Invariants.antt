use Rattle.std.proofs.Common.{◌≡◌, ℕ, ◌+◌, ◌-◌, ◌≤◌, ◌++◌, map, drop}
use Rattle.std.specs.Prelude.{length, Some, vec_capacity, vec_len}
use Rattle.vector_values.specs.Values.{Letter}
use Rattle.node_values.proofs.givings.with_state.Given as goal

abbrev pub invariant-loop-node : goal.invariant-loop-node
invariant-loop-node l = record {
  done : l.pairs.items ++ map (λ (node : ℕ). (node, Some l.state)) (drop l.node-index l.nodes) ≡ map (λ (node : ℕ). (node, Some l.state)) l.nodes;
  room : vec_len l.pairs + (length l.nodes - l.node-index) ≤ vec_capacity l.pairs;
}
