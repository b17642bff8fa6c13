use Rattle.std.proofs.Common.{◌≡◌, ◌≤◌, ◌+◌, ◌-◌, map, take, length, vec_len, vec_capacity}
use Rattle.switch_paths.specs.Switching.{state_at}
use Rattle.cosmos_session.proofs.telling.present.Given as goal

abbrev pub invariant-loop-node : goal.invariant-loop-node
invariant-loop-node l = record {
  items : l.states.items ≡ map (λ pair. state_at l.state pair.0) (take l.node-index l.pairs);
  room : vec_len l.states + (length l.pairs - l.node-index) ≤ vec_capacity l.states;
}
