-- The states so far.
use Rattle.std.proofs.Common.{◌≡◌, map, take}
use Rattle.switch_paths.specs.Switching.{state_at}
use Rattle.why_path.proofs.near.states_at.Given as goal

abbrev pub invariant-loop-node : goal.invariant-loop-node
invariant-loop-node l = l.states.items ≡ map (state_at l.state) (take l.node-index l.nodes)
