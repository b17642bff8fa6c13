use Rattle.std.proofs.Common.{◌≡◌, map, take}
use Rattle.fault_sim.specs.Masks.{state_for}
use Rattle.fault_sim.proofs.masks.masked_states.Given as goal

abbrev pub invariant-loop-state : goal.invariant-loop-state
invariant-loop-state l = l.left ≡ map (state_for l.mask.circuit.now l.mask.stuck l.name) (take l.state-index l.state-items)
