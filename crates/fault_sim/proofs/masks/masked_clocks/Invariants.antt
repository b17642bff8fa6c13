use Rattle.std.proofs.Common.{◌≡◌, map, take}
use Rattle.fault_sim.specs.Masks.{state_for}
use Rattle.fault_sim.proofs.masks.masked_clocks.Given as goal

abbrev pub invariant-loop-name : goal.invariant-loop-name
invariant-loop-name l = l.left ≡ map (λ item. (item.0, map (state_for l.mask.circuit.now l.mask.stuck item.0) item.1)) (take l.name-index l.name-items)
