use Rattle.std.proofs.Common.{◌≡◌, take}
use Rattle.fault_sim.specs.Masks.{masked_sets}
use Rattle.fault_sim.proofs.masks.spares.Given as goal

abbrev pub invariant-loop-name : goal.invariant-loop-name
invariant-loop-name l =
    masked_sets l.mask.circuit.now l.mask.vectors.now l.mask.stuck (take l.name-index l.name-items) ≡ take l.name-index l.name-items
