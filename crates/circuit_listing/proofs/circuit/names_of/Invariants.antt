-- The nodes so far have their names.
use Rattle.std.proofs.Common.{◌≡◌, map}
use Rattle.std.specs.List.{range_with_len}
use Rattle.netlist.specs.Circuits.{called}
use Rattle.circuit_listing.proofs.circuit.names_of.Given as goal

abbrev pub invariant-loop-node : goal.invariant-loop-node
invariant-loop-node l = map (λ name. name.items) l.names.items ≡ map (called l.circuit) (range_with_len 0 l.node)
