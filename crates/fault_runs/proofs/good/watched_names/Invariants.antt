use Rattle.std.proofs.Common.{◌≡◌, map, take}
use Rattle.netlist.specs.Circuits.{called}
use Rattle.fault_runs.proofs.good.watched_names.Given as goal

abbrev pub invariant-loop-node : goal.invariant-loop-node
invariant-loop-node g l = l.names ≡ map (called l.circuit) (take l.node-index l.node-items)
