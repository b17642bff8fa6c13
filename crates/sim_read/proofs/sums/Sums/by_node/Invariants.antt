use Rattle.std.proofs.Common.{◌≡◌, length}
use Rattle.switch_paths.specs.Graphs.{nodes}
use Rattle.sim_read.proofs.SumLemmas.{AreSums}
use Rattle.sim_read.proofs.sums.Sums.by_node.Given as goal

-- the names so far bring each node its sum
abbrev pub invariant-loop-place : goal.invariant-loop-place
invariant-loop-place l = (length l.found.items ≡ nodes l.circuit.graph) × AreSums l.circuit.names l.self l.place l.found.items
