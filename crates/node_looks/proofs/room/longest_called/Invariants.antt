use Rattle.std.proofs.Common.{ℕ, ◌<◌, ◌≤◌, length}
use Rattle.netlist.specs.Circuits.{called}
use Rattle.node_looks.proofs.room.longest_called.Given as goal

-- each name so far is at most as long
abbrev pub invariant-loop-node : goal.invariant-loop-node
invariant-loop-node l = (node : ℕ) → node < l.node → length (called l.circuit node) ≤ l.most
