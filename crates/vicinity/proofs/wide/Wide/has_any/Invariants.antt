-- None of the nodes so far is a member.
use Rattle.std.proofs.Common.{ℕ, take}
use Rattle.std.specs.Prelude.{Contains}
use Rattle.switch_paths.specs.Graphs.{IsStorage}
use Rattle.vicinity.proofs.wide.Wide.has_any.Given as goal

abbrev pub invariant-loop-node : goal.invariant-loop-node
invariant-loop-node l = (node : ℕ) → Contains (take l.node-index l.nodes) node → ¬ IsStorage l.self.graph node
