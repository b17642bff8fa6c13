-- The nodes so far have the same states in both runs.
use Rattle.std.proofs.Common.{◌≡◌, ℕ, take}
use Rattle.std.specs.Prelude.{Contains}
use Rattle.switch_paths.specs.Switching.{state_at}
use Rattle.unit_step.proofs.beside.agree_on.Given as goal

abbrev pub invariant-loop-node : goal.invariant-loop-node
invariant-loop-node l = record {
  same : (node : ℕ) → Contains (take l.node-index l.nodes) node → state_at l.bad node ≡ state_at l.good node;
}
