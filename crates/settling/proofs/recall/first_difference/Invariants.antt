-- Before this node they don't differ.
use Rattle.std.proofs.Common.{◌≡◌, ℕ, ◌<◌}
use Rattle.switch_paths.specs.Switching.{state_at}
use Rattle.settling.proofs.recall.first_difference.Given as goal

abbrev pub invariant-loop-node : goal.invariant-loop-node
invariant-loop-node l = (node : ℕ) → node < l.node → state_at l.one node ≡ state_at l.other node
