-- The nodes so far are joined, and the rest are as they were.
use Rattle.std.proofs.Common.{◌≡◌, ℕ, ◌<◌, ◌≤◌}
use Rattle.ternary.specs.Tern.{join}
use Rattle.switch_paths.specs.Switching.{state_at}
use Rattle.settling.proofs.plain_stepping.join_with.Given as goal

abbrev pub invariant-loop-node : goal.invariant-loop-node
invariant-loop-node l = record {
  joined : (n : ℕ) → n < l.node → state_at l.next n ≡ join (state_at l.state n) (state_at l.initial.next n);
  rest : (n : ℕ) → l.node ≤ n → state_at l.next n ≡ state_at l.initial.next n;
}
