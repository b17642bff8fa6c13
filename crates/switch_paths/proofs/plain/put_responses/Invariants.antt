-- The nodes so far have their states.
use Rattle.std.proofs.Common.{◌≡◌, ◌↔◌, ℕ, ◌<◌, true, slice_index}
use Rattle.ternary.specs.Tern.{may_one, may_zero}
use Rattle.switch_paths.specs.Switching.{state_at}
use Rattle.switch_paths.proofs.plain.put_responses.Given as goal

abbrev pub invariant-loop-node : goal.invariant-loop-node
invariant-loop-node l = record {
  one : (n : ℕ) → n < l.node → (may_one (state_at l.out n) ≡ true) ↔ (0 < slice_index l.one n);
  zero : (n : ℕ) → n < l.node → (may_zero (state_at l.out n) ≡ true) ↔ (0 < slice_index l.zero n);
}
