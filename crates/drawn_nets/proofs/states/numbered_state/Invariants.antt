-- A state for each node so far.
use Rattle.std.proofs.Common.{◌≡◌, length}
use Rattle.drawn_nets.proofs.states.numbered_state.Given as goal

abbrev pub invariant-loop-constant : goal.invariant-loop-constant
invariant-loop-constant l = length l.state.items ≡ l.constant-index
