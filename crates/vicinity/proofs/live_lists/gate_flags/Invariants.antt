-- The flags so far tell of gates.
use Rattle.std.proofs.Common.{◌≡◌, length}
use Rattle.vicinity.specs.Lists.{TellGates}
use Rattle.vicinity.proofs.live_lists.gate_flags.Given as goal

abbrev pub invariant-loop-node : goal.invariant-loop-node
invariant-loop-node l = record {
  count : length l.flags.items ≡ l.node;
  tell : TellGates l.flags.items l.gates;
}
