-- Those up to this node stand there.
use Rattle.std.proofs.Common.{◌≡◌, ◌-◌, ◌≤◌, ◌++◌, length, replicate, vec_capacity}
use Rattle.symbol_stage.proofs.growing.grown.Given as goal

abbrev pub invariant-loop-node : goal.invariant-loop-node
invariant-loop-node l = record {
  items : l.rails.items ≡ l.initial.rails.items ++ replicate (l._node - length l.initial.rails.items) l.always;
  room : l.nodes ≤ vec_capacity l.rails;
  from : length l.initial.rails.items ≤ l._node;
  to : l._node - length l.initial.rails.items ≤ l.nodes - length l.initial.rails.items;
}
