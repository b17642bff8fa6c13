-- Each node before this one is there.
use Rattle.std.proofs.Common.{◌≡◌, ◌≤◌, ◌-◌, ◌++◌, length, replicate}
use Rattle.std.specs.Prelude.{vec_capacity}
use Rattle.unit_step.proofs.growing.grow_by.Given as goal

abbrev pub invariant-loop-node : goal.invariant-loop-node
invariant-loop-node g l = record {
  items : l.all.items ≡ l.initial.all.items ++ replicate (l._node - length l.initial.all.items) l.item;
  low : length l.initial.all.items ≤ l._node;
  high : l._node - length l.initial.all.items ≤ l.nodes - length l.initial.all.items;
  space : vec_capacity l.all ≡ vec_capacity l.initial.all;
}
