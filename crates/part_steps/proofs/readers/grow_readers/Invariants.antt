-- Each node before this one is there.
use Rattle.std.proofs.Common.{◌≡◌, ◌≤◌, ◌-◌, ℕ, length}
use Rattle.std.specs.Prelude.{vec_capacity}
use Rattle.machine_parts.specs.Readers.{readers_of}
use Rattle.part_steps.proofs.readers.grow_readers.Given as goal

abbrev pub invariant-loop-node : goal.invariant-loop-node
invariant-loop-node l = record {
  count : length l.readers.items ≡ l._node;
  low : length l.initial.readers.items ≤ l._node;
  high : l._node - length l.initial.readers.items ≤ l.nodes - length l.initial.readers.items;
  same : (node : ℕ) → readers_of l.readers.items node ≡ readers_of l.initial.readers.items node;
  space : vec_capacity l.readers ≡ vec_capacity l.initial.readers;
}
