-- The letters of the nodes before this one, and room for the others.
use Rattle.std.proofs.Common.{◌≡◌, ◌≤◌, ◌+◌, ◌-◌, map, take, length, vec_len, vec_capacity}
use Rattle.symbol_looking.specs.Letters.{letter_on}
use Rattle.symbol_looking.proofs.letters.letters.Given as goal

abbrev pub invariant-loop-node : goal.invariant-loop-node
invariant-loop-node l = record {
  items : l.letters.items ≡ map (letter_on l.stage) (take l.node-index l.nodes);
  room : vec_len l.letters + (length l.nodes - l.node-index) ≤ vec_capacity l.letters;
}
