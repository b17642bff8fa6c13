use Rattle.std.proofs.Common.{◌≡◌, ◌≤◌, ◌+◌, ◌-◌, take, length, vec_len, vec_capacity}
use Rattle.fault_sim.specs.Masks.{masked_letters}
use Rattle.fault_sim.proofs.masks.masked_letters.Given as goal

abbrev pub invariant-loop-pair : goal.invariant-loop-pair
invariant-loop-pair l = record {
  items : l.letters.items ≡ masked_letters l.node l.own (take l.pair-index l.pairs);
  room : vec_len l.letters + (length l.pairs - l.pair-index) ≤ vec_capacity l.letters;
}
