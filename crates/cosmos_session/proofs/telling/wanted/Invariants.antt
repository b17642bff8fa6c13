use Rattle.std.proofs.Common.{◌≡◌, ◌≤◌, ◌+◌, ◌-◌, map, take, length, vec_len, vec_capacity}
use Rattle.cosmos_session.proofs.telling.wanted.Given as goal

abbrev pub invariant-loop-letter : goal.invariant-loop-letter
invariant-loop-letter l = record {
  items : l.letters.items ≡ map (λ pair. pair.1) (take l.letter-index l.pairs);
  room : vec_len l.letters + (length l.pairs - l.letter-index) ≤ vec_capacity l.letters;
}
