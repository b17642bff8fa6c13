-- The numbers so far are listed.
use Rattle.std.proofs.Common.{◌≡◌, map}
use Rattle.std.specs.Prelude.{vec_len, vec_capacity}
use Rattle.std.specs.List.{range_with_len}
use Rattle.part_steps.proofs.agenda.numbers_below.Given as goal

abbrev pub invariant-loop-k : goal.invariant-loop-k
invariant-loop-k l = record {
  items : l.list.items ≡ map (λ k. k) (range_with_len 0 l.k);
  len : vec_len l.list ≡ l.k;
  room : vec_capacity l.list ≡ l.count;
}
