-- The parts so far have their seats.
use Rattle.std.proofs.Common.{◌≡◌, ◌≤◌, length, take, vec_len}
use Rattle.std.specs.Prelude.{vec_capacity}
use Rattle.part_steps.specs.Dense.{AreSeatsOf, Grows}
use Rattle.part_steps.proofs.dense.DenseParts.add_seats.Given as goal

abbrev pub invariant-loop-k : goal.invariant-loop-k
invariant-loop-k l = record {
  more : Grows l.fn.self l.self;
  count : vec_len l.seats ≡ l.k;
  room : length l.parts ≤ vec_capacity l.seats;
  seats : AreSeatsOf (take l.k l.parts) l.self.codes.items l.self.nodes.items l.seats.items;
}
