-- The parts so far have their seats, and the codes of the numbers so far their places.
use Rattle.std.proofs.Common.{◌≡◌, ◌≤◌, length, take, vec_len}
use Rattle.std.specs.Prelude.{vec_capacity}
use Rattle.part_steps.specs.Dense.{HaveCodes, ArePlaces, AreSeatsOf}
use Rattle.part_steps.specs.Known.{Knows}
use Rattle.unit_step.proofs.body.dense_of.Given as goal

abbrev pub invariant-loop-k : goal.invariant-loop-k
invariant-loop-k l = record {
  count : vec_len l.dense.seats ≡ l.k;
  room : length l.parts ≤ vec_capacity l.dense.seats;
  places_counted : length l.places.items ≡ length l.uses.known;
  places : (codes : HaveCodes l.uses.numbers l.parts) → ArePlaces codes.codes l.dense.codes.items l.places.items;
  known : Knows l.dense.codes.items l.dense.known.codes.items;
  seats : AreSeatsOf (take l.k l.parts) l.dense.codes.items l.dense.nodes.items l.dense.seats.items;
}
