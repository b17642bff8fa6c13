-- The seats are the same.
use Rattle.part_steps.proofs.dense.DenseParts.make_room.Goals as goal

pub returns-clause-same : goal.returns-clause-same
returns-clause-same c parts of = record { seats = rw c.reserve.ensures.items of.seats; known = of.known }
