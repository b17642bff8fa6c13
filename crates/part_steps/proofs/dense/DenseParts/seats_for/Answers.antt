-- More came behind what was there.
use Rattle.part_steps.proofs.DenseLemmas.{dense_more}
use Rattle.part_steps.proofs.dense.DenseParts.seats_for.Goals as goal

pub returns-in-Ok-clause-same : goal.returns-in-Ok-clause-same
returns-in-Ok-clause-same c others of = dense_more others c.args.self.now c.add_seats.new.self c.add_seats.ensures.more of
