-- A state that is back leaves whole rounds ahead, and another one none.
use Rattle.std.proofs.Common.{◌-◌, ◌/◌, inl, inr, refl}
use Rattle.settling.proofs.recall.Recall.rounds_ahead.Goals as goal

pub whole_rounds-requires : goal.whole_rounds-requires
whole_rounds-requires c = c.in-Some.ensures.back.some

pub returns-in-Some-clause-recalls : goal.returns-in-Some-clause-recalls
returns-in-Some-clause-recalls c = inr (
  record {
    round = c.in-Some.round;
    back = c.in-Some.ensures.back;
    times = (c.args.limit - c.args.count) / c.in-Some.round;
    whole = c.whole_rounds.ensures.whole;
  },
  c.stop.ensures,
)

pub returns-in-None-clause-recalls : goal.returns-in-None-clause-recalls
returns-in-None-clause-recalls c = inl (refl, rw c.round_behind.ensures.same at c.remember_if_due.ensures)
