use Rattle.cosmos_session.proofs.refusals.lengths_refusal.Goals as goal

pub returns-in-Some : goal.returns-in-Some
returns-in-Some c = rw (c.in-Some.ensures.cases.0, ← c.items.ensures) c.other_length_refusal.ensures
