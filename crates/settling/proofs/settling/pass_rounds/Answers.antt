-- The look is at the stepper's own state.
use Rattle.settling.proofs.settling.pass_rounds.Goals as goal

pub returns-clause-recalls : goal.returns-clause-recalls
returns-clause-recalls g c = rw c.states.ensures at c.rounds_ahead-ahead.ensures.recalls
