-- The fault is the refusal, or lack of memory.
use Rattle.session_meaning.specs.Refusals.{refusal_of}
use Rattle.session_meaning.specs.Truths.{give_of}
use Rattle.symbol_giving.proofs.GivingLemmas.{values_stop}
use Rattle.symbol_giving.proofs.giving.allow_values.Goals as goal

pub returns-in-Err-clause-refused : goal.returns-in-Err-clause-refused
returns-in-Err-clause-refused c =
    rw c.refused_by.ensures
    (values_stop (refusal_of c.args.session.now.core (give_of c.args.kind c.args.values.now)) c.in-Err.fault c.in-Err.ensures.refused)
