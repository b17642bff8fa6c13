-- What gives letters isn't refused.
use Rattle.node_values.specs.Givings.{letters_given}
use Rattle.session_meaning.proofs.ItemLemmas.{letters_allowed}
use Rattle.symbol_expecting.proofs.allowing.allow_value.Goals as goal

pub returns-in-Ok-clause-allowed : goal.returns-in-Ok-clause-allowed
returns-in-Ok-clause-allowed c =
    letters_allowed (letters_given c.args.circuit.now c.args.vectors.now (c.args.name.now, c.args.value.now)) c.in-Ok._pairs.items c.in-Ok.ensures.ok
