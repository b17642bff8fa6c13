-- What is kept goes on with the stage.
use Rattle.symbol_session.proofs.StartLemmas.{first_later}
use Rattle.symbol_session.proofs.starting.pieces.Goals as goal

pub returns-in-Ok-stage_at_start-clause-kept : goal.returns-in-Ok-stage_at_start-clause-kept
returns-in-Ok-stage_at_start-clause-kept c =
    first_later c.args.symbols c.in-Ok-stage_at_start.stage.machine.maker c.in-Ok.kept.items c.in-Ok-stage_at_start.ensures.stage.keeps c.in-Ok.ensures
