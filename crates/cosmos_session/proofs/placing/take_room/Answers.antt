-- What holds in each column holds in the first.
use Rattle.column_stage.proofs.SoundLemmas.{first_of_some}
use Rattle.cosmos_session.proofs.placing.take_room.Goals as goal

pub returns-clause-state : goal.returns-clause-state
returns-clause-state g c = c.reserve.ensures.states 0 (first_of_some (g.M.Columns.columns c.args.stage.now) c.requires)
