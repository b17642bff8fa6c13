-- What holds in each column holds in the first; and the edit is one act.
use Rattle.column_stage.proofs.LeadingLemmas.{leads_by_one}
use Rattle.column_stage.proofs.SoundLemmas.{first_of_some}
use Rattle.session_meaning.specs.Stages.{IsEditing}
use Rattle.cosmos_session.proofs.placing.edit_stage.Goals as goal

pub returns-clause-state : goal.returns-clause-state
returns-clause-state g c = c.edit.ensures.states 0 (first_of_some (g.M.Columns.columns c.args.stage.now) c.requires.some)

pub returns-clause-did : goal.returns-clause-did
returns-clause-did g c = leads_by_one g.M.Columns.did IsEditing _ c.args.stage.now c.edit.new.self tt c.edit.ensures.did
