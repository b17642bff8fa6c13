-- Each column has X for each node that is new.
use Rattle.session_meaning.proofs.ColumnLemmas.{edit_in_all, edit_keeps_columns}
use Rattle.cosmos_session.proofs.session.Session.edit_columns.Goals as goal

pub returns-clause-quiet : goal.returns-clause-quiet
returns-clause-quiet g c =
    edit_in_all g.M.Columns.columns g.M.Columns.states g.M.Columns.did g.met.M.ColumnStage.moves g.M.Columns.serves c.args.self.now c.edit-done.new.self c.args.edit.now
    c.is_well_formed.ensures c.edit-done.result c.edit-done.ensures.quiet c.edit-done.ensures.stage c.edit-done.ensures.still

pub returns-clause-columns : goal.returns-clause-columns
returns-clause-columns g c =
    edit_keeps_columns g.M.Columns.columns g.M.Columns.states g.M.Columns.did g.met.M.ColumnStage.moves g.M.Columns.serves c.args.self.now c.edit-done.new.self
    c.args.edit.now c.is_well_formed.ensures c.edit-done.result c.edit-done.ensures.stage c.edit-done.ensures.still
