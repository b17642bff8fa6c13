-- Each column has X for each node that is new.
use Rattle.session_meaning.proofs.ColumnLemmas.{edit_in_all, edit_keeps_columns}
use Rattle.session_meaning.proofs.TruthLemmas.{edit_keeps_given}
use Rattle.cosmos_session.proofs.session.Session.edit_in_all.Goals as goal

pub returns-clause-quiet : goal.returns-clause-quiet
returns-clause-quiet g c =
    edit_in_all g.M.Columns.columns g.M.Columns.states g.M.Columns.did g.met.M.TruthStage.moves g.M.Columns.serves c.args.self.now
    c.edit-done.new.self
    c.args.edit.now c.is_well_formed.ensures c.edit-done.result c.edit-done.ensures.quiet c.edit-done.ensures.stage c.edit-done.ensures.still

pub returns-clause-columns : goal.returns-clause-columns
returns-clause-columns g c =
    edit_keeps_columns g.M.Columns.columns g.M.Columns.states g.M.Columns.did g.met.M.TruthStage.moves g.M.Columns.serves c.args.self.now
    c.edit-done.new.self c.args.edit.now c.is_well_formed.ensures c.edit-done.result c.edit-done.ensures.stage c.edit-done.ensures.still

pub returns-clause-kept : goal.returns-clause-kept
returns-clause-kept g c =
    edit_keeps_given g.M.Columns.columns g.M.Columns.states g.M.Columns.did g.met.M.TruthStage.moves g.M.TruthStage.gives g.M.TruthStage.letter_of
    g.M.TruthStage.bound g.met.M.TruthStage.keeps c.args.self.now.stage c.edit-done.new.self.stage c.edit-done.result c.edit-done.ensures.stage c.edit-done.ensures.still
