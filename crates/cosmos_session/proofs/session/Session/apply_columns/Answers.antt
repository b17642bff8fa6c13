-- With the stage and without; a fault names a node in the first column's circuit, which all share.
use Rattle.column_stage.proofs.SoundLemmas.{first_of_some}
use Rattle.session_meaning.specs.Columns.{column_of}
use Rattle.session_meaning.proofs.InAllLemmas.{in_all_alone, names_node_in_all}
use Rattle.cosmos_session.proofs.session.Session.apply_columns.Goals as goal

pub obey_columns-outcome-requires-clause-session : goal.obey_columns-outcome-requires-clause-session
obey_columns-outcome-requires-clause-session g c = c.is_well_formed.ensures

pub returns-clause-obeys : goal.returns-clause-obeys
returns-clause-obeys g c =
    in_all_alone g.M.Columns.cuts g.L.Lines.hear g.L.Lines.part g.M.Columns.columns g.M.Columns.states g.M.Columns.did c.args.self.now
    c.obey_columns-outcome.new.self c.args.command.now _ _ _ _ _ _ c.obey_columns-outcome.result c.obey_columns-outcome.ensures.obeys

pub returns-clause-stage : goal.returns-clause-stage
returns-clause-stage g c = c.obey_columns-outcome.ensures.obeys

pub returns-clause-named : goal.returns-clause-named
returns-clause-named g c =
    let old = c.args.self.now in
    let new = c.obey_columns-outcome.new.self in
    names_node_in_all g.M.Columns.cuts g.L.Lines.hear g.L.Lines.part (g.M.Columns.columns old.stage) (column_of g.M.Columns.states old) (column_of g.M.Columns.states new)
    c.args.command.now _ _ _ _ _ _ (first_of_some (g.M.Columns.columns old.stage) c.is_well_formed.ensures.some) c.obey_columns-outcome.result
    (in_all_alone g.M.Columns.cuts g.L.Lines.hear g.L.Lines.part g.M.Columns.columns g.M.Columns.states g.M.Columns.did old new
    c.args.command.now _ _ _ _ _ _ c.obey_columns-outcome.result c.obey_columns-outcome.ensures.obeys)
