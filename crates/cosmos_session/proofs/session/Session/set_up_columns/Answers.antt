-- What is set doesn't depend on the states, and the stage stays.
use Rattle.std.proofs.Common.{ap}
use Rattle.session_meaning.proofs.ColumnLemmas.{setup_in_all}
use Rattle.cosmos_session.proofs.session.Session.set_up_columns.Goals as goal

pub returns-clause-quiet : goal.returns-clause-quiet
returns-clause-quiet g c =
    setup_in_all g.M.Columns.columns g.M.Columns.states c.args.self.now c.set_up_alike.new.self c.args.setup.now c.requires.1 c.set_up_alike.ensures.stage
    c.set_up_alike.result c.set_up_alike.ensures.quiet

pub returns-clause-columns : goal.returns-clause-columns
returns-clause-columns g c = ap g.M.Columns.columns c.set_up_alike.ensures.stage
