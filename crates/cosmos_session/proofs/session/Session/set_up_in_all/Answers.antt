-- What is set doesn't depend on the states, and the stage stays.
use Rattle.session_meaning.proofs.ColumnLemmas.{setup_in_all}
use Rattle.cosmos_session.proofs.session.Session.set_up_in_all.Goals as goal

pub returns-clause-quiet : goal.returns-clause-quiet
returns-clause-quiet g c =
    setup_in_all g.M.Columns.columns g.M.Columns.states c.args.self.now c.set_up_alike.new.self c.args.setup.now c.requires.1 c.set_up_alike.ensures.stage
    c.set_up_alike.result c.set_up_alike.ensures.quiet
