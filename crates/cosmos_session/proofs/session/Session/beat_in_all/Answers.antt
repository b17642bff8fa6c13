-- A clock's node has its state in each column.
use Rattle.session_meaning.proofs.ColumnLemmas.{beat_put}
use Rattle.cosmos_session.proofs.session.Session.beat_in_all.Goals as goal

pub returns-clause-put : goal.returns-clause-put
returns-clause-put g c =
    beat_put g.M.Columns.columns g.M.Columns.states c.args.self.now c.place_beat.new.self c.args.place c.place_beat.ensures.core
    c.place_beat.ensures.states
