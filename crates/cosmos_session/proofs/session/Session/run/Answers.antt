-- What all columns come to the one comes to.
use Rattle.session_meaning.proofs.OneColumnLemmas.{obeys_in_one}
use Rattle.cosmos_session.proofs.session.Session.run.Goals as goal

pub returns-clause-obeys : goal.returns-clause-obeys
returns-clause-obeys g c =
    obeys_in_one g.M.Columns.columns g.M.Columns.states g.M.Columns.did g.met.M.PlainStage.one c.args.self.now c.run_any-done.new.self
    c.requires.session.same c.is_well_formed.ensures.same g.M.Columns.cuts g.L.Lines.hear g.L.Lines.part g.met.M.PlainStage.cuts_off c.args.run.now
    _ _ _ _ _ _ c.run_any-done.result c.run_any-done.ensures.obeys
