use Rattle.session_meaning.proofs.OutcomeLemmas.{names_node, obeys_alone}
use Rattle.cosmos_session.proofs.session.Session.apply_seen.Goals as goal

pub returns-clause-obeys : goal.returns-clause-obeys
returns-clause-obeys g c =
    obeys_alone g.L.Lines.hear g.L.Lines.part g.M.Columns.did c.args.self.now c.obey-outcome.new.self c.args.command.now _ _ _ _ _ _ c.obey-outcome.result
    c.obey-outcome.ensures.obeys

pub returns-clause-named : goal.returns-clause-named
returns-clause-named g c =
    names_node g.L.Lines.hear g.L.Lines.part c.args.self.now.core c.obey-outcome.new.self.core c.args.command.now _ _ _ _ _ _ c.obey-outcome.result
    (obeys_alone g.L.Lines.hear g.L.Lines.part g.M.Columns.did c.args.self.now c.obey-outcome.new.self c.args.command.now _ _ _ _ _ _ c.obey-outcome.result
    c.obey-outcome.ensures.obeys)
