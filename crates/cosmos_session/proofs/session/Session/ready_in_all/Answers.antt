-- What was built once was built in each column.
use Rattle.session_meaning.proofs.TruthLemmas.{readies_in_all, ready_keeps_given}
use Rattle.cosmos_session.proofs.session.Session.ready_in_all.Goals as goal

pub returns-clause-readies : goal.returns-clause-readies
returns-clause-readies g c =
    readies_in_all g.M.Columns.cuts g.M.Columns.columns g.M.Columns.states g.M.Columns.did c.args.self.now c.make_ready.new.self _ _
    c.make_ready.ensures.states c.make_ready.result c.make_ready.ensures.readies

pub returns-clause-kept : goal.returns-clause-kept
returns-clause-kept g c =
    ready_keeps_given g.M.Columns.columns g.M.Columns.states g.M.Columns.did g.met.M.TruthStage.moves g.M.TruthStage.gives g.M.TruthStage.letter_of
    g.M.TruthStage.bound g.met.M.TruthStage.keeps g.M.Columns.cuts c.args.self.now c.make_ready.new.self _ _ c.make_ready.result c.make_ready.ensures.readies
