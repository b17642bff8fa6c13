-- Each column has its letters, and the rest of the data stays.
use Rattle.session_meaning.specs.Truths.{letters_in_column}
use Rattle.session_meaning.proofs.TruthLemmas.{given_in_all}
use Rattle.cosmos_session.proofs.session.Session.give_in_all.Goals as goal

pub returns-clause-given : goal.returns-clause-given
returns-clause-given g c =
    given_in_all g.M.Columns.columns g.M.Columns.states c.args.self.now c.place_pairs.new.self c.place_pairs.ensures.core
    (letters_in_column g.M.TruthStage.letter_of c.args.self.now.stage c.args.pairs.now) c.place_pairs.ensures.states
